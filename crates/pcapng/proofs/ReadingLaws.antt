-- What is taken of octets in hand is what is taken of all.
use Rattle.std.proofs.Common.{◌≡◌, ℕ, zero, suc, ◌+◌, ◌-◌, ◌*◌, ◌≤◌, ◌<◌, Bool, true, false, ltb, eqb, List, [], ◌∷◌, ◌++◌, length, take, drop, Some, None, Result, Ok, Err, inl, inr, refl, sym, ap, subst, ◌∙◌, append-nil, arith, length-drop}
use Rattle.std.specs.Prelude.{◌≢◌, IfOk}
use Rattle.std.proofs.lemmas.List.{drop-append-le, take-append-le, drop-drop, length-append}
use Rattle.std.proofs.lemmas.Bool.{le-ltb, lt-ltb, cases_lt, ltb-false, eq-eqb, ne_eqb}
use Rattle.capture.specs.declared.format.Endian.{Endian}
use Rattle.capture.specs.Numbers.{u32_at}
use Rattle.capture.specs.CaptureWriter.{written_format}
use Rattle.capture.specs.Layout.{spelled_record_header}
use Rattle.capture.proofs.RecordLemmas.{u32_at-inner}
use Rattle.translated.specs.Outlook.{IsAfter, IsTurned}
use Rattle.pcapng.specs.declared.fault.BlockKind.{BlockKind}
use Rattle.pcapng.specs.declared.fault.BlockKind.TheVariants.{ShortBlock, BadLength}
use Rattle.pcapng.specs.declared.block.Content.{Content}
use Rattle.pcapng.specs.declared.block.Content.TheVariants.{Section, Described, Framed, Passed}
use Rattle.pcapng.specs.declared.block.Found.{Found}
use Rattle.pcapng.specs.declared.stage.Passage.{Passage}
use Rattle.pcapng.specs.declared.stage.Stage.{Stage}
use Rattle.pcapng.specs.declared.stage.Stage.TheVariants.{Blocks, Passing, Ended}
use Rattle.pcapng.specs.declared.to_classic.PcapngToClassic.{PcapngToClassic}
use Rattle.pcapng.specs.Classic.{Reading, past, failed, goes, fails, content_taken, block_taken, rest_taken, end_taken, step_at, step, all_of, header_put}
use Rattle.pcapng.specs.Found.{found, IsFound, IsContent, asked_of, is_short}
use Rattle.pcapng.specs.Steps.{Taken, Ran, after, run, GoesOn, GoesFrom, IsOver}
use Rattle.pcapng.specs.Reader.{reading, Takes, IsNoted, classic_of, note_after}
use Rattle.pcapng.proofs.BlockLaws.{found-front}
use Rattle.pcapng.proofs.StepLaws.{run_here, run_piece, after_after}

-- nothing more is put, and the reading ends like this
abbrev over : List ℕ → Reading → Ran Reading
over put r = record { put = put; last = r }

-- what is known of a value holds in other words
pub if_ok : {E : Type 0} (r : Result ℕ E) (P Q : ℕ → Type 0) → ((n : ℕ) → P n → Q n) → IfOk r P → IfOk r Q
if_ok (Ok n) P Q f h = f n h
if_ok (Err e) P Q f h = tt

ended_step : (r : Reading) → r.stage ≡ Ended → (xs : List ℕ) → step r xs ≡ goes (length xs) [] r
ended_step r e xs = ap (λ (s : Stage). step_at s r xs) e

ended_run : (n : ℕ) (r : Reading) → r.stage ≡ Ended → (xs : List ℕ) → run step n r xs ≡ over [] r
ended_run zero r e xs = refl
ended_run (suc n) r e [] = ap (λ (t : Taken Reading). over t.put t.state) (ended_step r e [])
ended_run (suc n) r e (x ∷ xs) =
    ap (λ (t : Taken Reading). after t.put (run step n t.state (drop (t.count - 1) xs))) (ended_step r e (x ∷ xs))
    ∙ ap (after []) (ended_run n r e (drop (length (x ∷ xs) - 1) xs))

-- after the end nothing is put
pub ended_all : (r : Reading) → r.stage ≡ Ended → (xs : List ℕ) → all_of r xs ≡ over [] r
ended_all r e xs = ended_run (suc (length xs)) r e xs

-- a fault ends it
fails_all : (r : Reading) (kind : BlockKind) (xs : List ℕ) → step r xs ≡ fails r kind xs → all_of r xs ≡ over (0 ∷ []) (failed r kind)
fails_all r kind [] is = ap (λ (t : Taken Reading). over t.put t.state) is
fails_all r kind (x ∷ xs) is =
    run_here step r (x ∷ xs) (fails r kind (x ∷ xs)) is (omega arith) (omega arith)
    ∙ ap (after (0 ∷ [])) (ended_all (failed r kind) refl (drop (length (x ∷ xs)) (x ∷ xs)))

-- a fault that is found of the octets in hand is that of all
pub failed_goes_on : (old new : PcapngToClassic) (kind : BlockKind) (octets : List ℕ) (is_last : Bool) (n : ℕ) (before now : List ℕ)
    → ((later : List ℕ) → IsAfter is_last later → step (reading old) (octets ++ later) ≡ fails (reading old) kind (octets ++ later))
    → Takes (fails (reading old) kind octets) n before now old new
    → GoesOn step (reading old) (reading new) octets is_last n before now
failed_goes_on old new kind octets is_last n before now steps k later last =
    let f = failed (reading old) kind in
    let rest : List ℕ = drop n octets ++ later in
    let left : after before (all_of (reading old) (octets ++ later)) ≡ over (before ++ 0 ∷ []) f =
    ap (after before) (fails_all (reading old) kind (octets ++ later) (steps later last)) in
    let right : after now (all_of (reading new) rest) ≡ over (now ++ []) f =
    ap (λ (r : Reading). after now (all_of r rest)) k.state ∙ ap (after now) (ended_all f refl rest) in
    left ∙ ap (λ (p : List ℕ). over p f) (sym k.put ∙ sym (append-nil now)) ∙ sym right

longer : (before now : List ℕ) → now ≡ before ++ 0 ∷ [] → now ≡ before → ⊥
longer before now is same = omega (arith, ap length is, ap length same, length-append before (0 ∷ []))

-- a fault is put, so the reading isn't over
pub failed_over : (old new : PcapngToClassic) (kind : BlockKind) (octets : List ℕ) (is_last : Bool) (n : ℕ) (before now : List ℕ)
    → Takes (fails (reading old) kind octets) n before now old new → IsOver step (reading new) octets is_last n before now
failed_over old new kind octets is_last n before now k last none same = absurd (longer before now k.put same)

-- the rest of a block

rest_step : (r : Reading) (p : Passage) (xs : List ℕ) → r.stage ≡ Passing p → step r xs ≡ rest_taken r p xs
rest_step r p xs e = ap (λ (s : Stage). step_at s r xs) e

pub rest_short : (r : Reading) (p : Passage) (xs : List ℕ) → r.stage ≡ Passing p → length xs < p.left + 4 → step r xs ≡ fails r ShortBlock xs
rest_short r p xs e few = rest_step r p xs e ∙ rw (lt-ltb _ _ few) refl

pub rest_bad : (r : Reading) (p : Passage) (xs : List ℕ) → r.stage ≡ Passing p → p.left + 4 ≤ length xs → u32_at p.endian (drop p.left xs) ≢ p.length
    → step r xs ≡ fails r BadLength xs
rest_bad r p xs e some other = rest_step r p xs e ∙ rw (le-ltb _ _ some, ne_eqb _ _ other) refl

rest_good : (r : Reading) (p : Passage) (xs : List ℕ) → r.stage ≡ Passing p → p.left + 4 ≤ length xs → u32_at p.endian (drop p.left xs) ≡ p.length
    → step r xs ≡ goes (p.left + 4) [] (past r p.length)
rest_good r p xs e some same = rest_step r p xs e ∙ rw (le-ltb _ _ some, eq-eqb _ _ same) refl

-- a length at the end that differs, whatever comes later
pub rest_bad_later : (r : Reading) (p : Passage) (octets later : List ℕ) → r.stage ≡ Passing p → p.left + 4 ≤ length octets
    → u32_at p.endian (drop p.left octets) ≢ p.length → step r (octets ++ later) ≡ fails r BadLength (octets ++ later)
rest_bad_later r p octets later e some other =
    let inner = u32_at-inner p.endian p.left octets later some in
    rest_bad r p (octets ++ later) e (omega (arith, length-append octets later)) (λ same. other (sym inner ∙ same))

-- too few octets, where none comes any more
pub rest_short_last : (r : Reading) (p : Passage) (octets later : List ℕ) → r.stage ≡ Passing p → length octets < p.left + 4 → later ≡ []
    → step r (octets ++ later) ≡ fails r ShortBlock (octets ++ later)
rest_short_last r p octets later e few none =
    rest_short r p (octets ++ later) e (omega (arith, length-append octets later, ap length none))

-- the whole rest is taken
pub rest_goes_on : (old new : Reading) (p : Passage) (octets : List ℕ) (is_last : Bool) (before : List ℕ) → old.stage ≡ Passing p
    → p.left + 4 ≤ length octets → u32_at p.endian (drop p.left octets) ≡ p.length → new ≡ past old p.length
    → GoesOn step old new octets is_last (p.left + 4) before before
rest_goes_on old new p octets is_last before e some same is later last =
    let inner = u32_at-inner p.endian p.left octets later some in
    let first = rest_good old p (octets ++ later) e (omega (arith, length-append octets later)) (inner ∙ same) in
    let t : Taken Reading = goes (p.left + 4) [] (past old p.length) in
    ap (after before) (run_piece step old octets later t first (omega arith) some)
    ∙ ap (λ (r : Reading). after before (all_of r (drop (p.left + 4) octets ++ later))) (sym is)

-- how a block that is passed over ends: too few octets, or the same length once more, or another
abbrev ran_by : Bool → Bool → Reading → Passage → List ℕ → Ran Reading
ran_by true same r p xs = over (0 ∷ []) (failed r ShortBlock)
ran_by false true r p xs = all_of (past r p.length) (drop (p.left + 4) xs)
ran_by false false r p xs = over (0 ∷ []) (failed r BadLength)

abbrev taken_by : Bool → Bool → Reading → Passage → List ℕ → Taken Reading
taken_by true same r p xs = fails r ShortBlock xs
taken_by false true r p xs = goes (p.left + 4) [] (past r p.length)
taken_by false false r p xs = fails r BadLength xs

taken_by_is : (few same : Bool) (r : Reading) (p : Passage) (xs : List ℕ) → ltb (length xs) (p.left + 4) ≡ few
    → eqb (u32_at p.endian (drop p.left xs)) p.length ≡ same → rest_taken r p xs ≡ taken_by few same r p xs
taken_by_is true same r p xs a b = rw a refl
taken_by_is false true r p xs a b = rw (a, b) refl
taken_by_is false false r p xs a b = rw (a, b) refl

ran_by_is : (few same : Bool) (r : Reading) (p : Passage) (xs : List ℕ) → step r xs ≡ taken_by few same r p xs
    → (few ≡ false → p.left + 4 ≤ length xs) → all_of r xs ≡ ran_by few same r p xs
ran_by_is true same r p xs is some = fails_all r ShortBlock xs is
ran_by_is false false r p xs is some = fails_all r BadLength xs is
ran_by_is false true r p xs is some =
    let long : p.left + 4 ≤ length xs = some refl in
    run_here step r xs (goes (p.left + 4) [] (past r p.length)) is (omega arith) (omega arith)

rest_all : (few same : Bool) (r : Reading) (p : Passage) (xs : List ℕ) → r.stage ≡ Passing p → ltb (length xs) (p.left + 4) ≡ few
    → eqb (u32_at p.endian (drop p.left xs)) p.length ≡ same → all_of r xs ≡ ran_by few same r p xs
rest_all few same r p xs e a b =
    ran_by_is few same r p xs (rest_step r p xs e ∙ taken_by_is few same r p xs a b) (λ no. ltb-false _ _ (a ∙ no))

ltb_moved : (a b k : ℕ) → k ≤ a → k ≤ b → ltb (a - k) (b - k + 4) ≡ ltb a (b + 4)
ltb_moved a b k ka kb = elim (cases_lt a (b + 4)) [
  | inl few ↦ lt-ltb (a - k) (b - k + 4) (omega arith) ∙ sym (lt-ltb a (b + 4) few)
  | inr many ↦ le-ltb (a - k) (b - k + 4) (omega arith) ∙ sym (le-ltb a (b + 4) many)
]

ran_moved : (few same : Bool) (r s : Reading) (p q : Passage) (xs ys : List ℕ) → failed r ShortBlock ≡ failed s ShortBlock
    → failed r BadLength ≡ failed s BadLength → past r p.length ≡ past s q.length → drop (p.left + 4) xs ≡ drop (q.left + 4) ys
    → ran_by few same r p xs ≡ ran_by few same s q ys
ran_moved true same r s p q xs ys a b d e = ap (over (0 ∷ [])) a
ran_moved false false r s p q xs ys a b d e = ap (over (0 ∷ [])) b
ran_moved false true r s p q xs ys a b d e =
    ap (λ (t : Reading). all_of t (drop (p.left + 4) xs)) d ∙ ap (all_of (past s q.length)) e

-- a block that is passed over, after so many of its octets
abbrev pub moved : Reading → Passage → ℕ → Reading
moved r p k = record r { stage = Passing (record p { left = p.left - k }) }

part_all : (r : Reading) (p : Passage) (k : ℕ) (xs : List ℕ) → r.stage ≡ Passing p → k ≤ p.left → k ≤ length xs
    → all_of r xs ≡ all_of (moved r p k) (drop k xs)
part_all r p k xs e within some =
    let q : Passage = record p { left = p.left - k } in
    let few = ltb (length xs) (p.left + 4) in
    let same = eqb (u32_at p.endian (drop p.left xs)) p.length in
    let place : k + (p.left - k) ≡ p.left = omega arith in
    let there : drop (p.left - k) (drop k xs) ≡ drop p.left xs = drop-drop (p.left - k) k xs ∙ ap (λ (j : ℕ). drop j xs) place in
    let len : length (drop k xs) ≡ length xs - k = length-drop k xs in
    let few_is : ltb (length (drop k xs)) (q.left + 4) ≡ few = ap (λ (j : ℕ). ltb j (q.left + 4)) len ∙ ltb_moved (length xs) p.left k some within in
    let same_is : eqb (u32_at q.endian (drop q.left (drop k xs))) q.length ≡ same = ap (λ (l : List ℕ). eqb (u32_at p.endian l) p.length) there in
    let sum : k + (q.left + 4) ≡ p.left + 4 = omega arith in
    let rest : drop (p.left + 4) xs ≡ drop (q.left + 4) (drop k xs) = sym (drop-drop (q.left + 4) k xs ∙ ap (λ (j : ℕ). drop j xs) sum) in
    rest_all few same r p xs e refl refl
    ∙ ran_moved few same r (moved r p k) p q xs (drop k xs) refl refl refl rest
    ∙ sym (rest_all few same (moved r p k) q (drop k xs) refl few_is same_is)

-- a part of the rest is taken
pub part_goes_on : (old new : Reading) (p : Passage) (k : ℕ) (octets : List ℕ) (is_last : Bool) (before : List ℕ) → old.stage ≡ Passing p
    → k ≤ p.left → k ≤ length octets → new ≡ moved old p k → GoesOn step old new octets is_last k before before
part_goes_on old new p k octets is_last before e within some is later last =
    ap (after before) (part_all old p k (octets ++ later) e within (omega (arith, length-append octets later))
    ∙ ap (all_of (moved old p k)) (drop-append-le k octets later some))
    ∙ ap (λ (r : Reading). after before (all_of r (drop k octets ++ later))) (sym is)

-- blocks

pub block_step : (r : Reading) (xs : List ℕ) → r.stage ≡ Blocks → 1 ≤ length xs → step r xs ≡ block_taken r xs (found r.section r.interfaces xs)
block_step r [] e some = absurd (omega arith)
block_step r (x ∷ xs) e some = ap (λ (s : Stage). step_at s r (x ∷ xs)) e

record-front : (s n : ℕ) (xs ys : List ℕ) → s + n ≤ length xs → take n (drop s (xs ++ ys)) ≡ take n (drop s xs)
record-front s n xs ys le =
    ap (take n) (drop-append-le s xs ys (omega arith)) ∙ take-append-le n (drop s xs) ys (omega (arith, length-drop s xs))

pub content-front : (r : Reading) (xs ys : List ℕ) (e : Endian) (m size : ℕ) (content : Content) → IsContent m size content
    → asked_of size content ≤ length xs → content_taken r (xs ++ ys) e size content ≡ content_taken r xs e size content
content-front r xs ys e m size Section fits there = refl
content-front r xs ys e m size (Described i) fits there = refl
content-front r xs ys e m size Passed fits there = refl
content-front r xs ys e m size (Framed p) fits there =
    let t = content_taken r xs e size (Framed p) in
    ap (λ (l : List ℕ). goes size (spelled_record_header written_format (p.moment * 1000) p.captured p.original ++ l) t.state)
    (record-front p.start p.captured xs ys (omega (arith, fits.0)))

content_count : (r : Reading) (xs : List ℕ) (e : Endian) (size : ℕ) (content : Content) → 12 ≤ size → asked_of size content ≤ length xs
    → (1 ≤ (content_taken r xs e size content).count) × ((content_taken r xs e size content).count ≤ length xs)
content_count r xs e size Section least there = (omega arith, omega arith)
content_count r xs e size (Described i) least there = (omega arith, omega arith)
content_count r xs e size (Framed p) least there = (omega arith, omega arith)
content_count r xs e size Passed least there = (omega arith, omega arith)

abbrev taken_of : PcapngToClassic → List ℕ → Found → Taken Reading
taken_of old octets f = content_taken (reading old) octets f.endian f.length f.content

-- some octets were taken, and no more than there are
pub taken_count : (old new : PcapngToClassic) (f : Found) (octets : List ℕ) (n m : ℕ) (before now : List ℕ)
    → Takes (taken_of old octets f) n before now old new → IsFound m (length octets) f → (1 ≤ n) × (n ≤ length octets)
taken_count old new f octets n m before now k fits =
    let count = content_count (reading old) octets f.endian f.length f.content fits.least fits.there in
    subst (λ (j : ℕ). (1 ≤ j) × (j ≤ length octets)) k.count count

pub ok_err : (f : Found) → ◌≡◌ {A = Result Found BlockKind} (Ok f) (Err ShortBlock) → ⊥
ok_err f is = cc

err_is : (kind : BlockKind) → ◌≡◌ {A = Result Found BlockKind} (Err kind) (Err ShortBlock) → kind ≡ ShortBlock
err_is kind is = cc

-- a block that is found of the octets in hand is the first of all
pub taken_goes_on : (old new : PcapngToClassic) (f : Found) (octets : List ℕ) (is_last : Bool) (n m : ℕ) (before now : List ℕ)
    → old.stage ≡ Blocks → found old.section old.interfaces.items octets ≡ Ok f → IsFound m (length octets) f
    → Takes (taken_of old octets f) n before now old new → GoesOn step (reading old) (reading new) octets is_last n before now
taken_goes_on old new f octets is_last n m before now e is fits k later last =
    let r = reading old in
    let t = taken_of old octets f in
    let count = content_count r octets f.endian f.length f.content fits.least fits.there in
    let decided : found r.section r.interfaces octets ≢ Err ShortBlock = λ bad. ok_err f (sym is ∙ bad) in
    let front : found r.section r.interfaces (octets ++ later) ≡ Ok f = found-front r.section r.interfaces octets later decided ∙ is in
    let here : 1 ≤ length (octets ++ later) = omega (arith, length-append octets later, count.0, count.1) in
    let first : step r (octets ++ later) ≡ t =
    block_step r (octets ++ later) e here ∙ ap (block_taken r (octets ++ later)) front
    ∙ content-front r octets later f.endian m f.length f.content fits.content_fits fits.there in
    let whole = run_piece step r octets later t first count.0 count.1 in
    let rest : List ℕ = drop n octets ++ later in
    ap (after before) whole ∙ after_after before t.put (all_of t.state (drop t.count octets ++ later))
    ∙ ap (λ (l : List ℕ). after l (all_of t.state (drop t.count octets ++ later))) (sym k.put)
    ∙ ap (λ (j : ℕ). after now (all_of t.state (drop j octets ++ later))) k.count
    ∙ ap (λ (s : Reading). after now (all_of s rest)) (sym k.state)

short_is : (kind : BlockKind) → is_short kind ≡ false → kind ≡ ShortBlock → ⊥
short_is kind other is = let same : is_short kind ≡ true = ap is_short is in cc

-- a faulty block of the octets in hand is faulty in all, unless it is only not there whole
pub block_fails : (r : Reading) (kind : BlockKind) (octets later : List ℕ) (is_last : Bool) → r.stage ≡ Blocks
    → found r.section r.interfaces octets ≡ Err kind → (is_last ≡ false → is_short kind ≡ false) → 1 ≤ length octets
    → IsAfter is_last later → step r (octets ++ later) ≡ fails r kind (octets ++ later)
block_fails r kind octets later true e is decided some last =
    let none : octets ++ later ≡ octets = ap (λ (l : List ℕ). octets ++ l) (last refl) ∙ append-nil octets in
    subst (λ (l : List ℕ). step r l ≡ fails r kind l) (sym none) (block_step r octets e some ∙ ap (block_taken r octets) is)
block_fails r kind octets later false e is decided some last =
    let whole : found r.section r.interfaces octets ≢ Err ShortBlock = λ bad. short_is kind (decided refl) (err_is kind (sym is ∙ bad)) in
    let front = found-front r.section r.interfaces octets later whole ∙ is in
    block_step r (octets ++ later) e (omega (arith, length-append octets later)) ∙ ap (block_taken r (octets ++ later)) front

-- nothing is there where a first block has to come
pub none_fails : (r : Reading) (later : List ℕ) (is_last : Bool) → r.stage ≡ Blocks → r.section ≡ None → is_last ≡ true → IsAfter is_last later
    → step r later ≡ fails r ShortBlock later
none_fails r later is_last e none it last =
    subst (λ (l : List ℕ). step r l ≡ fails r ShortBlock l) (sym (last it))
    (ap (λ (s : Stage). step_at s r []) e ∙ ap (end_taken r) none)

-- the end between blocks
pub end_all : (r : Reading) (endian : Endian) → r.stage ≡ Blocks → r.section ≡ Some endian → all_of r [] ≡ over [] r
end_all r endian e some =
    ap (λ (t : Taken Reading). over t.put t.state) (ap (λ (s : Stage). step_at s r []) e ∙ ap (end_taken r) some)

-- a first piece and then more
pub goes_all : (old mid new : Reading) (octets : List ℕ) (is_last : Bool) (first at : ℕ) (before now more : List ℕ)
    → GoesOn step old mid octets is_last first before now → GoesFrom step mid new octets is_last first at now more
    → GoesOn step old new octets is_last at before more
goes_all old mid new octets is_last first at before now more a b later last = a later last ∙ b later last

-- what was put is the first of what the octets are turned into
pub turned : (old new : PcapngToClassic) (octets : List ℕ) (is_last : Bool) (n : ℕ) (put : List ℕ) → old.has_header ≡ true → new.has_header ≡ true
    → GoesOn step (reading old) (reading new) octets is_last n [] put → IsTurned classic_of old new octets is_last n put
turned old new octets is_last n put a b goes later last =
    let left : classic_of old (octets ++ later) ≡ (all_of (reading old) (octets ++ later)).put =
    ap (λ (h : Bool). header_put h ++ (all_of (reading old) (octets ++ later)).put) a in
    let right : classic_of new (drop n octets ++ later) ≡ (all_of (reading new) (drop n octets ++ later)).put =
    ap (λ (h : Bool). header_put h ++ (all_of (reading new) (drop n octets ++ later)).put) b in
    left ∙ ap (λ (r : Ran Reading). r.put) (goes later last) ∙ ap (λ (l : List ℕ). put ++ l) (sym right)

pub noted : (old new : PcapngToClassic) (octets : List ℕ) (is_last : Bool) (n : ℕ) (put : List ℕ)
    → GoesOn step (reading old) (reading new) octets is_last n [] put → IsNoted note_after old new octets is_last n
noted old new octets is_last n put goes later last = ap (λ (r : Ran Reading). r.last.noted) (goes later last)

-- where the reading is over, nothing is put any more
pub over_done : (new : PcapngToClassic) (octets : List ℕ) → new.has_header ≡ true → all_of (reading new) octets ≡ record { put = []; last = reading new }
    → classic_of new octets ≡ []
over_done new octets a is =
    ap (λ (h : Bool). header_put h ++ (all_of (reading new) octets).put) a ∙ ap (λ (r : Ran Reading). r.put) is

-- after a fault nothing is put any more, whatever comes
pub ended_classic : (t : PcapngToClassic) → t.stage ≡ Ended → t.has_header ≡ true → (octets : List ℕ) → classic_of t octets ≡ []
ended_classic t e a octets =
    ap (λ (h : Bool). header_put h ++ (all_of (reading t) octets).put) a ∙ ap (λ (r : Ran Reading). r.put) (ended_all (reading t) e octets)
