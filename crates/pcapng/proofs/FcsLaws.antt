-- What octets in hand begin with is what all begin with.
use Rattle.std.proofs.Common.{◌≡◌, ℕ, ◌+◌, ◌≤◌, Bool, true, false, ltb, List, [], ◌∷◌, ◌++◌, length, take, drop, Result, Ok, Err, inl, inr, refl, sym, ap, subst, ◌∙◌, append-nil, arith}
use Rattle.std.specs.Prelude.{◌≢◌, IfOk}
use Rattle.std.proofs.lemmas.List.{take-append-le, drop_all, length-append}
use Rattle.std.proofs.lemmas.Bool.{le-ltb, lt-ltb, cases_lt}
use Rattle.capture.specs.declared.format.Endian.{Endian}
use Rattle.capture.specs.declared.format.Endian.TheVariants.{Big, Little}
use Rattle.capture.specs.declared.format.TheConstants.{MAX_RECORD_OCTETS}
use Rattle.capture.specs.Numbers.{u32_at}
use Rattle.capture.proofs.RecordLemmas.{u32_at-front, u32_at-inner}
use Rattle.translated.specs.Outlook.{IsAfter, IsTurned}
use Rattle.pcapng.specs.declared.without_fcs.CutStage.{CutStage}
use Rattle.pcapng.specs.declared.without_fcs.CutStage.TheVariants.{Start, Records, Unchanged}
use Rattle.pcapng.specs.declared.without_fcs.Piece.{Piece}
use Rattle.pcapng.specs.declared.without_fcs.Piece.TheVariants.{Part, Rest, Header, Whole}
use Rattle.pcapng.specs.declared.without_fcs.WithoutFcs.{WithoutFcs}
use Rattle.pcapng.specs.Steps.{Taken, Ran, after}
use Rattle.pcapng.specs.WithoutFcs.{without_of, order_of, header_at, header_with, record_at, piece_at, cut_record, cuts, piece_taken, cut_step, cut_all}
use Rattle.pcapng.proofs.StepLaws.{run_here, run_piece}

order_of-front : (xs ys : List ℕ) → 4 ≤ length xs → order_of (xs ++ ys) ≡ order_of xs
order_of-front xs ys le = rw (u32_at-front Big xs ys le, u32_at-front Little xs ys le) refl

header_at-front : (xs ys : List ℕ) → header_at xs ≢ Part → header_at (xs ++ ys) ≡ header_at xs
header_at-front xs ys decided = elim (cases_lt (length xs) 24) [
  | inl short ↦ absurd (decided (rw (lt-ltb _ _ short) refl))
  | inr long ↦
      let whole : ltb (length xs) 24 ≡ false = le-ltb _ _ long in
      let more : ltb (length (xs ++ ys)) 24 ≡ false = le-ltb _ _ (omega (arith, length-append xs ys)) in
      rw (whole, more) (ap header_with (order_of-front xs ys (omega arith)))
]

pub record_at-front : (e : Endian) (xs ys : List ℕ) → record_at e xs ≢ Part → record_at e (xs ++ ys) ≡ record_at e xs
record_at-front e xs ys decided = elim (cases_lt (length xs) 16) [
  | inl short ↦ absurd (decided (rw (lt-ltb _ _ short) refl))
  | inr long ↦
      let n : ℕ = u32_at e (drop 8 xs) in
      let whole : ltb (length xs) 16 ≡ false = le-ltb _ _ long in
      let more : ltb (length (xs ++ ys)) 16 ≡ false = le-ltb _ _ (omega (arith, length-append xs ys)) in
      let same : u32_at e (drop 8 (xs ++ ys)) ≡ n = u32_at-inner e 8 xs ys (omega arith) in
      elim (cases_lt MAX_RECORD_OCTETS n) [
        | inl large ↦ rw (whole, more, same, lt-ltb _ _ large) refl
        | inr small ↦ elim (cases_lt (length xs) (16 + n)) [
          | inl torn ↦ absurd (decided (rw (whole, le-ltb _ _ small, lt-ltb _ _ torn) refl))
          | inr there ↦
              let there_too : ltb (length (xs ++ ys)) (16 + n) ≡ false = le-ltb _ _ (omega (arith, length-append xs ys)) in
              rw (whole, more, same, le-ltb _ _ small, le-ltb _ _ there, there_too) refl
        ]
      ]
]

piece_at-front : (s : CutStage) (xs ys : List ℕ) → piece_at s xs ≢ Part → piece_at s (xs ++ ys) ≡ piece_at s xs
piece_at-front Start xs ys decided = header_at-front xs ys decided
piece_at-front (Records e) xs ys decided = record_at-front e xs ys decided
piece_at-front Unchanged xs ys decided = refl

abbrev passed : List ℕ → Ran CutStage
passed xs = record { put = xs; last = Unchanged }

-- what is no capture is passed on
rest_all : (s : CutStage) (xs : List ℕ) → cut_step s xs ≡ cuts (length xs) xs Unchanged → cut_all s xs ≡ passed xs
rest_all s [] is = ap (λ (t : Taken CutStage). record { put = t.put; last = t.state }) is
rest_all s (x ∷ xs) is =
    let none : drop (length (x ∷ xs)) (x ∷ xs) ≡ [] = drop_all (length (x ∷ xs)) (x ∷ xs) (omega arith) in
    run_here cut_step s (x ∷ xs) (cuts (length (x ∷ xs)) (x ∷ xs) Unchanged) is (omega arith) (omega arith)
    ∙ ap (λ (l : List ℕ). after (x ∷ xs) (cut_all Unchanged l)) none ∙ ap passed (append-nil (x ∷ xs))

-- what was put is the first of what the octets are turned into
abbrev pub Cut : CutStage → CutStage → List ℕ → Bool → ℕ → List ℕ → Type 0
Cut old new octets is_last n put = (later : List ℕ) → IsAfter is_last later
    → (cut_all old (octets ++ later)).put ≡ put ++ (cut_all new (drop n octets ++ later)).put

passed_cut : (s : CutStage) (octets : List ℕ) (is_last : Bool) (put : List ℕ) → put ≡ octets
    → ((later : List ℕ) → IsAfter is_last later → cut_step s (octets ++ later) ≡ cuts (length (octets ++ later)) (octets ++ later) Unchanged)
    → Cut s Unchanged octets is_last (length octets) put
passed_cut s octets is_last put same steps later last =
    let rest : List ℕ = drop (length octets) octets ++ later in
    let none : rest ≡ later = ap (λ (l : List ℕ). l ++ later) (drop_all (length octets) octets (omega arith)) in
    let left : (cut_all s (octets ++ later)).put ≡ octets ++ later = ap (λ (r : Ran CutStage). r.put) (rest_all s (octets ++ later) (steps later last)) in
    let right : (cut_all Unchanged rest).put ≡ later = ap (λ (r : Ran CutStage). r.put) (rest_all Unchanged rest refl) ∙ none in
    left ∙ ap (λ (l : List ℕ). l ++ later) (sym same) ∙ ap (λ (l : List ℕ). put ++ l) (sym right)

part_not : (p : Piece) → p ≢ Part → (q : Piece) → p ≡ q → q ≢ Part
part_not p other q is bad = other (is ∙ bad)

-- where nothing is cut
pub rest_cut : (s : CutStage) (octets : List ℕ) (is_last : Bool) (put : List ℕ) → Rest ≡ piece_at s octets → put ≡ octets
    → Cut s Unchanged octets is_last (length octets) put
rest_cut s octets is_last put is same =
    let decided : piece_at s octets ≢ Part = part_not Rest (λ bad. absurd cc) (piece_at s octets) is in
    passed_cut s octets is_last put same
    (λ later last. ap (λ (p : Piece). piece_taken p (octets ++ later)) (piece_at-front s octets later decided ∙ sym is))

-- a part of a record, where no more of it comes
pub part_cut : (s : CutStage) (octets : List ℕ) (is_last : Bool) (put : List ℕ) → Part ≡ piece_at s octets → is_last ≡ true → put ≡ octets
    → Cut s Unchanged octets is_last (length octets) put
part_cut s octets is_last put is it same = passed_cut s octets is_last put same
    (λ later last.
    let none : octets ≡ octets ++ later = sym (ap (λ (l : List ℕ). octets ++ l) (last it) ∙ append-nil octets) in
    subst (λ (l : List ℕ). cut_step s l ≡ cuts (length l) l Unchanged) none (ap (λ (p : Piece). piece_taken p octets) (sym is)))

piece_cut : (s : CutStage) (octets : List ℕ) (is_last : Bool) (t : Taken CutStage)
    → ((later : List ℕ) → cut_step s (octets ++ later) ≡ t) → 1 ≤ t.count → t.count ≤ length octets
    → Cut s t.state octets is_last t.count t.put
piece_cut s octets is_last t steps some most later last =
    ap (λ (r : Ran CutStage). r.put) (run_piece cut_step s octets later t (steps later) some most)

-- a file header
pub header_cut : (s : CutStage) (e : Endian) (octets : List ℕ) (is_last : Bool) (put : List ℕ) → Header e ≡ piece_at s octets → 24 ≤ length octets
    → put ≡ take 24 octets → Cut s (Records e) octets is_last 24 put
header_cut s e octets is_last put is long same =
    let decided : piece_at s octets ≢ Part = part_not (Header e) (λ bad. absurd cc) (piece_at s octets) is in
    let cut = piece_cut s octets is_last (cuts 24 (take 24 octets) (Records e))
    (λ later. ap (λ (p : Piece). piece_taken p (octets ++ later)) (piece_at-front s octets later decided ∙ sym is)
    ∙ ap (λ (l : List ℕ). cuts 24 l (Records e)) (take-append-le 24 octets later long))
    (omega arith) long in
    subst (λ (l : List ℕ). Cut s (Records e) octets is_last 24 l) (sym same) cut

-- a record
pub whole_cut : (s : CutStage) (e : Endian) (n : ℕ) (octets : List ℕ) (is_last : Bool) (put : List ℕ) → Whole e n ≡ piece_at s octets
    → 16 ≤ n → n ≤ length octets → put ≡ cut_record e (take n octets) → Cut s (Records e) octets is_last n put
whole_cut s e n octets is_last put is some long same =
    let decided : piece_at s octets ≢ Part = part_not (Whole e n) (λ bad. absurd cc) (piece_at s octets) is in
    let cut = piece_cut s octets is_last (cuts n (cut_record e (take n octets)) (Records e))
    (λ later. ap (λ (p : Piece). piece_taken p (octets ++ later)) (piece_at-front s octets later decided ∙ sym is)
    ∙ ap (λ (l : List ℕ). cuts n (cut_record e l) (Records e)) (take-append-le n octets later long))
    (omega arith) long in
    subst (λ (l : List ℕ). Cut s (Records e) octets is_last n l) (sym same) cut

-- octets that are passed on are what they are turned into
pub passed_turned : {E : Type 0} (r : Result ℕ E) (old new : WithoutFcs) (octets : List ℕ) (is_last : Bool) (before put : List ℕ) → before ≡ []
    → ((put : List ℕ) → put ≡ octets → Cut old.stage Unchanged octets is_last (length octets) put)
    → IfOk r (λ n. (n ≡ length octets) × (new.stage ≡ Unchanged) × (put ≡ before ++ octets)) → IfOk r (λ n. IsTurned without_of old new octets is_last n put)
passed_turned (Err e) old new octets is_last before put none cut p = tt
passed_turned (Ok n) old new octets is_last before put none cut (count, stage, is) =
    let same : put ≡ octets = is ∙ ap (λ (l : List ℕ). l ++ octets) none in
    subst (λ (m : ℕ). Cut old.stage new.stage octets is_last m put) (sym count)
    (subst (λ (s : CutStage). Cut old.stage s octets is_last (length octets) put) (sym stage) (cut put same))
