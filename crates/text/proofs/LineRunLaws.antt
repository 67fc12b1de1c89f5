-- A run of octets that are no line feed.
use Rattle.std.proofs.Common.{◌≡◌, ◌≤◌, ◌<◌, ◌+◌, ◌++◌, ℕ, zero, suc, Bool, true, false, eqb, List, [], ◌∷◌, Option, Some, None, Result, cond, length, take, refl, sym, ap, subst, add-zero, ◌∙◌, append_assoc, append-nil, drop, Ok, arith, if◌then◌else◌}
use Rattle.std.proofs.lemmas.List.{at_drop_more, length-drop, length-take-le, take-append-drop}
use Rattle.std.specs.Prelude.{not, ◌&&◌, ◌==◌, get_or, option_map}
use Rattle.std.specs.List.{list_all}
use Rattle.memchr.specs.Find.{Nowhere, Passes, is_byte}
use Rattle.text.specs.Source.{octets_left}
use Rattle.text.specs.Script.{ends_in, fresh, joins, script_from}
use Rattle.text.specs.LineReader.{Advances, EndsLine, hand, hand_by, in_hand, lines_left, script_from_hand, script_left, script_past}
use Rattle.text.specs.declared.line_reader.lines.LineFault.{LineFault}
use Rattle.text.specs.declared.line_reader.lines.LineReader.{LineReader}
use Rattle.text.specs.declared.line_reader.lines.TheConstants.{MAX_LINE_OCTETS, MAX_LINES}
use Rattle.text.proofs.PhysicalLineLaws.{line_end, run_within}

both_tests : (t u : Bool) → (t ≡ true → ⊥) → u ≡ true → (not t && u) ≡ true
both_tests true u h e = absurd (h refl)
both_tests false u h e = e

-- the octets before the first line feed
pub unbroken_before : (n : ℕ) (hay : List ℕ) → Nowhere (Passes (is_byte 10) hay) 0 n → list_all (λ octet. not (octet == 10)) (take n hay) ≡ true
unbroken_before zero hay h = refl
unbroken_before (suc n) [] h = refl
unbroken_before (suc n) (b ∷ bs) h = both_tests (eqb b 10) _ (h zero (omega arith) (omega arith)) (unbroken_before n bs (λ k low high is. h (suc k) (omega arith) (omega arith) is))

pub unbroken_all : (hay : List ℕ) → Nowhere (Passes (is_byte 10) hay) 0 (length hay) → list_all (λ octet. not (octet == 10)) hay ≡ true
unbroken_all [] h = refl
unbroken_all (b ∷ bs) h = both_tests (eqb b 10) _ (h zero (omega arith) (omega arith)) (unbroken_all bs (λ k low high is. h (suc k) (omega arith) (omega arith) is))

-- what is to come after a run that was taken is what was to come
pub after_run : (known : Option (List ℕ)) (tail : List ℕ → List ℕ) (octets run back front : List ℕ) (first breaks : ℕ) → front ≡ run ++ back
    → list_all (λ octet. not (octet == 10)) run ≡ true → length octets + length run ≤ MAX_LINE_OCTETS → breaks < MAX_LINES
    → option_map (script_from (record { octets = octets ++ run; first = first; breaks = breaks })) (option_map (λ xs. back ++ tail xs) known)
    ≡ option_map (script_from (record { octets = octets; first = first; breaks = breaks })) (option_map (λ xs. front ++ tail xs) known)
after_run None tail octets run back front first breaks parts unbroken short few = refl
after_run (Some xs) tail octets run back front first breaks parts unbroken short few =
    ap Some (sym (ap (λ f. script_from (record { octets = octets; first = first; breaks = breaks }) (f ++ tail xs)) parts
    ∙ ap (script_from (record { octets = octets; first = first; breaks = breaks })) (append_assoc run back (tail xs))
    ∙ run_within octets run (back ++ tail xs) first breaks unbroken short few))

-- the octets before a line feed, and what comes after it
pub line_parts : (n : ℕ) (octets : List ℕ) → n < length octets → get_or octets n 0 ≡ 10 → octets ≡ take n octets ++ (10 ∷ drop (n + 1) octets)
line_parts n octets within ended =
    sym (take-append-drop n octets)
    ∙ ap (λ t. take n octets ++ t) (at_drop_more (λ (l : List ℕ). l) octets n 0 within ∙ ap (λ b. b ∷ drop (n + 1) octets) ended)

rules_out : true ≡ false → ⊥
rules_out e = cc

-- whether a line ends among octets, one octet on
by_feed : (t : Bool) (x y : Bool) → t ≡ false → (if t then x else y) ≡ y
by_feed false x y e = refl
by_feed true x y e = absurd (rules_out e)

first_not : (t u : Bool) → (not t && u) ≡ true → t ≡ false
first_not false u e = refl
first_not true u e = absurd (rules_out (sym e))

second_too : (t u : Bool) → (not t && u) ≡ true → u ≡ true
second_too false u e = e
second_too true u e = absurd (rules_out (sym e))

-- octets without a line feed end no line
pub no_feed : (line hay : List ℕ) → list_all (λ octet. not (octet == 10)) hay ≡ true → ends_in line hay ≡ false
no_feed line [] e = refl
no_feed line (b ∷ bs) e = by_feed (b == 10) _ _ (first_not (b == 10) _ e) ∙ no_feed (line ++ b ∷ []) bs (second_too (b == 10) _ e)

-- they are of the physical line that stands before a feed
past_front : (line front rest : List ℕ) → list_all (λ octet. not (octet == 10)) front ≡ true → ends_in line (front ++ rest) ≡ ends_in (line ++ front) rest
past_front line [] rest e = ap (λ l. ends_in l rest) (sym (append-nil line))
past_front line (b ∷ bs) rest e =
    by_feed (b == 10) _ _ (first_not (b == 10) _ e)
    ∙ (past_front (line ++ b ∷ []) bs rest (second_too (b == 10) _ e) ∙ ap (λ l. ends_in l rest) (append_assoc line (b ∷ []) bs))

-- the first line feed ends a line, or joins the next physical one
pub at_feed : (n : ℕ) (hay : List ℕ) → n < length hay → get_or hay n 0 ≡ 10 → list_all (λ octet. not (octet == 10)) (take n hay) ≡ true
    → ends_in [] hay ≡ (if joins (take n hay) then ends_in [] (drop (n + 1) hay) else true)
at_feed n hay within feed unbroken = ap (ends_in []) (line_parts n hay within feed) ∙ past_front [] (take n hay) (10 ∷ drop (n + 1) hay) unbroken

-- a line that stands whole in hand is the next one
pub whole_line : (known : Option (List ℕ)) (tail : List ℕ → List ℕ) (n breaks : ℕ) (octets : List ℕ) → EndsLine octets n → n ≤ MAX_LINE_OCTETS → breaks < MAX_LINES
    → Advances (option_map (script_from (fresh breaks)) (option_map (λ xs. octets ++ tail xs) known)) (Ok true) (breaks + 1) (take n octets)
    (option_map (script_from (fresh (breaks + 1))) (option_map (λ xs. drop (n + 1) octets ++ tail xs) known))
whole_line None tail n breaks octets is short few = tt
whole_line (Some xs) tail n breaks octets is short few =
    let line = take n octets in
    let rest = drop (n + 1) octets ++ tail xs in
    let long : length line ≡ n = length-take-le n octets (omega (arith, is.within)) in (
      script_from (fresh (breaks + 1)) rest,
      refl,
      ap (λ f. script_from (fresh breaks) (f ++ tail xs)) (line_parts n octets is.within is.ended)
          ∙ ap (script_from (fresh breaks)) (append_assoc line (10 ∷ drop (n + 1) octets) (tail xs))
          ∙ run_within [] line (10 ∷ rest) (breaks + 1) breaks is.unbroken (omega arith) few
          ∙ line_end line rest (breaks + 1) breaks is.unjoined few,
    )

-- lines that are passed in hand: none yet
pub none_passed : {R A : Type 0} (remaining : R → Option (List ℕ)) (r : LineReader R A) → script_past remaining r (hand r) 0 ≡ script_left remaining r
none_passed remaining r = by r.ended refl
  where
    by : (ended : Option (Result (Unit {0}) LineFault)) → r.ended ≡ ended → script_past remaining r (hand r) 0 ≡ script_left remaining r
    by None is = rw is (ap (λ n. option_map (script_from (fresh n)) (octets_left remaining r.source)) (add-zero r.breaks))
    by (Some ended) is = rw is refl

-- one more, which stands whole in front of what is left
pub one_passed : {R A : Type 0} (remaining : R → Option (List ℕ)) (r : LineReader R A) (octets : List ℕ) (lines n : ℕ) → r.ended ≡ None → EndsLine octets n → n ≤ MAX_LINE_OCTETS → lines < lines_left r
    → Advances (script_past remaining r octets lines) (Ok true) (r.breaks + lines + 1) (take n octets) (script_past remaining r (drop (n + 1) octets) (lines + 1))
one_passed remaining r octets lines n unended is short few =
    let law = whole_line (remaining r.source.reader) (λ (xs : List ℕ). cond r.source.ended [] xs) n (r.breaks + lines) octets is short (omega (arith, few)) in
    rw unended (subst (λ b. Advances (script_from_hand remaining r octets lines) (Ok true) (r.breaks + lines + 1) (take n octets) (option_map (script_from (fresh b)) (option_map (λ xs. drop (n + 1) octets ++ cond r.source.ended [] xs) (remaining r.source.reader)))) (omega arith) law)

-- where octets are left in hand, the lines haven't ended
pub unended : {R A : Type 0} (r : LineReader R A) (k : ℕ) → 0 < length (drop k (hand r)) → r.ended ≡ None
unended r k there = by r.ended refl
  where
    by : (ended : Option (Result (Unit {0}) LineFault)) → r.ended ≡ ended → r.ended ≡ None
    by None is = is
    by (Some ended) is =
        let none : hand r ≡ [] = ap (λ e. hand_by e (in_hand r)) is in
        absurd (omega (arith, there, ap (λ octets. length (drop k octets)) none, length-drop {A = ℕ} k []))
