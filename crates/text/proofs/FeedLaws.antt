-- A line feed that joins nothing: from each place before it on, a line stands whole.
use Rattle.std.proofs.Common.{◌≡◌, ◌≤◌, ◌<◌, ◌+◌, ◌-◌, ◌++◌, ℕ, zero, suc, Bool, true, false, List, [], ◌∷◌, length, take, drop, refl, sym, ap, ◌∙◌, append_assoc, append-nil, arith, if◌then◌else◌}
use Rattle.std.specs.Prelude.{◌==◌, ◌||◌, ◌&&◌, get_or}
use Rattle.std.specs.List.{slice_index}
use Rattle.text.specs.Script.{ends_in, joins}
use Rattle.text.proofs.LineRunLaws.{line_parts}

rules_out : true ≡ false → ⊥
rules_out e = cc

-- whether octets join, by their last two places
abbrev joins_at : ℕ → ℕ → List ℕ → Bool
joins_at last before octets = (slice_index octets last == 92) || ((slice_index octets last == 13) && (slice_index octets before == 92))

-- what joins does so behind one octet more too
joins_behind : (x : ℕ) (octets : List ℕ) → joins (x ∷ octets) ≡ false → joins octets ≡ false
joins_behind x [] h = refl
joins_behind x (y ∷ []) h = one (y == 92) (y == 13) (x == 92) h where
  one : (t u v : Bool) → (t || (u && v)) ≡ false → (t || (u && t)) ≡ false
  one false true v e = refl
  one false false v e = refl
  one true u v e = absurd (rules_out e)
joins_behind x (y ∷ z ∷ rest) h =
    let n = length rest in
    let one : suc n ≡ suc (suc n) - 1 = omega arith in
    let two : n ≡ suc (suc n) - 2 = omega arith in
    let three : suc (suc (suc n)) - 1 ≡ suc (suc n) = omega arith in
    let four : suc (suc (suc n)) - 2 ≡ suc n = omega arith in
    sym (ap (λ k. joins_at k (suc (suc n) - 2) (y ∷ z ∷ rest)) one) ∙ sym (ap (λ k. joins_at (suc n) k (y ∷ z ∷ rest)) two)
    ∙ sym (ap (λ k. joins_at k (suc n) (x ∷ y ∷ z ∷ rest)) three) ∙ sym (ap (λ k. joins_at (suc (suc (suc n)) - 1) k (x ∷ y ∷ z ∷ rest)) four) ∙ h

joins_last : (line : List ℕ) (x : ℕ) (front : List ℕ) → joins (line ++ x ∷ front) ≡ false → joins front ≡ false
joins_last [] x front h = joins_behind x front h
joins_last (y ∷ line) x front h = joins_last line x front (joins_behind y (line ++ x ∷ front) h)

by_test : (feed join next on : Bool) → next ≡ true → on ≡ true → (if feed then (if join then next else true) else on) ≡ true
by_test true true next on is also = is
by_test true false next on is also = refl
by_test false join next on is also = also

-- from what stands of a line on
ends_behind : (line front rest : List ℕ) → joins (line ++ front) ≡ false → ends_in line (front ++ 10 ∷ rest) ≡ true
ends_behind line [] rest h = ap (λ t. if t then ends_in [] rest else true) (ap joins (sym (append-nil line)) ∙ h)
ends_behind line (x ∷ front) rest h =
    by_test (x == 10) (joins line) (ends_in [] (front ++ 10 ∷ rest)) (ends_in (line ++ x ∷ []) (front ++ 10 ∷ rest)) (ends_behind [] front rest (joins_last line x front h)) (ends_behind (line ++ x ∷ []) front rest (ap joins (append_assoc line (x ∷ []) front) ∙ h))

-- from a place on
pub whole_from : (k feed : ℕ) (octets : List ℕ) → k ≤ feed → feed < length octets → get_or octets feed 0 ≡ 10 → joins (take feed octets) ≡ false → ends_in [] (drop k octets) ≡ true
whole_from zero feed octets low high is h = ap (ends_in []) (line_parts feed octets high is) ∙ ends_behind [] (take feed octets) (drop (feed + 1) octets) h
whole_from (suc k) zero octets low high is h = absurd (omega (arith, low))
whole_from (suc k) (suc feed) [] low high is h = absurd (omega (arith, high))
whole_from (suc k) (suc feed) (b ∷ octets) low high is h = whole_from k feed octets (omega (arith, low)) (omega (arith, high)) is (joins_behind b (take feed octets) h)
