-- Ranges are the same by either test.
use Rattle.std.proofs.Common.{◌≡◌, ℕ, ◌-◌, ◌==◌, ◌&&◌, Bool, true, false, List, [], ◌∷◌, length, take, refl, sym, ap, ◌∙◌, subst, arith, eq-eqb}
use Rattle.std.specs.Prelude.{replicate}
use Rattle.std.proofs.Math.Seq.{take-append_seam}
use lib.Pointwise.{pointwise, pointwise_decides}
use Rattle.abstract_port.specs.Ranges.{with_no_more, no_range}
use Rattle.abstract_port.specs.AbstractPort.{same_ranges}
use Rattle.abstract_port.proofs.TurnLaws.{both}

and_of : (a b : Bool) → a ≡ true → b ≡ true → (a && b) ≡ true
and_of true b h k = k
and_of false b h k = h

same_by : {P : Type 0} (b c : Bool) → (b ≡ true → P) → (P → b ≡ true) → (c ≡ true → P) → (P → c ≡ true) → b ≡ c
same_by true c f f' g g' = sym (g' (f refl))
same_by false true f f' g g' = f' (g refl)
same_by false false f f' g g' = refl

abbrev pub same_pair : (ℕ × ℕ) → (ℕ × ℕ) → Bool
same_pair x y = (x.0 == y.0) && (x.1 == y.1)

pair_is : (x y : ℕ × ℕ) → same_pair x y ≡ true → x ≡ y
pair_is (a, b) (c, d) h =
    let e = both (a == c) (b == d) h in
    let p : a ≡ c = grind (arith, e.0) in
    let q : b ≡ d = grind (arith, e.1) in
    ap (λ u. (u, b)) p ∙ ap (λ v. (c, v)) q

same_self : (x : ℕ × ℕ) → same_pair x x ≡ true
same_self (a, b) = and_of (a == a) (b == b) (eq-eqb a a refl) (eq-eqb b b refl)

ranges_are : (xs ys : List (ℕ × ℕ)) → same_ranges xs ys ≡ true → xs ≡ ys
ranges_are [] [] h = refl
ranges_are [] (y ∷ ys) h = absurd (cc)
ranges_are (x ∷ xs) [] h = absurd (cc)
ranges_are (x ∷ xs) (y ∷ ys) h =
    let e = both (same_pair x y) (same_ranges xs ys) h in
    ap (λ z. z ∷ xs) (pair_is x y e.0) ∙ ap (λ zs. y ∷ zs) (ranges_are xs ys e.1)

ranges_self : (xs : List (ℕ × ℕ)) → same_ranges xs xs ≡ true
ranges_self [] = refl
ranges_self (x ∷ xs) =
    and_of (same_pair x x) (same_ranges xs xs) (same_self x) (ranges_self xs)

pairs : (xs ys : List (ℕ × ℕ)) → (pointwise same_pair xs ys ≡ true → xs ≡ ys) × (xs ≡ ys → pointwise same_pair xs ys ≡ true)
pairs = pointwise_decides (λ x y. (pair_is x y, λ e. subst (λ z. same_pair x z ≡ true) e (same_self x)))

-- eight ranges each, the unused ones being none
pub same_padded : (xs ys : List (ℕ × ℕ)) → ((length xs == length ys) && pointwise same_pair (with_no_more xs) (with_no_more ys)) ≡ same_ranges xs ys
same_padded xs ys = same_by {P = xs ≡ ys} ((length xs == length ys) && pointwise same_pair (with_no_more xs) (with_no_more ys)) (same_ranges xs ys)
    (λ h. let e = both (length xs == length ys) (pointwise same_pair (with_no_more xs) (with_no_more ys)) h in
    let long : length xs ≡ length ys = grind (arith, e.0) in
    let same : with_no_more xs ≡ with_no_more ys = (pairs (with_no_more xs) (with_no_more ys)).0 e.1 in
    sym (take-append_seam xs (replicate (8 - length xs) no_range)) ∙ (ap (take (length xs)) same ∙ (ap (λ n. take n (with_no_more ys)) long ∙ take-append_seam ys (replicate (8 - length ys) no_range))))
    (λ e. subst (λ zs. ((length xs == length zs) && pointwise same_pair (with_no_more xs) (with_no_more zs)) ≡ true) e
    (and_of (length xs == length xs) (pointwise same_pair (with_no_more xs) (with_no_more xs)) (eq-eqb (length xs) (length xs) refl) ((pairs (with_no_more xs) (with_no_more xs)).1 refl)))
    (ranges_are xs ys)
    (λ e. subst (λ zs. same_ranges xs zs ≡ true) e (ranges_self xs))
