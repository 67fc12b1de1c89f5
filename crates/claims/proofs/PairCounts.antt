-- How many pairs there are, where each of them is found at a place.
use Rattle.std.proofs.Common.{◌≡◌, ◌<◌, ◌≤◌, ℕ, zero, suc, ◌+◌, inl, inr, Bool, true, false, ◌&&◌, eqb, refl, sym, ap, ◌∙◌, arith}
use Rattle.std.proofs.lemmas.Bool.{cases_lt, eqb-true, eq-eqb}
use Rattle.any_traffic.proofs.Counting.{one_if, passing, total, total_more, total_rises}

-- ---- sums

total_none : (b n : ℕ) → total b n (λ i. 0) ≡ 0
total_none b zero = refl
total_none b (suc n) = (let rest = total_none (suc b) n in omega (arith, rest))

total_ones : (b n : ℕ) → total b n (λ i. 1) ≡ n
total_ones b zero = refl
total_ones b (suc n) = (let rest = total_ones (suc b) n in omega (arith, rest))

-- term by term, at the places that are summed up
total_within : (b n : ℕ) (g h : ℕ → ℕ) → ((i : ℕ) → b ≤ i → i < b + n → g i ≤ h i) → total b n g ≤ total b n h
total_within b zero g h le = omega arith
total_within b (suc n) g h le =
    let here = le b (omega arith) (omega arith) in
    let rest = total_within (suc b) n g h (λ i from less. le i (omega (arith, from)) (omega (arith, less))) in
    omega (arith, here, rest)

-- a place is found once at most
none_behind : (b n p : ℕ) → p < b → total b n (λ i. one_if (eqb p i)) ≤ 0
none_behind b zero p less = omega arith
none_behind b (suc n) p less = by (eqb p b) refl (none_behind (suc b) n p (omega (arith, less)))
  where
    by : (x : Bool) → eqb p b ≡ x → total (suc b) n (λ i. one_if (eqb p i)) ≤ 0
        → one_if x + total (suc b) n (λ i. one_if (eqb p i)) ≤ 0
    by true e rest = (let same = eqb-true p b e in absurd (omega (arith, same, less)))
    by false e rest = omega (arith, rest)

once : (b n p : ℕ) → total b n (λ i. one_if (eqb p i)) ≤ 1
once b zero p = omega arith
once b (suc n) p = by (eqb p b) refl (once (suc b) n p)
  where
    by : (x : Bool) → eqb p b ≡ x → total (suc b) n (λ i. one_if (eqb p i)) ≤ 1
        → one_if x + total (suc b) n (λ i. one_if (eqb p i)) ≤ 1
    by true e rest =
        let same = eqb-true p b e in
        let none = none_behind (suc b) n p (omega (arith, same)) in
        omega (arith, none)
    by false e rest = omega (arith, rest)

-- one that passes is counted
some_passing : (test : ℕ → Bool) (m k : ℕ) → k < m → test k ≡ true → 1 ≤ passing test m
some_passing test zero k less e = absurd (omega (arith, less))
some_passing test (suc m) k less e = elim (cases_lt k m) [
  | inl before ↦ (let rest = some_passing test m k before e in omega (arith, rest))
  | inr last ↦
      let same : k ≡ m = omega (arith, last, less) in
      let one : one_if (test m) ≡ 1 = ap one_if (ap test (sym same) ∙ e) in
      omega (arith, one)
]

-- ---- pairs

module _ (place number : ℕ → ℕ) (n : ℕ) (low wide : ℕ → ℕ) where
  abbrev is_pair : ℕ → ℕ → ℕ → Bool
  is_pair i v k = eqb (place k) i && eqb (number k) v

  abbrev pairs : ℕ → ℕ
  pairs m = total 0 n (λ i. total (low i) (wide i) (λ v. passing (is_pair i v) m))

  -- a place has one pair at most
  one_here : (m : ℕ) → total 0 n (λ i. total (low i) (wide i) (λ v. one_if (is_pair i v m))) ≤ 1
  one_here m =
      let each = total_rises 0 n (λ i. total (low i) (wide i) (λ v. one_if (is_pair i v m))) (λ i. one_if (eqb (place m) i))
      (λ i. by i (eqb (place m) i)) in
      let all = once 0 n (place m) in
      omega (arith, each, all)
    where
      by : (i : ℕ) (x : Bool) → total (low i) (wide i) (λ v. one_if (x && eqb (number m) v)) ≤ one_if x
      by i true = once (low i) (wide i) (number m)
      by i false = (let none = total_none (low i) (wide i) in omega (arith, none))

  few_pairs : (m : ℕ) → pairs m ≤ m
  few_pairs zero =
      let each = total_rises 0 n (λ i. total (low i) (wide i) (λ v. 0)) (λ i. 0)
      (λ i. (let z = total_none (low i) (wide i) in omega (arith, z))) in
      let none = total_none 0 n in
      omega (arith, each, none)
  few_pairs (suc m) =
      let rest = few_pairs m in
      let one = one_here m in
      let apart = total_more 0 n (λ i. total (low i) (wide i) (λ v. one_if (is_pair i v m)))
      (λ i. total (low i) (wide i) (λ v. passing (is_pair i v) m)) in
      let both = total_rises 0 n (λ i. total (low i) (wide i) (λ v. passing (is_pair i v) (suc m)))
      (λ i. total (low i) (wide i) (λ v. one_if (is_pair i v m)) + total (low i) (wide i) (λ v. passing (is_pair i v) m))
      (λ i. (let z = total_more (low i) (wide i) (λ v. one_if (is_pair i v m)) (λ v. passing (is_pair i v) m) in omega (arith, z))) in
      omega (arith, rest, one, apart, both)

  -- Pairs that are each found at one of the first places are no more than these.
  pub no_fewer_pairs : (m : ℕ)
      → ((i v : ℕ) → i < n → low i ≤ v → v < low i + wide i → (k : ℕ) × (k < m) × (place k ≡ i) × (number k ≡ v)) → total 0 n wide ≤ m
  no_fewer_pairs m found =
      let few = few_pairs m in
      let all = total_within 0 n wide (λ i. total (low i) (wide i) (λ v. passing (is_pair i v) m))
      (λ i from less. by i (omega (arith, less))) in
      omega (arith, few, all)
    where
      here : (i v : ℕ) → i < n → low i ≤ v → v < low i + wide i → 1 ≤ passing (is_pair i v) m
      here i v less from below =
          let r = found i v less from below in
          some_passing (is_pair i v) m r.0 r.1 (ap (λ b. b && eqb (number r.0) v) (eq-eqb (place r.0) i r.2) ∙ eq-eqb (number r.0) v r.3)

      by : (i : ℕ) → i < n → wide i ≤ total (low i) (wide i) (λ v. passing (is_pair i v) m)
      by i less =
          let ones = total_ones (low i) (wide i) in
          let each = total_within (low i) (wide i) (λ v. 1) (λ v. passing (is_pair i v) m) (λ v from below. here i v less from below) in
          omega (arith, ones, each)
