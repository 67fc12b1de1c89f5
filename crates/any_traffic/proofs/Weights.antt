-- Sums over some of a list, from one place on.
use Rattle.std.proofs.Common.{◌≡◌, ◌<◌, ◌≤◌, ℕ, zero, suc, ◌+◌, ◌*◌, List, [], ◌∷◌, ◌++◌, slice_get, sum_by, take, drop, Some, refl, ap, ◌∙◌, arith}
use Rattle.std.proofs.lemmas.List.Sums.{sum_by-cons}
use Rattle.any_traffic.proofs.Counting.{total}

module _ {X : Type 0} (w : X → ℕ) where
  -- none of nothing
  none_taken : (n : ℕ) → sum_by w (take n []) ≡ 0
  none_taken zero = refl
  none_taken (suc n) = refl

  -- more of them are no less
  pub take_more : (m n : ℕ) (xs : List X) → m ≤ n → sum_by w (take m xs) ≤ sum_by w (take n xs)
  take_more zero n xs le = omega arith
  take_more (suc m) zero xs le = absurd (omega (arith, le))
  take_more (suc m) (suc n) [] le = omega arith
  take_more (suc m) (suc n) (x ∷ xs) le =
      let rest = take_more m n xs (omega (arith, le)) in
      let a = sum_by-cons w x (take m xs) in
      let b = sum_by-cons w x (take n xs) in
      omega (arith, rest, a, b)

  -- those from a place on are no more than all up to their last
  pub take_behind : (n k : ℕ) (xs : List X) → sum_by w (take n (drop k xs)) ≤ sum_by w (take (k + n) xs)
  take_behind n zero xs = (let at : 0 + n ≡ n = omega arith in let same = ap (λ m. sum_by w (take m xs)) at in omega (arith, same))
  take_behind n (suc k) [] = (let a = none_taken n in omega (arith, a))
  take_behind n (suc k) (x ∷ xs) =
      let at : suc k + n ≡ suc (k + n) = omega arith in
      let same = ap (λ m. sum_by w (take m (x ∷ xs))) at in
      let rest = take_behind n k xs in
      let a = sum_by-cons w x (take (k + n) xs) in
      omega (arith, same, rest, a)

  -- in two parts
  pub take_parts : (m n k : ℕ) (xs : List X)
      → sum_by w (take (m + n) (drop k xs)) ≡ sum_by w (take m (drop k xs)) + sum_by w (take n (drop (k + m) xs))
  take_parts m n (suc k) [] =
      let a = none_taken (m + n) in
      let b = none_taken m in
      let c = none_taken n in
      let at : suc k + m ≡ suc (k + m) = omega arith in
      let d = ap (λ i. sum_by w (take n (drop i (let none : List X = [] in none)))) at in
      omega (arith, a, b, c, d)
  take_parts m n (suc k) (x ∷ xs) =
      let at : suc k + m ≡ suc (k + m) = omega arith in
      let same = ap (λ i. sum_by w (take n (drop i (x ∷ xs)))) at in
      let rest = take_parts m n k xs in
      omega (arith, same, rest)
  take_parts zero n zero xs =
      let at : 0 + n ≡ n = omega arith in
      let same = ap (λ m. sum_by w (take m xs)) at in
      omega (arith, same)
  take_parts (suc m) n zero [] =
      let a = none_taken (suc m + n) in
      let at : 0 + suc m ≡ suc m = omega arith in
      let b = ap (λ i. sum_by w (take n (drop i (let none : List X = [] in none)))) at in
      let c = none_taken n in
      omega (arith, a, b, c)
  take_parts (suc m) n zero (x ∷ xs) =
      let at : suc m + n ≡ suc (m + n) = omega arith in
      let all = ap (λ i. sum_by w (take i (x ∷ xs))) at in
      let to : 0 + suc m ≡ suc (0 + m) = omega arith in
      let behind = ap (λ i. sum_by w (take n (drop i (x ∷ xs)))) to in
      let rest = take_parts m n 0 xs in
      let a = sum_by-cons w x (take (m + n) xs) in
      let b = sum_by-cons w x (take m xs) in
      omega (arith, all, behind, rest, a, b)

  -- where more stand behind
  pub take_front : (n k : ℕ) (xs ys : List X) → sum_by w (take n (drop k xs)) ≤ sum_by w (take n (drop k (xs ++ ys)))
  take_front n (suc k) [] ys = (let a = none_taken n in omega (arith, a))
  take_front n (suc k) (x ∷ xs) ys = take_front n k xs ys
  take_front zero zero xs ys = omega arith
  take_front (suc n) zero [] ys = omega arith
  take_front (suc n) zero (x ∷ xs) ys =
      let rest = take_front n 0 xs ys in
      let a = sum_by-cons w x (take n xs) in
      let b = sum_by-cons w x (take n (xs ++ ys)) in
      omega (arith, rest, a, b)

  -- where none weighs more than so much
  pub take_few : (d n k : ℕ) (xs : List X) → ((i : ℕ) (x : X) → slice_get xs i ≡ Some x → w x ≤ d) → sum_by w (take n (drop k xs)) ≤ d * n
  take_few d n (suc k) [] each = (let a = none_taken n in omega (arith, a))
  take_few d n (suc k) (x ∷ xs) each = take_few d n k xs (λ i y e. each (suc i) y e)
  take_few d zero zero xs each = omega arith
  take_few d (suc n) zero [] each = omega arith
  take_few d (suc n) zero (x ∷ xs) each =
      let rest = take_few d n 0 xs (λ i y e. each (suc i) y e) in
      let here = each 0 x refl in
      let a = sum_by-cons w x (take n xs) in
      let more : d * suc n ≡ d + d * n = grind arith in
      omega (arith, rest, here, a, more)

  -- where each weighs no more than is said of its place
  pub take_total : (h : ℕ → ℕ) (b n k : ℕ) (xs : List X)
      → ((i : ℕ) (x : X) → i < n → slice_get xs (k + i) ≡ Some x → w x ≤ h (b + i)) → sum_by w (take n (drop k xs)) ≤ total b n h
  take_total h b n (suc k) [] each = (let a = none_taken n in omega (arith, a))
  take_total h b n (suc k) (x ∷ xs) each =
      take_total h b n k xs (λ i y less e. (let at : suc k + i ≡ suc (k + i) = omega arith in each i y less (ap (slice_get (x ∷ xs)) at ∙ e)))
  take_total h b zero zero xs each = omega arith
  take_total h b (suc n) zero [] each = omega arith
  take_total h b (suc n) zero (x ∷ xs) each =
      let rest = take_total h (suc b) n 0 xs (λ i y less e.
      let at : 0 + suc i ≡ suc (0 + i) = omega arith in
      let place : suc b + i ≡ b + suc i = omega arith in
      let one = each (suc i) y (omega (arith, less)) (ap (slice_get (x ∷ xs)) at ∙ e) in
      let same = ap h place in
      omega (arith, one, same)) in
      let here = each 0 x (omega arith) refl in
      let first : b + 0 ≡ b = omega arith in
      let same = ap h first in
      let a = sum_by-cons w x (take n xs) in
      omega (arith, rest, here, same, a)
