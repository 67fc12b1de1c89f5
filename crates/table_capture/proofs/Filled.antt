-- Octets that are filled up with zeros.
use Rattle.std.proofs.Common.{◌≡◌, ℕ, zero, suc, ◌+◌, ◌<◌, ◌≤◌, List, [], ◌∷◌, ◌++◌, length, take, replicate, refl, sym, ap, ◌∙◌, arith}
use Rattle.std.specs.Prelude.{slice_index}
use Rattle.std.proofs.lemmas.List.{get_or_append_left, get_or-take, length-append, length-replicate, length-take-le, replicate-append-replicate, take-replicate}
use Rattle.table_capture.specs.Octets.{filled}

-- octets that are filled up, with zeros behind them, are as good as the octets
refilled : (xs : List ℕ) (f k m n j : ℕ) → length xs ≤ f → f ≤ length xs + k → n ≤ f + m → n ≤ length xs + j
    → take n (take f (xs ++ replicate k 0) ++ replicate m 0) ≡ take n (xs ++ replicate j 0)
refilled [] f k m n j fits room within last =
    let enough : f ≤ k = omega (arith, room) in
    let few : n ≤ j = omega (arith, last) in
    ap (λ (l : List ℕ). take n (l ++ replicate m 0)) (take-replicate {X = ℕ} f k 0 enough) ∙ ap (take n) (replicate-append-replicate {A = ℕ} f m 0)
    ∙ take-replicate {X = ℕ} n (f + m) 0 within ∙ sym (take-replicate {X = ℕ} n j 0 few)
refilled (x ∷ xs) zero k m n j fits room within last = absurd (omega (arith, fits))
refilled (x ∷ xs) (suc f) k m zero j fits room within last = refl
refilled (x ∷ xs) (suc f) k m (suc n) j fits room within last =
    ap (λ (l : List ℕ). x ∷ l) (refilled xs f k m n j (omega (arith, fits)) (omega (arith, room)) (omega (arith, within)) (omega (arith, last)))

pub filled_again : (xs : List ℕ) (f m n : ℕ) → length xs ≤ f → n ≤ f + m → take n (filled f xs ++ replicate m 0) ≡ filled n xs
filled_again xs f m n fits within = refilled xs f f m n n fits (omega arith) within (omega arith)

pub filled_long : (n : ℕ) (xs : List ℕ) → length (filled n xs) ≡ n
filled_long n xs = length-take-le n (xs ++ replicate n 0) (omega (arith, length-append xs (replicate n 0), length-replicate {A = ℕ} n 0))

pub filled_at : (n : ℕ) (xs : List ℕ) (i : ℕ) → i < n → i < length xs → slice_index (filled n xs) i ≡ slice_index xs i
filled_at n xs i less within = get_or-take n (xs ++ replicate n 0) i 0 less ∙ get_or_append_left xs (replicate n 0) 0 i within
