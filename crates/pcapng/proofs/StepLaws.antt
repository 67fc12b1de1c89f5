-- Pieces that are taken one by one.
use Rattle.std.proofs.Common.{◌≡◌, ℕ, zero, suc, ◌-◌, ◌≤◌, ◌<◌, List, [], ◌∷◌, ◌++◌, length, drop, refl, sym, ap, ◌∙◌, append_assoc, arith, length-drop}
use Rattle.std.proofs.lemmas.List.{drop-append-le, length-append}
use Rattle.pcapng.specs.Steps.{Taken, Ran, after, run, run_all}

-- as many steps as there are octets, and one, are enough
run_enough : {S : Type 0} (step : S → List ℕ → Taken S) (n m : ℕ) (s : S) (xs : List ℕ) → length xs < n → length xs < m
    → run step n s xs ≡ run step m s xs
run_enough step zero m s xs a b = absurd (omega arith)
run_enough step (suc n) zero s xs a b = absurd (omega arith)
run_enough step (suc n) (suc m) s [] a b = refl
run_enough step (suc n) (suc m) s (x ∷ xs) a b =
    let t = step s (x ∷ xs) in
    let rest : List ℕ = drop (t.count - 1) xs in
    let few : length rest ≤ length xs = omega (arith, length-drop (t.count - 1) xs) in
    ap (after t.put) (run_enough step n m t.state rest (omega arith) (omega arith))

drop_less : (k x : ℕ) (xs : List ℕ) → 1 ≤ k → drop (k - 1) xs ≡ drop k (x ∷ xs)
drop_less zero x xs le = absurd (omega arith)
drop_less (suc k) x xs le = let e : suc k - 1 ≡ k = omega arith in ap (λ (j : ℕ). drop j xs) e

-- one piece is taken, and the rest follows
pub run_here : {S : Type 0} (step : S → List ℕ → Taken S) (s : S) (xs : List ℕ) (t : Taken S) → step s xs ≡ t → 1 ≤ t.count → 1 ≤ length xs
    → run_all step s xs ≡ after t.put (run_all step t.state (drop t.count xs))
run_here step s [] t is some here = absurd (omega arith)
run_here {S} step s (x ∷ xs) t is some here =
    let rest : List ℕ = drop (t.count - 1) xs in
    let few : length rest ≤ length xs = omega (arith, length-drop (t.count - 1) xs) in
    let first : run_all step s (x ∷ xs) ≡ after t.put (run step (suc (length xs)) t.state rest) =
    ap (λ (u : Taken S). after u.put (run step (suc (length xs)) u.state (drop (u.count - 1) xs))) is in
    let enough : run step (suc (length xs)) t.state rest ≡ run_all step t.state rest =
    run_enough step (suc (length xs)) (suc (length rest)) t.state rest (omega arith) (omega arith) in
    first ∙ ap (after t.put) enough ∙ ap (λ (l : List ℕ). after t.put (run_all step t.state l)) (drop_less t.count x xs some)

-- the same for a piece of what is in hand, whatever comes later
pub run_piece : {S : Type 0} (step : S → List ℕ → Taken S) (s : S) (octets later : List ℕ) (t : Taken S) → step s (octets ++ later) ≡ t
    → 1 ≤ t.count → t.count ≤ length octets → run_all step s (octets ++ later) ≡ after t.put (run_all step t.state (drop t.count octets ++ later))
run_piece step s octets later t is some most =
    let here : 1 ≤ length (octets ++ later) = omega (arith, length-append octets later) in
    run_here step s (octets ++ later) t is some here
    ∙ ap (λ (l : List ℕ). after t.put (run_all step t.state l)) (drop-append-le t.count octets later most)

-- what is put before that, too
pub after_after : {S : Type 0} (a b : List ℕ) (r : Ran S) → after a (after b r) ≡ after (a ++ b) r
after_after {S} a b r = let f : List ℕ → Ran S = λ (p : List ℕ). record { put = p; last = r.last } in ap f (sym (append_assoc a b r.put))
