-- What octets come to, taken from the front piece by piece.
use Rattle.std.specs.Prelude.{◌≡◌, Bool, true, ℕ, zero, suc, ◌-◌, List, [], ◌∷◌, ◌++◌, length, drop}
use Rattle.translated.specs.Outlook.{IsAfter}

-- a piece that is taken: how many octets it has, what is put for it, and the state after it
pub record Taken (S : Type 0) : Type 0 where
  pub count : ℕ
  pub put : List ℕ
  pub state : S

-- all that is put, and the state at the end
pub record Ran (S : Type 0) : Type 0 where
  pub put : List ℕ
  pub last : S

-- what is put for a piece, and then what follows
abbrev pub after : {S : Type 0} → List ℕ → Ran S → Ran S
after put r = record { put = put ++ r.put; last = r.last }

-- at most so many pieces, each of an octet at least; no octet is left at the end
abbrev pub run : {S : Type 0} → (S → List ℕ → Taken S) → ℕ → S → List ℕ → Ran S
run step zero s xs = record { put = []; last = s }
run step (suc n) s [] = record { put = (step s []).put; last = (step s []).state }
run step (suc n) s (x ∷ xs) = after (step s (x ∷ xs)).put
    (run step n (step s (x ∷ xs)).state (drop ((step s (x ∷ xs)).count - 1) xs))

-- all pieces to the end
abbrev pub run_all : {S : Type 0} → (S → List ℕ → Taken S) → S → List ℕ → Ran S
run_all step s xs = run step (suc (length xs)) s xs

-- Some of the octets in hand were taken: whatever comes later, what was put by then and what follows are what they were
-- to be.
abbrev pub GoesOn : {S : Type 0} → (S → List ℕ → Taken S) → S → S → List ℕ → Bool → ℕ → List ℕ → List ℕ → Type 0
GoesOn step old new octets is_last count put_before put = (later : List ℕ) → IsAfter is_last later
    → after put_before (run_all step old (octets ++ later)) ≡ after put (run_all step new (drop count octets ++ later))

-- the same from a place in the octets to a later one
abbrev pub GoesFrom : {S : Type 0} → (S → List ℕ → Taken S) → S → S → List ℕ → Bool → ℕ → ℕ → List ℕ → List ℕ → Type 0
GoesFrom step old new octets is_last from to put_before put = (later : List ℕ) → IsAfter is_last later
    → after put_before (run_all step old (drop from octets ++ later))
    ≡ after put (run_all step new (drop to octets ++ later))

-- where the octets are the last, and nothing was taken or put, nothing comes any more
abbrev pub IsOver : {S : Type 0} → (S → List ℕ → Taken S) → S → List ℕ → Bool → ℕ → List ℕ → List ℕ → Type 0
IsOver step s octets is_last count put_before put = is_last ≡ true → count ≡ 0 → put ≡ put_before
    → run_all step s octets ≡ record { put = []; last = s }
