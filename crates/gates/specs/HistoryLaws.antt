-- The laws of histories, each the promise of a function of its name.
use Rattle.std.specs.Prelude.{◌≡◌, ◌<◌, ◌≤◌, ℕ, ◌+◌, List, [], ◌∷◌, ◌++◌, length}
use Rattle.gates.specs.History.{Accepted, in_force, pending, announced, gates, open_through, kept, IsRising, ArePast}
use Rattle.gates.specs.Stretch.{mask_in, left_at, stretches}

-- Where no lead moment but the last is after m, the commands in force, pending and announced at m are all that counts
-- from m on.
pub record KeptLaw (earlier m : ℕ) (h : List Accepted) : Type 0 where
  pub in_force_kept : (n : ℕ) → m ≤ n → in_force (kept h m) n ≡ in_force h n
  pub pending_kept : (n : ℕ) → m ≤ n → pending (kept h m) n ≡ pending h n
  pub announced_kept : (n : ℕ) → announced (kept h m) n ≡ announced h n
  pub gates_kept : (n : ℕ) → m ≤ n → gates (kept h m) n ≡ gates h n
  pub kept_again : (n : ℕ) → m ≤ n → kept (kept h m) n ≡ kept h n
  pub rising : IsRising earlier (kept h m)
  pub past : ArePast m (kept h m)

-- A command accepted at m, where nothing is announced, may follow what is kept in place of the whole history.
pub record AppendLaw (earlier m : ℕ) (h : List Accepted) (x : Accepted) : Type 0 where
  pub in_force_same : (n : ℕ) → m ≤ n → in_force (kept h m ++ x ∷ []) n ≡ in_force (h ++ x ∷ []) n
  pub pending_same : (n : ℕ) → m ≤ n → pending (kept h m ++ x ∷ []) n ≡ pending (h ++ x ∷ []) n
  pub announced_same : (n : ℕ) → announced (kept h m ++ x ∷ []) n ≡ announced (h ++ x ∷ []) n
  pub gates_same : (n : ℕ) → m ≤ n → gates (kept h m ++ x ∷ []) n ≡ gates (h ++ x ∷ []) n
  pub kept_same : kept (h ++ x ∷ []) m ≡ kept h m ++ x ∷ []
  pub rising : IsRising earlier (h ++ x ∷ [])
  pub past : ArePast m (h ++ x ∷ [])

-- No command changes a gate before its lead moment.
abbrev pub HindsightLaw : Type 0
HindsightLaw = (h : List Accepted) (x : Accepted) (n : ℕ) → n < x.lead → x.lead ≤ x.change → gates (h ++ x ∷ []) n ≡ gates h n

-- The gates from m on are those of at most three stretches.
pub record StretchLaw (m : ℕ) (h : List Accepted) : Type 0 where
  pub gates_in : (n : ℕ) → m ≤ n → gates h n ≡ mask_in (stretches h m) n
  pub later : (n : ℕ) → m ≤ n → stretches h n ≡ left_at (stretches h m) n
  pub few : length (stretches h m) ≤ 3

-- No commands that follow change whether a class is open through a while that ends at or before their lead moments.
abbrev pub FurtherLaw : Type 0
FurtherLaw =
    (earlier : ℕ) (h r : List Accepted) (class n d : ℕ) → IsRising earlier r → n + d ≤ earlier + 1 → open_through (h ++ r) class n d ≡ open_through h class n d
