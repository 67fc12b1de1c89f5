-- Strict priority among the classes that wait (IEEE Std 802.1Q-2018, 8.6.8.1).
use Rattle.std.specs.Prelude.{◌≡◌, ◌<◌, ◌≤◌, ℕ, zero, suc, Bool, false, if◌then◌else◌, List, slice_index_or, Option, Some, None}
use Rattle.wire_time.specs.declared.TheConstants.{CLASSES}
use Rattle.gates.specs.History.{Accepted, open_through, kept}

-- whether a class that needs the wire for so long may start at m: its gate stays open for as long
abbrev pub may_start : List Accepted → ℕ → ℕ → Option ℕ → Bool
may_start history m class None = false
may_start history m class (Some need) = open_through history class m need

-- the greatest number below n that passes
unfoldable pub greatest_below : ℕ → (ℕ → Bool) → Option ℕ
greatest_below zero pass = None
greatest_below (suc n) pass = if pass n then Some n else greatest_below n pass

-- whether a class may start at m, by what each needs
abbrev pub may_go : List Accepted → ℕ → List (Option ℕ) → ℕ → Bool
may_go history m needs class = may_start history m class (slice_index_or needs class None)

-- the greatest class that may start at m
abbrev pub first_choice : List Accepted → ℕ → List (Option ℕ) → Option ℕ
first_choice history m needs = greatest_below CLASSES (may_go history m needs)

-- The gates have moved from one moment to another, with what is kept there, and no class may start before.
pub record MovesIdle (needs : List (Option ℕ)) (old_history : List Accepted) (old : ℕ) (new_history : List Accepted) (new : ℕ) : Type 0 where
  pub onward : old ≤ new
  pub history : new_history ≡ kept old_history new
  pub idle : (m : ℕ) → old ≤ m → m < new → first_choice old_history m needs ≡ None
