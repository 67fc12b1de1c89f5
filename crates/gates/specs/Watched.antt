-- What a lookout knows: the gates at a moment, and what the head of each class needs.
use Rattle.std.specs.Prelude.{◌≡◌, ◌≤◌, ◌<◌, ℕ, List, Option, None}
use Rattle.gates.specs.History.{Accepted, pending, announced}
use Rattle.gates.specs.Choice.{first_choice}

-- what a contract sees of a lookout
pub record Watched : Type 0 where
  pub history : List Accepted
  pub moment : ℕ
  pub needs : List (Option ℕ)  -- by class, in picoseconds; none where no frame waits

-- no class may start from one moment on and before another
abbrev pub IsIdle : List Accepted → List (Option ℕ) → ℕ → ℕ → Type 0
IsIdle history needs from upto = (m : ℕ) → from ≤ m → m < upto → first_choice history m needs ≡ None

-- no command is to come
abbrev pub IsStill : List Accepted → ℕ → Type 0
IsStill history m = (pending history m ≡ None) × (announced history m ≡ None)

-- what is watched, with other needs
abbrev pub with_needs : Watched → List (Option ℕ) → Watched
with_needs w needs = record w { needs = needs }
