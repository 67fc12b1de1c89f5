-- The next moment at which something comes (IEEE Std 802.1Q-2018, 8.6.9.1 to 8.6.9.3).
use Rattle.std.specs.Prelude.{◌≡◌, ◌<◌, ◌≤◌, ℕ, List, Any, Option, IfSome}
use Rattle.std.specs.Option.{ForSome}
use Rattle.gates.specs.History.{Accepted}
use Rattle.gates.specs.Event.{ComesAt, IsGateEvent}
use Rattle.jumping.specs.declared.list_position.Position.{Position}
use Rattle.jumping.specs.Commands.{Commands, history_of}
use Rattle.jumping.specs.InForce.{edge_at}

-- nothing comes after t and up to u: no command, and no entry of the list in force
abbrev pub NothingComes : List Accepted → ℕ → ℕ → Type 0
NothingComes history t u = (m : ℕ) → t < m → m ≤ u → ¬ IsGateEvent history m

-- what comes after t and up to u is no command, and comes at e: at most one entry of the list in force
abbrev pub OneEntryComes : List Accepted → ℕ → ℕ → ℕ → Type 0
OneEntryComes history t u e = (m : ℕ) → t < m → m ≤ u → IsGateEvent history m → (m ≡ e) × ¬ Any (ComesAt m) history

-- the next moment at which something comes, of commands and of the list in force that stands so
pub record IsEdge (c : Commands) (position : Option Position) (edge : Option ℕ) : Type 0 where
  pub is : edge ≡ edge_at c position
  pub later : ForSome edge (λ u. c.moment < u)
  pub event : IfSome edge (IsGateEvent (history_of c))
