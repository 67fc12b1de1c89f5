-- Where a list stands: its cycle and the entry that it shows, or its hold (IEEE Std 802.1Q-2018, 8.6.9.1 Cycle Timer,
-- 8.6.9.2 List Execute).
use Rattle.std.specs.Prelude.{◌≡◌, ◌<◌, ◌≤◌, ℕ, ◌+◌, ◌-◌, ◌*◌, min, Bool, true, false, if◌then◌else◌, Option, Some, None}
use Rattle.std.specs.Option.{ForSome}
use Rattle.gates.specs.Gate.{Plan, IsShownAt, in_ps, last_mask, has_come}
use Rattle.gates.specs.Event.{BeginsEntry}
use Rattle.gates.specs.Walk.{ShowsEntry, ShowsHold, end_of}
use Rattle.jumping.specs.declared.list_position.Position.{Position}

-- the earlier of the end of a cycle and that of an entry, if it has one
abbrev pub boundary_in : ℕ → Option ℕ → ℕ
boundary_in cycle_end None = cycle_end
boundary_in cycle_end (Some entry_end) = min entry_end cycle_end

-- in the cycle that runs, the entry of the moment's phase is shown
pub record ShowsList (plan : Plan) (n : ℕ) (position : Position) : Type 0 where
  pub before_next : n < position.timer.next_start
  pub shows : ShowsEntry plan position.timer.started position.walk.index position.walk
  pub shown : IsShownAt plan.entries (n - position.timer.started) position.walk.index

-- what is shown, in a hold and else
abbrev pub Shows : Bool → Plan → ℕ → Position → Type 0
Shows true plan n position = ShowsHold plan position.timer.started position.walk
Shows false plan n position = ShowsList plan n position

-- the moment from which the last state is held, if there is one, is one at which a cycle begins
abbrev pub IsCycleStart : Plan → ℕ → Option ℕ → Type 0
IsCycleStart plan start None = Unit {0}
IsCycleStart plan start (Some held) = (k : ℕ) × (held ≡ start + in_ps plan.cycle * k)

-- A list whose cycles began at start, and whose last state is held from a cycle on, if it is, stands so at n.
pub record IsPlaced (plan : Plan) (start : ℕ) (held : Option ℕ) (n : ℕ) (position : Position) : Type 0 where
  pub cycles : ℕ
  pub held_at : IsCycleStart plan start held
  pub last_is : position.last_mask ≡ last_mask plan.entries
  pub length_is : position.timer.length ≡ in_ps plan.cycle
  pub started_is : position.timer.started ≡ start + in_ps plan.cycle * cycles
  pub next_is : position.timer.next_start ≡ position.timer.started + in_ps plan.cycle
  pub begun : position.timer.started ≤ n
  pub showing : Shows (has_come held position.timer.started) plan n position

-- The next boundary of a list that stands so: the end of its entry or of its cycle. A hold has none of its own.
abbrev pub boundary_of : Option ℕ → Position → Option ℕ
boundary_of held position =
    if has_come held position.timer.started then None else Some (boundary_in position.timer.next_start (end_of position.walk))

-- A list stood so at n or before.
abbrev pub StoodBy : Plan → ℕ → Option ℕ → ℕ → Position → Type 0
StoodBy plan start held n position = (m : ℕ) × (m ≤ n) × IsPlaced plan start held m position

-- Whatever entry begins after t and by u begins at e: at most one does. Cycles began at start.
abbrev pub BeginsAtMost : Option Plan → ℕ → ℕ → ℕ → ℕ → Type 0
BeginsAtMost plan start t u e = (m : ℕ) → t < m → m ≤ u → BeginsEntry plan start m → m ≡ e

-- Masks stay the same from a moment on, up to a later one, if any.
pub record IsFlat (mask : ℕ → ℕ) (n : ℕ) (until : Option ℕ) : Type 0 where
  pub same : (m : ℕ) → n ≤ m → ForSome until (λ u. m < u) → mask m ≡ mask n
  pub later : ForSome until (λ u. n < u)
