-- The time that a picture covers, where no option says it. Moments are in picoseconds.
use Rattle.std.specs.Prelude.{ℕ, ◌+◌, ◌-◌, ◌*◌, min, nat_le, Option, Some, None, if◌then◌else◌}
use Rattle.wire_time.specs.Moment.{greatest_moment}
use Rattle.drawing.specs.declared.options.TheConstants.{SHORTEST}
use Rattle.drawing.specs.declared.scope.Scope.{Scope}
use Rattle.drawing.specs.declared.scope.Scope.TheVariants.{Nothing, Cycles, Frames}
use Rattle.drawing.specs.declared.view.View.{View}

-- a frame comes: the first of them counts
abbrev pub frame_came : ℕ → Scope → Scope
frame_came now Nothing = Frames now
frame_came now (Cycles change cycle) = Frames now
frame_came now (Frames first) = Frames first

-- the schedule of a command, which changes at a moment and has a cycle of so long, or is none
abbrev pub cycles_of : ℕ → Option ℕ → Scope
cycles_of change None = Nothing
cycles_of change (Some cycle) = Cycles change cycle

-- A command is accepted now, and has its lead moment so long after. As long as no frame has come the first schedule that comes into force counts: a command
-- that changes after the lead moment of the next is replaced by it.
abbrev pub schedule_given : ℕ → ℕ → ℕ → Option ℕ → Scope → Scope
schedule_given lead now change cycle Nothing = cycles_of change cycle
schedule_given lead now change cycle (Cycles first own) = if nat_le (first - lead) now then Cycles first own else cycles_of change cycle
schedule_given lead now change cycle (Frames first) = Frames first

-- The time that is covered, as far as it is known: two cycles of the schedule, where they end in time, or all from the first frame on; else all
-- from the moment 0 on.
abbrev pub view_in : Scope → View
view_in Nothing = record { from = 0; to = None }
view_in (Cycles change cycle) =
    if nat_le (change + 2 * cycle) greatest_moment
    then record { from = change; to = Some (change + 2 * cycle) }
    else record { from = 0; to = None }
view_in (Frames first) = record { from = min first (greatest_moment - SHORTEST); to = None }
