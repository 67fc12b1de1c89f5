-- What a class is for those below it that share its windows.
--
-- Frames of a higher class go first (IEEE Std 802.1Q-2018, 8.6.8.1). So a class has bounds only where those above it have, or send nothing.
use Rattle.std.specs.Prelude.{ℕ, ◌<◌, ◌^◌, ◌||◌, nat_lt, Bool, false, List, [], ◌∷◌, slice_index_or, if◌then◌else◌}
use Rattle.abstract_port.specs.declared.Change.{Change}
use Rattle.schedule_check.specs.Refusals.{is_led, map_after}
use Rattle.stream_bounds.specs.declared.settings.BoundsSettings.{BoundsSettings}
use Rattle.stream_bounds.specs.declared.standing.Standing.{Standing}
use Rattle.stream_bounds.specs.declared.standing.Standing.TheVariants as Standings
use Rattle.stream_bounds.specs.declared.standing.TheConstants.{LONGEST}
use Rattle.stream_bounds.specs.declared.verdicts.Verdict.{Verdict}
use Rattle.stream_bounds.specs.declared.verdicts.Verdict.TheVariants as Verdicts
use Rattle.traffic.specs.declared.table.Stream.{Stream}

-- whether it is said of a class that it sends nothing
abbrev pub is_said : BoundsSettings → ℕ → Bool
is_said s class = slice_index_or s.silent class false

-- Whether a class without streams may send: that isn't said, and a priority leads to it, or did so before the schedule.
abbrev pub may_send : BoundsSettings → Change → ℕ → Bool
may_send s c class = if is_said s class then false else s.leftovers || is_led (map_after s.map c.map) class

-- what a class with streams is for those below it
abbrev pub bounded_standing : Verdict → Standing
bounded_standing (Verdicts.Sharing b) = if nat_lt b.wait LONGEST then Standings.Bounded b else Standings.Unbounded
bounded_standing _ = Standings.Unbounded

-- What a class with these streams is for those below it. Where frames may be left from before the schedule, nothing is known of any.
abbrev pub standing_of : BoundsSettings → Change → ℕ → List Stream → Verdict → Standing
standing_of s c class [] verdict = if may_send s c class then Standings.Open else Standings.Silent
standing_of s c class (x ∷ xs) verdict = if s.leftovers then Standings.Open else bounded_standing verdict

-- bounds have a wait that is less than the longest to count with
abbrev pub IsCounted : Standing → Type 0
IsCounted (Standings.Bounded b) = b.wait < 2 ^ 100
IsCounted _ = Unit {0}
