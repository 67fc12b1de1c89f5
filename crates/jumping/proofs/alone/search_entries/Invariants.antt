use Rattle.std.proofs.Common.{◌≡◌, ◌+◌, ◌-◌, ◌<◌, ◌≤◌, ℕ, length}
use Rattle.jumping.specs.Words.{NoneFits, prefix, repeated}
use Rattle.jumping.proofs.alone.search_entries.Given as goal

abbrev pub invariant-loop-at : goal.invariant-loop-at
invariant-loop-at l =
    (l.index < length l.schedule.entries)
    × (l.at ≡ prefix l.schedule.entries l.index)
    × ((u : ℕ) → u ≤ l.at → u ≤ l.stop → NoneFits (repeated l.schedule) l.heads l.from u)
    × (l.from ≤ l.at)
    × (l.initial.visits ≤ l.visits)
    × (l.visits + l.first ≤ l.initial.visits + l.index)

abbrev pub decreases-loop-at : goal.decreases-loop-at
decreases-loop-at l = length l.schedule.entries - l.index
