use Rattle.std.proofs.Common.{◌≡◌, map, take}
use Rattle.window_bounds.specs.Beats.{late_beat}
use Rattle.window_bounds.proofs.beats.late_beats.Given as goal

abbrev pub invariant-loop-flow : goal.invariant-loop-flow
invariant-loop-flow g l = l.beats.items ≡ map late_beat (take l.flow-index l.flows)
