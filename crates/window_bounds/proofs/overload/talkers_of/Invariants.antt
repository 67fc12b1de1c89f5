use Rattle.std.proofs.Common.{◌≡◌, map, take}
use Rattle.window_bounds.specs.Flows.{talker_of}
use Rattle.window_bounds.proofs.overload.talkers_of.Given as goal

abbrev pub invariant-loop-flow : goal.invariant-loop-flow
invariant-loop-flow g l = l.talkers.items ≡ map talker_of (take l.flow-index l.flows)
