use Rattle.std.proofs.Common.{◌≡◌, drop}
use Rattle.gates.specs.Gate.{keeps_apart}
use Rattle.gates.proofs.gate_list.schedule.Schedule.keeps_apart.Given as goal

abbrev pub invariant-loop-entry : goal.invariant-loop-entry
invariant-loop-entry l = keeps_apart (drop l.entry-index l.entry-items) l.class ≡ keeps_apart l.entry-items l.class
