use Rattle.std.proofs.Common.{◌≡◌, drop}
use Rattle.gates.specs.Gate.{first_shorter}
use Rattle.gates.proofs.gate_list.schedule.first_too_short.Given as goal

abbrev pub invariant-loop-i : goal.invariant-loop-i
invariant-loop-i l = first_shorter l.least l.i (drop l.i l.entries) ≡ first_shorter l.least 0 l.entries
