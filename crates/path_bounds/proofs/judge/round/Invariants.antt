use Rattle.path_bounds.specs.Judged.{AreLooked}
use Rattle.path_bounds.proofs.judge.round.Given as goal

-- those that have been looked at
abbrev pub invariant-loop-place : goal.invariant-loop-place
invariant-loop-place l = AreLooked l.ports l.clocks l.place l.initial.now l.now l.any
