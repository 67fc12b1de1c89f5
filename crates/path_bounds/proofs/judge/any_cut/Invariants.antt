use Rattle.std.specs.List.{list_any}
use Rattle.std.proofs.Common.{◌≡◌, drop}
use Rattle.path_bounds.specs.Answers.{is_cut}
use Rattle.path_bounds.proofs.judge.any_cut.Given as goal

-- none of those so far is cut off
abbrev pub invariant-loop-place : goal.invariant-loop-place
invariant-loop-place l = list_any is_cut (drop l.place l.answer.left) ≡ list_any is_cut l.answer.left
