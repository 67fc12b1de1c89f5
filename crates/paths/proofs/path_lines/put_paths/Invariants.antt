use Rattle.std.proofs.Common.{drop, false}
use Rattle.text.specs.Writes.{Sent}
use Rattle.paths.specs.PathLines.{paths_lines}
use Rattle.paths.proofs.path_lines.put_paths.Given as goal

-- what is written and what is to come
abbrev pub invariant-loop-place : goal.invariant-loop-place
invariant-loop-place g l = Sent (g.W.Write.contents l.fn.writer) (g.W.Write.contents l.writer) (paths_lines l.ports l.verdicts l.names false l.hops) (paths_lines l.ports l.verdicts l.names l.over (drop l.place l.hops))
