use Rattle.std.proofs.Common.{drop}
use Rattle.text.specs.Writes.{Sent}
use Rattle.paths.specs.NextLines.{next_lines}
use Rattle.paths.proofs.next_lines.put_next.Given as goal

-- what is written and what is to come
abbrev pub invariant-loop-hop : goal.invariant-loop-hop
invariant-loop-hop g l = Sent (g.W.Write.contents l.fn.writer) (g.W.Write.contents l.writer) (next_lines l.port l.hops) (next_lines l.port (drop l.hop-index l.hops))
