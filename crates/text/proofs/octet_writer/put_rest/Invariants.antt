-- What is written and what is left are the text.
use Rattle.std.proofs.Common.{length}
use Rattle.text.specs.Writes.{Sent}
use Rattle.text.proofs.octet_writer.put_rest.Given as goal

abbrev pub invariant-loop-rest : goal.invariant-loop-rest
invariant-loop-rest g l = Sent (g.W.Write.contents l.fn.writer) (g.W.Write.contents l.writer) l.octets l.rest

abbrev pub decreases-loop-rest : goal.decreases-loop-rest
decreases-loop-rest g l = length l.rest
