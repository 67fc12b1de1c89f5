-- A failed write appends nothing.
use Rattle.std.specs.Io.KnownBytes.{Keeps}
use Rattle.text.proofs.octet_writer.output.write_once.Given as goal

abbrev pub invariant-loop : goal.invariant-loop
invariant-loop g l = Keeps (g.W.Write.contents l.fn.writer) (g.W.Write.contents l.writer)
