use Rattle.std.specs.Io.KnownBytes.{Consumes}
use Rattle.plan.proofs.octets.read_octets.Given as goal

abbrev pub invariant-reads : goal.invariant-reads
invariant-reads g l = Consumes (g.R.Read.remaining l.fn.reader) (g.R.Read.remaining l.reader) l.octets.items
