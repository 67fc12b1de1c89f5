-- `write_out` ends, since each turn writes some octets, and what is written is in the writer.
use Rattle.std.proofs.Common.{◌-◌, ◌≤◌, length, take}
use Rattle.std.specs.Io.KnownBytes.{Appends}
use Rattle.text.proofs.octet_writer.output.write_out.Given as goal

abbrev pub invariant-loop-written : goal.invariant-loop-written
invariant-loop-written g l = (l.written ≤ length l.octets) × Appends (g.W.Write.contents l.fn.writer) (g.W.Write.contents l.writer) (take l.written l.octets)

abbrev pub decreases-loop-written : goal.decreases-loop-written
decreases-loop-written g l = length l.octets - l.written
