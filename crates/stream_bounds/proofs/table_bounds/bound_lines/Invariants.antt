use Rattle.std.proofs.Common.{ℕ, List, Result}
use Rattle.abstract_port.specs.declared.Command.{Command}
use Rattle.text.specs.LineReader.{script_left, most_lines}
use Rattle.stream_bounds.proofs.CommandLaws.{IsWritten}
use Rattle.stream_bounds.proofs.table_bounds.bound_lines.Given as goal
use Rattle.port_text.specs.declared.tc_reader.fault.TcFault.{TcFault}
use Rattle.port_text.specs.Reader.{IsReader}

abbrev pub invariant-lines : goal.invariant-lines
invariant-lines g l =
    (read : List (List ℕ) → Result Command TcFault) → IsReader read
    → IsWritten read l.settings l.streams (script_left g.R.Read.remaining l.fn.lines) (g.W.Write.contents l.fn.writer) (g.W.Write.contents l.writer)
    l.so_far (script_left g.R.Read.remaining l.lines)

abbrev pub decreases-lines : goal.decreases-lines
decreases-lines g l = most_lines l.lines
