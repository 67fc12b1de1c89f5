use Rattle.std.proofs.Common.{ℕ, List, Result}
use Rattle.abstract_port.specs.declared.Command.{Command}
use Rattle.text.specs.LineReader.{most_lines, script_left}
use Rattle.network.specs.Reads.{seen}
use Rattle.network.proofs.ScheduleLineLaws.{Goes}
use Rattle.port_text.specs.Reader.{IsReader}
use Rattle.port_text.specs.declared.tc_reader.fault.TcFault.{TcFault}
use Rattle.network.proofs.port_schedules.reader.read_schedules.Given as goal

abbrev pub invariant-lines : goal.invariant-lines
invariant-lines g l = (read : List (List ℕ) → Result Command TcFault) → IsReader read →
    Goes read (seen l.network) l.fn.kept.items (script_left g.R.Read.remaining l.fn.lines) l.kept.items (script_left g.R.Read.remaining l.lines)

abbrev pub decreases-lines : goal.decreases-lines
decreases-lines g l = most_lines l.lines
