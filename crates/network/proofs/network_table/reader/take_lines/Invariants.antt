use Rattle.text.specs.LineReader.{most_lines, script_left}
use Rattle.network.specs.Reads.{seen}
use Rattle.network.proofs.LineLaws.{Goes}
use Rattle.network.proofs.network_table.reader.take_lines.Given as goal

abbrev pub invariant-lines : goal.invariant-lines
invariant-lines g l = Goes (seen l.fn.network) (script_left g.R.Read.remaining l.fn.lines) (seen l.network) (script_left g.R.Read.remaining l.lines)

abbrev pub decreases-lines : goal.decreases-lines
decreases-lines g l = most_lines l.lines
