use Rattle.text.specs.LineReader.{most_lines, script_left}
use Rattle.compare.proofs.RowLaws.{Goes}
use Rattle.compare.proofs.table.read_rows.Given as goal

abbrev pub invariant-rows : goal.invariant-rows
invariant-rows g l = Goes l.by l.columns (script_left g.R.Read.remaining l.fn.lines) l.fn.frames.items l.frames.items (script_left g.R.Read.remaining l.lines)

abbrev pub decreases-rows : goal.decreases-rows
decreases-rows g l = most_lines l.lines
