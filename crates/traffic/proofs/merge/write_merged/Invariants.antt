use Rattle.std.proofs.Common.{◌-◌, None}
use Rattle.text.specs.declared.line_reader.lines.TheConstants.{MAX_LINES}
use Rattle.traffic.specs.Words.{IsRoomLeft, IsTournament, script_left, most_lines, left_of_all, line_count}
use Rattle.traffic.proofs.MergeLaws.{Reaches}
use Rattle.traffic.proofs.merge.write_merged.Given as goal

abbrev pub invariant-lines : goal.invariant-lines
invariant-lines g l = record {
  tournament : IsTournament l.turns l.nodes;
  room : IsRoomLeft l.room (left_of_all l.streams) (left_of_all l.fn.turns);
  reaches : Reaches (MAX_LINES - line_count None (left_of_all l.fn.turns)) (script_left g.R.Read.remaining l.fn.lines) (left_of_all l.fn.turns) (g.W.Write.contents l.fn.writer) (g.W.Write.contents l.writer) l.clock (left_of_all l.turns) (script_left g.R.Read.remaining l.lines);
}

abbrev pub decreases-lines : goal.decreases-lines
decreases-lines g l = most_lines l.lines
