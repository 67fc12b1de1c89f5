use Rattle.std.proofs.Common.{◌≡◌, ◌≤◌, ◌+◌, None, length}
use Rattle.text.specs.declared.line_reader.lines.TheConstants.{MAX_LINES}
use Rattle.traffic.specs.Words.{IsTournament, left_of_all, line_count}
use Rattle.traffic.proofs.room.count_lines.Given as goal

-- The lines so far, and those of the frames to come, are those of all.
abbrev pub invariant-loop-coming : goal.invariant-loop-coming
invariant-loop-coming l = record {
  tournament : IsTournament l.turns l.nodes;
  few : l.count ≤ MAX_LINES;
  counted : l.count + line_count l.written (left_of_all l.turns) ≡ line_count None (left_of_all l.fn.turns);
}

abbrev pub decreases-loop-coming : goal.decreases-loop-coming
decreases-loop-coming l = length (left_of_all l.turns)
