use Rattle.std.proofs.Common.{◌≡◌, length}
use Rattle.traffic.specs.Words.{IsTournament, Sent, frames_before, frames_from, left_of_all, lines_of}
use Rattle.traffic.proofs.frame_lines.write_frames_before.Given as goal

-- What is written and the lines of the frames to come before the moment are those of all before it.
abbrev pub invariant-loop-coming : goal.invariant-loop-coming
invariant-loop-coming g l = record {
  tournament : IsTournament l.turns l.nodes;
  sent : Sent (g.W.Write.contents l.fn.writer) (g.W.Write.contents l.writer) (lines_of l.fn.written (frames_before l.end (left_of_all l.fn.turns))) (lines_of l.written (frames_before l.end (left_of_all l.turns)));
  others : frames_from l.end (left_of_all l.fn.turns) ≡ frames_from l.end (left_of_all l.turns);
}

abbrev pub decreases-loop-coming : goal.decreases-loop-coming
decreases-loop-coming g l = length (frames_before l.end (left_of_all l.turns))
