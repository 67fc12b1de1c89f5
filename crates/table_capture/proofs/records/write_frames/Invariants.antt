use Rattle.std.proofs.Common.{length}
use Rattle.table_capture.specs.Words.{AreCarried, IsRoom, IsTournament, Sent, left_of_all, records_of}
use Rattle.table_capture.proofs.records.write_frames.Given as goal

-- What is written and the records of the frames to come are those of all.
abbrev pub invariant-loop-coming : goal.invariant-loop-coming
invariant-loop-coming g l = record {
  room : IsRoom l.room;
  tournament : IsTournament l.turns l.nodes;
  carried : AreCarried (left_of_all l.turns);
  sent : Sent (g.W.Write.contents l.fn.writer) (g.W.Write.contents l.writer) (records_of (left_of_all l.fn.turns)) (records_of (left_of_all l.turns));
}

abbrev pub decreases-loop-coming : goal.decreases-loop-coming
decreases-loop-coming g l = length (left_of_all l.turns)
