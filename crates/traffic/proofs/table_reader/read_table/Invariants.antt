use Rattle.std.proofs.Common.{◌≡◌, []}
use Rattle.traffic.specs.Words.{IsCount, frame_count, most_lines, script_left}
use Rattle.traffic.proofs.AlertLaws.{Tells}
use Rattle.traffic.proofs.CountedLaws.{Counts}
use Rattle.traffic.proofs.TableLaws.{Goes}
use Rattle.traffic.proofs.table_reader.read_table.Given as goal

abbrev pub invariant-lines : goal.invariant-lines
invariant-lines g l = record {
  judge : g.T.StreamTaker.judge l.taker ≡ g.T.StreamTaker.judge l.fn.taker;
  goes : Goes (g.T.StreamTaker.judge l.fn.taker) (script_left g.R.Read.remaining l.fn.lines) (g.T.StreamTaker.taken l.fn.taker) (g.T.StreamTaker.taken l.taker) (script_left g.R.Read.remaining l.lines);
  few : g.T.StreamTaker.taken l.fn.taker ≡ [] → IsCount l.counted (frame_count (g.T.StreamTaker.taken l.taker));
  counts : Counts (g.T.StreamTaker.judge l.fn.taker) (script_left g.R.Read.remaining l.fn.lines) l.counted (script_left g.R.Read.remaining l.lines);
  alerts : Tells g.H.Watch.alerted g.T.StreamTaker.tells (g.T.StreamTaker.judge l.fn.taker) (script_left g.R.Read.remaining l.fn.lines) l.fn.watch l.watch (script_left g.R.Read.remaining l.lines);
}

abbrev pub decreases-lines : goal.decreases-lines
decreases-lines g l = most_lines l.lines
