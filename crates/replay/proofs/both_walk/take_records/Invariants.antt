-- The records before a number are taken, each after the lines up to its moment.
use Rattle.std.proofs.Common.{◌≡◌, ◌≤◌, ◌-◌, ℕ, List, None, Result}
use Rattle.replay.specs.Words.{CAPTURE_END, ComesMoved, Command, End, Entry, IsReader, MAX_RECORDS, TcFault, left, lines_left}
use Rattle.replay.proofs.RecordLaws.{TakenMoved}
use Rattle.replay.proofs.TakerLaws.{IsTaking}
use Rattle.replay.proofs.both_walk.take_records.Given as goal

abbrev pub invariant-records : goal.invariant-records
invariant-records g l = record {
  ready : g.T.Taker.ready l.taker;
  going : (left l.records).ended ≡ None;
  numbered : (left l.records).number ≡ l.number;
  early : l.latest ≤ CAPTURE_END;
  stands : (read : List (List ℕ) → Result Command TcFault) → IsReader read → (es : List Entry) (last : End) → ComesMoved l.fn.shift g.R.Read.remaining (left l.fn.records) es last →
      TakenMoved (IsTaking g.T.Taker.took g.T.Taker.cut es (lines_left read l.script l.fn.cursor) l.fn.taker l.fn.out l.fn.watch l.taker l.out l.watch)
      l.fn.shift g.R.Read.remaining es last (left l.records) l.latest l.number (lines_left read l.script l.fn.cursor) (lines_left read l.script l.cursor);
}

abbrev pub decreases-records : goal.decreases-records
decreases-records g l = MAX_RECORDS - l.number
