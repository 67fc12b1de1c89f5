-- The lines before the cursor are taken.
use Rattle.std.proofs.Common.{◌≡◌, ◌-◌, ℕ, List, Result, length}
use Rattle.replay.specs.Words.{Command, Entry, IsReader, TcFault, lines_by, lines_left, lines_past, requests_of}
use Rattle.replay.proofs.TakerLaws.{HasTaken}
use Rattle.replay.proofs.both_walk.take_lines.Given as goal

abbrev pub invariant-loop-line : goal.invariant-loop-line
invariant-loop-line g l = record {
  ready : g.T.Taker.ready l.taker;
  left : (read : List (List ℕ) → Result Command TcFault) → IsReader read →
      lines_past l.upto (lines_left read l.script l.cursor) ≡ lines_past l.upto (lines_left read l.script l.fn.cursor);
  taken : (read : List (List ℕ) → Result Command TcFault) → IsReader read → (es : List Entry) →
      HasTaken g.T.Taker.took g.T.Taker.cut es l.fn.taker l.fn.out l.fn.watch l.taker l.out l.watch
      (requests_of (lines_by l.upto (lines_left read l.script l.fn.cursor))) (requests_of (lines_by l.upto (lines_left read l.script l.cursor)));
}

abbrev pub decreases-loop-line : goal.decreases-loop-line
decreases-loop-line g l = length l.script.lines.items - l.cursor.at
