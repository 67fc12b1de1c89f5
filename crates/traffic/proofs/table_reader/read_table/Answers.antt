use Rattle.std.proofs.Common.{◌≡◌, ℕ, arith, Ok, Err, Option, Some, None, List, Result, refl, sym, ap, ◌∙◌, subst}
use Rattle.script.specs.declared.faults.ScriptFault.{ScriptFault}
use Rattle.traffic.specs.Words.{FrameCount, IsCount, Stream, TakesLine, counted_with, frame_count, line_judged, script_left, words_of}
use Rattle.traffic.specs.declared.table_reader.Untaken.{Untaken}
use Rattle.traffic.proofs.AlertLaws.{tells_all, tells_begun, tells_no_more, tells_on, tells_stop, told_as}
use Rattle.traffic.proofs.CountedLaws.{all_counted, count_more, counts_on}
use Rattle.traffic.proofs.CountedLaws.{begun as counting}
use Rattle.traffic.proofs.TableLaws.{Goes, begun, ends, goes_on, goes_past, stops, untaken}
use Rattle.traffic.proofs.table_reader.read_table.Goals as goal

-- what became of a line, by what was judged before the first one
taken_as : (judge now : Stream → Result Stream ScriptFault) (result : Result (Option Stream) Untaken) (line : List (List ℕ)) (before after : List Stream) → now ≡ judge
    → TakesLine result (line_judged now line) before after → TakesLine result (line_judged judge line) before after
taken_as judge now result line before after e h =
    let P : (Stream → Result Stream ScriptFault) → Type 0 = λ j. TakesLine result (line_judged j line) before after in
    subst P e h

pub lines-init : goal.lines-init
lines-init g c = record {
  judge = refl;
  goes = begun (g.T.StreamTaker.judge c.args.taker.now) _ _;
  few = λ none. (ap frame_count none, omega arith);
  counts = counting (g.T.StreamTaker.judge c.args.taker.now) _;
  alerts = tells_begun g.H.Watch.alerted g.T.StreamTaker.tells (g.T.StreamTaker.judge c.args.taker.now) g.met.H.Watch.nothing _ c.args.watch.now;
}

pub lines-preserved-in-Ok-None : goal.lines-preserved-in-Ok-None
lines-preserved-in-Ok-None g c =
    let judge = g.T.StreamTaker.judge c.args.taker.now in
    let a = rw c.if-not-more.false at c.in-Ok.ensures.line in
    let line = c.advance.new.self.line.items in
    let is = taken_as judge _ (Ok None) (words_of line) (g.T.StreamTaker.taken c.lines.taker) (g.T.StreamTaker.taken c.take_line.new.taker) c.lines.invariant.judge (rw (c.in-Ok-None.field-0-is, c.line.ensures) at c.in-Ok-None.ensures.taken) in
    let P : List Stream → Type 0 = λ now. Goes judge (script_left g.R.Read.remaining c.args.lines.now) (g.T.StreamTaker.taken c.args.taker.now) now (script_left g.R.Read.remaining c.advance.new.self) in
    record {
      judge = c.take_line.ensures.judge ∙ c.lines.invariant.judge;
      goes = subst P (sym is.1) (goes_past judge _ _ _ _ _ _ _ c.lines.invariant.goes a is.0);
      few = λ none. subst (λ (now : List Stream). IsCount c.lines.counted (frame_count now)) (sym is.1) (c.lines.invariant.few none);
      counts = counts_on judge _ _ _ _ _ _ _ _ c.lines.invariant.counts a is.0 refl;
      alerts = tells_on g.H.Watch.alerted g.T.StreamTaker.tells judge g.met.H.Watch.both _ _ None _ _ _ _ _ _ c.lines.invariant.alerts a is.0 (told_as g.H.Watch.alerted g.T.StreamTaker.tells judge _ c.advance.new.self.first (words_of line) _ _ c.lines.invariant.judge (rw (c.line_number.ensures, c.line.ensures) at c.take_line.ensures.alerts));
    }

pub lines-preserved : goal.lines-preserved
lines-preserved g c =
    let judge = g.T.StreamTaker.judge c.args.taker.now in
    let a = rw c.if-not-more.false at c.in-Ok.ensures.line in
    let line = c.advance.new.self.line.items in
    let stream = c.in-Ok-Some.stream in
    let is = taken_as judge _ (Ok (Some stream)) (words_of line) (g.T.StreamTaker.taken c.lines.taker) (g.T.StreamTaker.taken c.take_line.new.taker) c.lines.invariant.judge (rw (c.in-Ok-Some.field-0-is, c.line.ensures) at c.in-Ok-Some.ensures.taken) in
    let counted : c.with-counted.result ≡ counted_with c.advance.new.self.first stream.count c.lines.counted = c.with-counted.ensures ∙ ap (λ n. counted_with n stream.count c.lines.counted) c.line_number-in-Ok-Some.ensures in
    let P : List Stream → Type 0 = λ now. Goes judge (script_left g.R.Read.remaining c.args.lines.now) (g.T.StreamTaker.taken c.args.taker.now) now (script_left g.R.Read.remaining c.advance.new.self) in
    record {
      judge = c.take_line.ensures.judge ∙ c.lines.invariant.judge;
      goes = subst P (sym is.1) (goes_on judge _ _ _ _ _ _ _ stream c.lines.invariant.goes a is.0);
      few = λ none. count_more c.advance.new.self.first c.lines.counted c.with-counted.result _ _ stream counted is.1 (c.lines.invariant.few none);
      counts = counts_on judge _ _ _ _ _ _ _ _ c.lines.invariant.counts a is.0 counted;
      alerts = tells_on g.H.Watch.alerted g.T.StreamTaker.tells judge g.met.H.Watch.both _ _ (Some stream) _ _ _ _ _ _ c.lines.invariant.alerts a is.0 (told_as g.H.Watch.alerted g.T.StreamTaker.tells judge _ c.advance.new.self.first (words_of line) _ _ c.lines.invariant.judge (rw (c.line_number.ensures, c.line.ensures) at c.take_line.ensures.alerts));
    }

pub returns-in-Err-clause-table : goal.returns-in-Err-clause-table
returns-in-Err-clause-table g c =
    stops (g.T.StreamTaker.judge c.args.taker.now) _ _ {T = FrameCount} _ _ _ _ _ _ _ _ c.lines.invariant.goes c.in-Err.ensures.line (ap Err c.from.ensures)

pub returns-in-Err-take_line-clause-table : goal.returns-in-Err-take_line-clause-table
returns-in-Err-take_line-clause-table g c =
    let judge = g.T.StreamTaker.judge c.args.taker.now in
    let a = rw c.if-not-more.false at c.in-Ok.ensures.line in
    let line = c.advance.new.self.line.items in
    let is = taken_as judge _ (Err c.in-Err-take_line.why) (words_of line) (g.T.StreamTaker.taken c.lines.taker) (g.T.StreamTaker.taken c.take_line.new.taker) c.lines.invariant.judge (rw c.line.ensures at c.in-Err-take_line.ensures.taken) in
    let number = rw c.line_number-in-Err-take_line.ensures at c.line_fault.ensures.fault in
    untaken judge _ _ {T = FrameCount} c.in-Err-take_line.why c.line_fault.result _ _ _ _ _ _ _ _ c.lines.invariant.goes a is number refl

pub returns-clause-table : goal.returns-clause-table
returns-clause-table g c =
    let a = rw c.if-not-more.true at c.in-Ok.ensures.line in
    ends (g.T.StreamTaker.judge c.args.taker.now) _ _ {T = FrameCount} c.lines.counted _ _ _ _ _ c.lines.invariant.goes a refl

pub returns-clause-counted : goal.returns-clause-counted
returns-clause-counted g c =
    let a = rw c.if-not-more.true at c.in-Ok.ensures.line in
    all_counted (g.T.StreamTaker.judge c.args.taker.now) _ _ _ _ _ _ c.lines.invariant.counts a

pub returns-in-Err-clause-alerts : goal.returns-in-Err-clause-alerts
returns-in-Err-clause-alerts g c =
    tells_stop g.H.Watch.alerted g.T.StreamTaker.tells (g.T.StreamTaker.judge c.args.taker.now) {T = FrameCount} _ _ _ _ _ _ _ _ _ c.lines.invariant.alerts c.in-Err.ensures.line (ap Err c.from.ensures)

pub returns-in-Err-take_line-clause-alerts : goal.returns-in-Err-take_line-clause-alerts
returns-in-Err-take_line-clause-alerts g c =
    let judge = g.T.StreamTaker.judge c.args.taker.now in
    let a = rw c.if-not-more.false at c.in-Ok.ensures.line in
    let line = c.advance.new.self.line.items in
    let is = taken_as judge _ (Err c.in-Err-take_line.why) (words_of line) (g.T.StreamTaker.taken c.lines.taker) (g.T.StreamTaker.taken c.take_line.new.taker) c.lines.invariant.judge (rw c.line.ensures at c.in-Err-take_line.ensures.taken) in
    let number = rw c.line_number-in-Err-take_line.ensures at c.line_fault.ensures.fault in
    let told = told_as g.H.Watch.alerted g.T.StreamTaker.tells judge _ c.advance.new.self.first (words_of line) _ _ c.lines.invariant.judge (rw (c.line_number.ensures, c.line.ensures) at c.take_line.ensures.alerts) in
    tells_no_more g.H.Watch.alerted g.T.StreamTaker.tells judge g.met.H.Watch.both _ _ {T = FrameCount} c.in-Err-take_line.why c.line_fault.result _ _ _ _ _ _ _ _ _ _ c.lines.invariant.alerts a is number told c.line_fault.ensures.alerts refl

pub returns-clause-alerts : goal.returns-clause-alerts
returns-clause-alerts g c =
    let a = rw c.if-not-more.true at c.in-Ok.ensures.line in
    tells_all g.H.Watch.alerted g.T.StreamTaker.tells (g.T.StreamTaker.judge c.args.taker.now) {T = FrameCount} c.lines.counted _ _ _ _ _ _ _ _ c.lines.invariant.alerts a refl
