use Rattle.std.proofs.lemmas.Result.{err_from_is_err_and}
use Rattle.text.proofs.Fronts.{sent_all, sent_exit, sent_more}
use Rattle.stream_bounds.proofs.LineLaws.{finding_end, found_more, stream_end, told_more}
use Rattle.stream_bounds.proofs.stream_lines.put_streams.Goals as goal

pub returns-in_err-put_told-clause-lines : goal.returns-in_err-put_told-clause-lines
returns-in_err-put_told-clause-lines g c =
    let p = err_from_is_err_and c.from_residual.result c.from_residual.ensures.1 in
    let more = told_more c.args.settings.now c.args.change.now c.loop-stream.answers c.next_told-told.new.answers c.args.streams.now c.loop-stream.stream-index _ c.needs_of-needs.result c.next_told-told.result.delay c.next_told-told.result.extra c.loop-stream-test.true (rw c.rate.ensures at c.needs_of-needs.ensures) c.next_told-told.ensures.delay c.next_told-told.ensures.extra c.next_told-told.ensures.left in
    sent_exit _ _ _ p.1 c.loop-stream.invariant.lines more c.in_err-put_told.ensures

pub loop-stream-preserved : goal.loop-stream-preserved
loop-stream-preserved g c =
    let more = told_more c.args.settings.now c.args.change.now c.loop-stream.answers c.next_told-told.new.answers c.args.streams.now c.loop-stream.stream-index _ c.needs_of-needs.result c.next_told-told.result.delay c.next_told-told.result.extra c.loop-stream-test.true (rw c.rate.ensures at c.needs_of-needs.ensures) c.next_told-told.ensures.delay c.next_told-told.ensures.extra c.next_told-told.ensures.left in
    record {
      lines = sent_more _ _ _ c.loop-stream.invariant.lines more c.in_ok-put_told.ensures;
      finding = found_more c.args.settings.now c.args.change.now c.loop-stream.answers c.next_told-told.new.answers c.args.streams.now c.loop-stream.stream-index _ c.needs_of-needs.result c.next_told-told.result.delay c.loop-stream.first c.stream_finding.result c.first_of-first.result _ c.loop-stream-test.true (rw c.rate.ensures at c.needs_of-needs.ensures) c.next_told-told.ensures.delay c.next_told-told.ensures.left c.stream_finding.ensures c.first_of-first.ensures c.loop-stream.invariant.finding;
    }

pub returns-clause-lines : goal.returns-clause-lines
returns-clause-lines g c = sent_all c.loop-stream.invariant.lines (stream_end c.args.settings.now c.args.change.now c.loop-stream.answers c.args.streams.now c.loop-stream.stream-index c.loop-stream-test.false)

pub returns-clause-finding : goal.returns-clause-finding
returns-clause-finding g c = finding_end c.args.settings.now c.args.change.now c.loop-stream.answers c.args.streams.now c.loop-stream.stream-index c.loop-stream.first _ c.loop-stream-test.false c.loop-stream.invariant.finding
