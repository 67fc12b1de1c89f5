use Rattle.std.proofs.Common.{◌≡◌, ap}
use Rattle.std.proofs.lemmas.Result.{err_from_is_err_and}
use Rattle.text.proofs.Fronts.{sent_more, sent_exit, sent_all}
use Rattle.schedule_check.specs.Words.{classes_sharing, shares_line, sharing_line}
use Rattle.schedule_check.proofs.OpenLineLaws.{lines_first, lines_more, lines_end}
use Rattle.schedule_check.proofs.share_lines.put_each.Goals as goal

pub loop-class-init : goal.loop-class-init
loop-class-init g c = lines_first (sharing_line c.args.schedule.now c.args.count) c.args.count _

pub loop-class-preserved : goal.loop-class-preserved
loop-class-preserved g c =
    let plan = c.args.schedule.now in
    let class = c.loop-class.class in
    let others : c.deref.result.now ≡ classes_sharing plan class c.args.count 0 = cc in
    let more = lines_more (sharing_line plan c.args.count) c.args.count class _ c.loop-class-test.true (ap (shares_line class) others) in
    sent_more _ (shares_line class c.deref.result.now) _ c.loop-class.invariant more c.in_ok-put_sharing.ensures

pub returns-in_err-put_sharing : goal.returns-in_err-put_sharing
returns-in_err-put_sharing g c =
    let p = err_from_is_err_and c.from_residual.result c.from_residual.ensures.1 in
    let plan = c.args.schedule.now in
    let class = c.loop-class.class in
    let others : c.deref.result.now ≡ classes_sharing plan class c.args.count 0 = cc in
    let more = lines_more (sharing_line plan c.args.count) c.args.count class _ c.loop-class-test.true (ap (shares_line class) others) in
    sent_exit _ (shares_line class c.deref.result.now) _ p.1 c.loop-class.invariant more c.in_err-put_sharing.ensures

pub returns : goal.returns
returns g c =
    sent_all c.loop-class.invariant (lines_end (sharing_line c.args.schedule.now c.args.count) c.args.count c.loop-class.class c.loop-class-test.false)
