use Rattle.std.proofs.lemmas.Result.{err_from_is_err_and}
use Rattle.text.proofs.Fronts.{sent_all, sent_exit, sent_more}
use Rattle.stream_bounds.proofs.LineLaws.{class_end, class_more}
use Rattle.stream_bounds.proofs.class_lines.put_classes.Goals as goal

pub returns-in_err-put_class : goal.returns-in_err-put_class
returns-in_err-put_class g c =
    let p = err_from_is_err_and c.from_residual.result c.from_residual.ensures.1 in
    sent_exit _ _ _ p.1 c.loop-class.invariant (class_more c.args.room c.args.answers.now c.loop-class.class c.verdict.result c.loop-class-test.true c.verdict.ensures) c.in_err-put_class.ensures

pub loop-class-preserved : goal.loop-class-preserved
loop-class-preserved g c =
    sent_more _ _ _ c.loop-class.invariant (class_more c.args.room c.args.answers.now c.loop-class.class c.verdict.result c.loop-class-test.true c.verdict.ensures) c.in_ok-put_class.ensures

pub returns : goal.returns
returns g c = sent_all c.loop-class.invariant (class_end c.args.room c.args.answers.now c.loop-class.class c.loop-class-test.false)
