use Rattle.std.proofs.lemmas.Result.{err_from_is_err_and}
use Rattle.text.proofs.Fronts.{sent_all, sent_exit, sent_more}
use Rattle.stream_bounds.proofs.LineLaws.{flag_end, flag_more}
use Rattle.stream_bounds.proofs.class_lines.put_flags.Goals as goal

pub returns-in_err-put_flag : goal.returns-in_err-put_flag
returns-in_err-put_flag g c =
    let p = err_from_is_err_and c.from_residual.result c.from_residual.ensures.1 in
    sent_exit _ _ _ p.1 c.loop-class.invariant (flag_more c.args.flags.now c.loop-class.class c.loop-class-test.true) c.in_err-put_flag.ensures

pub loop-class-preserved : goal.loop-class-preserved
loop-class-preserved g c =
    sent_more _ _ _ c.loop-class.invariant (flag_more c.args.flags.now c.loop-class.class c.loop-class-test.true) c.in_ok-put_flag.ensures

pub returns : goal.returns
returns g c = sent_all c.loop-class.invariant (flag_end c.args.flags.now c.loop-class.class c.loop-class-test.false)
