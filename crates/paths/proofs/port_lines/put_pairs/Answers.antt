use Rattle.std.proofs.lemmas.Result.{err_from_is_err_and}
use Rattle.text.proofs.Fronts.{sent_all, sent_exit, sent_more}
use Rattle.paths.proofs.LineLaws.{pair_end, pair_more}
use Rattle.paths.proofs.port_lines.put_pairs.Goals as goal

pub returns-in_err-put_pair : goal.returns-in_err-put_pair
returns-in_err-put_pair g c =
    let p = err_from_is_err_and c.from_residual.result c.from_residual.ensures.1 in
    let more = pair_more c.args.known.now c.args.room c.args.port c.loop-class.class _ _ c.loop-class-test.true (rw c.hops.ensures.hops at c.has_own-has.ensures) (rw c.verdicts.ensures at c.verdict_at-verdict.ensures) in
    sent_exit _ _ _ p.1 c.loop-class.invariant more c.in_err-put_pair.ensures

pub loop-class-preserved : goal.loop-class-preserved
loop-class-preserved g c =
    let more = pair_more c.args.known.now c.args.room c.args.port c.loop-class.class _ _ c.loop-class-test.true (rw c.hops.ensures.hops at c.has_own-has.ensures) (rw c.verdicts.ensures at c.verdict_at-verdict.ensures) in
    sent_more _ _ _ c.loop-class.invariant more c.in_ok-put_pair.ensures

pub returns : goal.returns
returns g c = sent_all c.loop-class.invariant (pair_end c.args.known.now c.args.room c.args.port c.loop-class.class c.loop-class-test.false)
