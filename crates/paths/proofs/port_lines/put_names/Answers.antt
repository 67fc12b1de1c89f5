use Rattle.std.proofs.lemmas.Result.{err_from_is_err_and}
use Rattle.text.proofs.Fronts.{sent_all, sent_exit, sent_more}
use Rattle.paths.proofs.LineLaws.{name_end, name_more}
use Rattle.paths.proofs.port_lines.put_names.Goals as goal

pub returns-in_err-put_name : goal.returns-in_err-put_name
returns-in_err-put_name g c =
    let p = err_from_is_err_and c.from_residual.result c.from_residual.ensures.1 in
    sent_exit _ _ _ p.1 c.loop-pair.invariant (name_more c.args.known.now c.args.names.now c.args.count c.loop-pair.pair _ c.loop-pair-test.true c.is_cyclic.ensures) c.in_err-put_name.ensures

pub loop-pair-preserved : goal.loop-pair-preserved
loop-pair-preserved g c =
    sent_more _ _ _ c.loop-pair.invariant (name_more c.args.known.now c.args.names.now c.args.count c.loop-pair.pair _ c.loop-pair-test.true c.is_cyclic.ensures) c.in_ok-put_name.ensures

pub returns : goal.returns
returns g c = sent_all c.loop-pair.invariant (name_end c.args.known.now c.args.names.now c.args.count c.loop-pair.pair c.loop-pair-test.false)
