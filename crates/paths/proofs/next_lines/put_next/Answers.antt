use Rattle.std.proofs.lemmas.Result.{err_from_is_err_and}
use Rattle.text.proofs.Fronts.{sent_all, sent_exit, sent_more}
use Rattle.paths.proofs.LineLaws.{entry_end, entry_more}
use Rattle.paths.proofs.next_lines.put_next.Goals as goal

pub returns-in_err-put_hop : goal.returns-in_err-put_hop
returns-in_err-put_hop g c =
    let p = err_from_is_err_and c.from_residual.result c.from_residual.ensures.1 in
    sent_exit _ _ _ p.1 c.loop-hop.invariant (entry_more c.args.port c.args.hops.now c.loop-hop.hop-index _ _ c.loop-hop-test.true c.is_at.ensures) c.in_err-put_hop.ensures

pub loop-hop-preserved : goal.loop-hop-preserved
loop-hop-preserved g c =
    sent_more _ _ _ c.loop-hop.invariant (entry_more c.args.port c.args.hops.now c.loop-hop.hop-index _ _ c.loop-hop-test.true c.is_at.ensures) c.in_ok-put_hop.ensures

pub returns : goal.returns
returns g c = sent_all c.loop-hop.invariant (entry_end c.args.port c.args.hops.now c.loop-hop.hop-index c.loop-hop-test.false)
