use Rattle.std.proofs.lemmas.Result.{err_from_is_err_and}
use Rattle.text.proofs.Fronts.{sent_all, sent_exit, sent_more}
use Rattle.paths.proofs.LineLaws.{port_end, port_more}
use Rattle.paths.proofs.port_lines.put_ports.Goals as goal

pub returns-in_err-put_port : goal.returns-in_err-put_port
returns-in_err-put_port g c =
    let p = err_from_is_err_and c.from_residual.result c.from_residual.ensures.1 in
    sent_exit _ _ _ p.1 c.loop-number.invariant (port_more c.args.known.now c.args.names.now c.args.ports.now c.args.order.now c.loop-number.number-index _ c.loop-number-test.true) c.in_err-put_port.ensures

pub loop-number-preserved : goal.loop-number-preserved
loop-number-preserved g c =
    sent_more _ _ _ c.loop-number.invariant (port_more c.args.known.now c.args.names.now c.args.ports.now c.args.order.now c.loop-number.number-index _ c.loop-number-test.true) c.in_ok-put_port.ensures

pub returns : goal.returns
returns g c = sent_all c.loop-number.invariant (port_end c.args.known.now c.args.names.now c.args.ports.now c.args.order.now c.loop-number.number-index c.loop-number-test.false)
