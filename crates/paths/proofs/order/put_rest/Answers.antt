use Rattle.paths.proofs.PortLaws.{rest_end, rest_more}
use Rattle.paths.proofs.order.put_rest.Goals as goal

pub loop-port-preserved : goal.loop-port-preserved
loop-port-preserved c =
    rest_more c.args.count c.loop-port.port c.loop-port.kept.items c.put_port.new.kept.items _ c.loop-port-test.true
    c.in_ok-put_port.ensures.ports c.loop-port.invariant

pub returns : goal.returns
returns c = record { ports = rest_end c.args.count c.loop-port.port c.loop-port.kept.items _ c.loop-port-test.false c.loop-port.invariant }
