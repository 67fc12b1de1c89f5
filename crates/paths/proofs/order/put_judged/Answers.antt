use Rattle.paths.proofs.PortLaws.{judged_end, judged_more}
use Rattle.paths.proofs.order.put_judged.Goals as goal

pub loop-pair-preserved : goal.loop-pair-preserved
loop-pair-preserved c =
    judged_more c.args.order.now c.loop-pair.pair-index _ c.loop-pair.kept.items c.put_port.new.kept.items _ c.loop-pair-test.true
    c.in_ok-put_port.ensures.ports c.loop-pair.invariant

pub returns : goal.returns
returns c = record { ports = judged_end c.args.order.now c.loop-pair.pair-index c.loop-pair.kept.items _ c.loop-pair-test.false c.loop-pair.invariant }
