use Rattle.std.proofs.Common.{◌∙◌}
use Rattle.paths.proofs.WayLaws.{hop_end, hop_more}
use Rattle.paths.proofs.ways.put_way.Goals as goal

pub loop-port-preserved : goal.loop-port-preserved
loop-port-preserved c = record {
  so_far = rw c.in_ok-put_hop.ensures.hops (hop_more c.args.links.now c.args.stream.now c.args.number c.args.ports.now c.loop-port.port-index _
      c.loop-port.before c.loop-port.kept.items _ _ c.loop-port-test.true (rw c.times_by-times.ensures at c.way_hop.ensures) c.loop-port.invariant.so_far);
  all = c.put_hop.ensures.all;
}

pub returns-clause-way : goal.returns-clause-way
returns-clause-way c =
    hop_end c.args.links.now c.args.stream.now c.args.number c.args.ports.now c.loop-port.port-index c.loop-port.before c.loop-port.kept.items _
    c.loop-port-test.false c.loop-port.invariant.so_far
