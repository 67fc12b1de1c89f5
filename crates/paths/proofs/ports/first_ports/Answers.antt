use Rattle.std.proofs.Common.{arith}
use Rattle.std.proofs.lemmas.Result.{err_from_is_err_and}
use Rattle.network.specs.Reads.{seen}
use Rattle.paths.proofs.PortLaws.{one_longer, out_of_memory, port_end, port_more, port_refused, refused_so}
use Rattle.paths.proofs.ports.first_ports.Goals as goal

pub returns-in_err-port-clause-fault : goal.returns-in_err-port-clause-fault
returns-in_err-port-clause-fault c =
    let p = err_from_is_err_and c.from_residual.result c.from_residual.ensures.1 in
    refused_so _ _ _ _ p.1 p.2 (port_refused c.args.settings.now (seen c.args.network.now) c.args.kept.now c.args.count c.loop-number.number
    c.loop-number.ports.items _ _ c.loop-number-test.true c.in_err-port.ensures.fault c.loop-number.invariant.so_far)

pub returns-in_err-put_port-clause-fault : goal.returns-in_err-put_port-clause-fault
returns-in_err-put_port-clause-fault c =
    let p = err_from_is_err_and c.from_residual-in_err-put_port.result c.from_residual-in_err-put_port.ensures.1 in
    out_of_memory _ _ _ _ p.1 p.2 c.in_err-put_port.ensures.memory

pub loop-number-preserved : goal.loop-number-preserved
loop-number-preserved c = record {
  so_far = rw c.in_ok-put_port.ensures.ports (port_more c.args.settings.now (seen c.args.network.now) c.args.kept.now c.args.count c.loop-number.number
      c.loop-number.ports.items _ _ c.loop-number-test.true c.in_ok-port.ensures.port c.loop-number.invariant.so_far);
  all = c.put_port.ensures.all;
  long = rw c.in_ok-put_port.ensures.ports (one_longer c.loop-number.ports.items _ c.loop-number.number c.loop-number.invariant.long);
  within = omega (arith, c.loop-number-test.true);
}

pub returns-clause-ports : goal.returns-clause-ports
returns-clause-ports c =
    port_end c.args.settings.now (seen c.args.network.now) c.args.kept.now c.args.count c.loop-number.number c.loop-number.ports.items _
    c.loop-number-test.false c.loop-number.invariant.so_far
