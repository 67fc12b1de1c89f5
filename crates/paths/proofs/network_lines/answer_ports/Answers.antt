use Rattle.std.proofs.Common.{refl}
use Rattle.network.specs.Reads.{seen}
use Rattle.paths.proofs.EndLaws.{answered, no_memory}
use Rattle.paths.proofs.network_lines.answer_ports.Goals as goal

pub returns-in_default : goal.returns-in_default
returns-in_default g c = no_memory _ c.args.settings.now _ _ refl

pub returns-in_default-port_order : goal.returns-in_default-port_order
returns-in_default-port_order g c = no_memory _ c.args.settings.now _ _ refl

pub returns-in-Ok-put_lines : goal.returns-in-Ok-put_lines
returns-in-Ok-put_lines g c =
    let order = rw c.order.ensures at c.in-Ok-port_order.ensures.ports in
    let lines = rw (c.as_slice-names.ensures.value, c.as_slice.ensures.value) at c.in-Ok-put_lines.ensures in
    answered c.args.settings.now c.args.target (seen c.args.network.now) c.args.kept.now c.args.ports.now c.in-Ok.known _ _ _ _
    order c.in-Ok.ensures lines (rw c.found_in.ensures at c.end.ensures)
