use Rattle.network.specs.Reads.{seen}
use Rattle.paths.proofs.EndLaws.{refused, with_ports}
use Rattle.paths.proofs.network_lines.answer_schedules.Goals as goal

pub returns-in-Ok : goal.returns-in-Ok
returns-in-Ok g c =
    with_ports _ c.args.settings.now c.args.target (seen c.args.network.now) c.args.kept.now c.in-Ok.ports.items _ _ c.in-Ok.ensures.ports
    (rw c.as_slice.ensures.value at c.answer_ports.ensures)

pub returns-in-Err : goal.returns-in-Err
returns-in-Err g c = refused c.args.settings.now _ c.in-Err.fault c.args.target (seen c.args.network.now) c.args.kept.now c.in-Err.ensures.fault
