use Rattle.std.proofs.Common.{Ok, sym, ap, ◌∙◌}
use Rattle.network.specs.Reads.{seen}
use Rattle.network.proofs.CommandLaws.{malformed, replaced}
use Rattle.network.proofs.port_schedules.schedules.put_command.Goals as goal

pub returns-in-Ok-Replace : goal.returns-in-Ok-Replace
returns-in-Ok-Replace g c = λ read is.
    replaced c.args.number c.args.kept.now.items (seen c.args.network.now) _ c.put_change.result c.in-Ok-Replace.change c.port_named-port.result _ _
    (sym (c.read_tc.ensures read is) ∙ (c.in-Ok-Replace.is ∙ ap Ok c.in-Ok-Replace.field-0-is)) c.port_named-port.ensures c.put_change.ensures

pub returns-in-Err : goal.returns-in-Err
returns-in-Err g c = λ read is.
    malformed c.args.number c.args.kept.now.items (seen c.args.network.now) _ c.in-Err.fault _ (sym (c.read_tc.ensures read is) ∙ c.in-Err.is)
