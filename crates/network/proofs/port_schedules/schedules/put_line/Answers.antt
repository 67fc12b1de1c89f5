use Rattle.std.proofs.Common.{Ok, sym, ap, ◌∙◌}
use Rattle.network.proofs.CommandLaws.{asked, skipped, wrong}
use Rattle.network.proofs.port_schedules.schedules.put_line.Goals as goal

pub returns-in-Err : goal.returns-in-Err
returns-in-Err g c = λ read is. wrong _ c.args.kept.now.items _ c.in-Err.fault (sym c.is_command.ensures ∙ c.in-Err.is)

pub returns-then-not-asks : goal.returns-then-not-asks
returns-then-not-asks g c = λ read is. skipped _ c.args.kept.now.items _ (sym c.is_command.ensures ∙ (c.in-Ok.is ∙ ap Ok c.if-not-asks.true))

pub returns : goal.returns
returns g c = λ read is.
    asked _ c.args.kept.now.items _ c.put_command.result _ (sym c.is_command.ensures ∙ (c.in-Ok.is ∙ ap Ok c.if-not-asks.false)) (c.put_command.ensures read is)
