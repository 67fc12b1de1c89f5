use Rattle.std.proofs.Common.{subst}
use Rattle.in_memory.specs.Bounds.{AnswersBounds, bounds_settings_at}
use Rattle.in_memory.specs.Slices.{slices}
use Rattle.in_memory.specs.declared.bounds.BoundsAsked.{BoundsAsked}
use Rattle.in_memory.specs.declared.values.PortValues.{PortValues}
use Rattle.taprio_c.specs.FromC.{port_values}
use Rattle.taprio_c.proofs.taprio_bounds.Goals as goal

pub returns : goal.returns
returns c = λ read reads.
    let P : PortValues → BoundsAsked → Type 0 = λ values asked. AnswersBounds read (bounds_settings_at values c.args.frames asked) c.args.table.now c.args.schedules.now c.bounds_octets.result (slices c.args.output.now c.args.fault.now) (slices c.bounds_octets.new.output c.bounds_octets.new.fault) in
    subst (P (port_values c.args.values.now)) c.asked_of.ensures (subst (λ (values : PortValues). P values c.asked_of.result) c.port_values.ensures (c.bounds_octets.ensures read reads))
