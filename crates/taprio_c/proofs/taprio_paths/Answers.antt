use Rattle.std.proofs.Common.{subst}
use Rattle.in_memory.specs.Bounds.{bounds_settings_at}
use Rattle.in_memory.specs.Paths.{AnswersPaths}
use Rattle.in_memory.specs.Slices.{slices}
use Rattle.in_memory.specs.declared.bounds.BoundsAsked.{BoundsAsked}
use Rattle.in_memory.specs.declared.values.PortValues.{PortValues}
use Rattle.taprio_c.specs.FromC.{port_values}
use Rattle.taprio_c.proofs.taprio_paths.Goals as goal

pub returns : goal.returns
returns c = λ read reads.
    let P : PortValues → BoundsAsked → Type 0 = λ values asked. AnswersPaths read (bounds_settings_at values c.args.frames asked) c.args.network.now c.args.schedules.now c.paths_octets.result (slices c.args.output.now c.args.fault.now) (slices c.paths_octets.new.output c.paths_octets.new.fault) in
    subst (P (port_values c.args.values.now)) c.asked_of.ensures (subst (λ (values : PortValues). P values c.asked_of.result) c.port_values.ensures (c.paths_octets.ensures read reads))
