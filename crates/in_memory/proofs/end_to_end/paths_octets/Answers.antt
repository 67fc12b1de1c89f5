use Rattle.std.proofs.Common.{Result, subst, sym, ◌∙◌}
use Rattle.stream_bounds.specs.declared.settings.BoundsSettings.{BoundsSettings}
use Rattle.stream_bounds.specs.declared.settings.BoundsValue.{BoundsValue}
use Rattle.in_memory.specs.Paths.{AnswersPaths}
use Rattle.in_memory.specs.Slices.{slices}
use Rattle.in_memory.proofs.end_to_end.paths_octets.Goals as goal

pub returns-in-Ok : goal.returns-in-Ok
returns-in-Ok c = λ read reads.
    subst (λ (s : Result BoundsSettings BoundsValue). AnswersPaths read s c.args.network.now c.args.schedules.now c.paths_with.result (slices c.args.output.now c.args.fault.now) (slices c.paths_with.new.output c.paths_with.new.fault))
    (sym c.in-Ok.is ∙ c.bounds_settings_at.ensures) (c.paths_with.ensures read reads)
