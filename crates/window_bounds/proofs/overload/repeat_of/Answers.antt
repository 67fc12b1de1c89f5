use Rattle.std.proofs.Common.{All, sym, ◌∙◌, subst}
use Rattle.burst_bounds.specs.Talkers.{IsTalker}
use Rattle.window_bounds.proofs.FlowLaws.{are_talkers}
use Rattle.window_bounds.proofs.overload.repeat_of.Goals as goal

pub is_overloaded-requires-clause-talkers : goal.is_overloaded-requires-clause-talkers
is_overloaded-requires-clause-talkers g c =
    subst (All IsTalker) (sym (c.as_slice.ensures.value ∙ c.in-Ok.ensures)) (are_talkers c.args.flows.now c.requires.flows)

pub common_time-requires-clause-talkers : goal.common_time-requires-clause-talkers
common_time-requires-clause-talkers g c =
    subst (All IsTalker) (sym (c.as_slice-2.ensures.value ∙ c.in-Ok.ensures)) (are_talkers c.args.flows.now c.requires.flows)
