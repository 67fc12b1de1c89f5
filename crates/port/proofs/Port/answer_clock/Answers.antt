use Rattle.std.proofs.Common.{sym, ◌∙◌}
use Rattle.abstract_port.proofs.AskedLaws.{gives_start, gives_end}
use Rattle.port.proofs.Port.answer_clock.Goals as goal

pub returns-in-Some-clause-gives : goal.returns-in-Some-clause-gives
returns-in-Some-clause-gives g c =
    gives_start c.args.until _ _ c.now-now.ensures.sound (sym c.is_backward.ensures ∙ c.if-is_backward.false) c.step.ensures.port c.in-Some.start (sym c.step.ensures.start ∙ c.in-Some.is)

pub returns-in-None-clause-gives : goal.returns-in-None-clause-gives
returns-in-None-clause-gives g c =
    gives_end c.args.until _ _ c.now-now.ensures.sound (sym c.is_backward.ensures ∙ c.if-is_backward.false) c.step.ensures.port c.step.ensures.sound (sym c.step.ensures.start ∙ c.in-None.is)

pub now-now-requires : goal.now-now-requires
now-now-requires g c = search

pub is_backward-requires : goal.is_backward-requires
is_backward-requires g c = search
