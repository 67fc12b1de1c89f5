use Rattle.std.proofs.Common.{◌∙◌, sym, subst, Option, ℕ}
use Rattle.stream_bounds.specs.Shared.{IsHighest}
use Rattle.stream_bounds.proofs.SharedLaws.{if_known}
use Rattle.stream_bounds.proofs.shared.sharing_answer.Goals as goal

pub returns-in-None-clause-answer : goal.returns-in-None-clause-answer
returns-in-None-clause-answer c =
    if_known c.args.case.now.settings.now c.args.case.now.change.now c.args.case.now.table.now c.args.case.now.above.now c.args.streams.now c.args.case.now.class
    c.args.case.now.schedule.now c.open_above-open.result c.bounded_answer.result c.requires.case.plan c.open_above-open.ensures
    (sym c.is_any.ensures ∙ c.if-is_any.false)
    (subst (λ (h : Option ℕ). IsHighest c.args.case.now.schedule.now c.args.case.now.above.now c.args.case.now.class h) c.in-None.is c.unbounded_above.ensures)
    c.bounded_answer.ensures.answer
