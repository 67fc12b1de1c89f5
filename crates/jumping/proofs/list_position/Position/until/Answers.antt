use Rattle.std.proofs.Common.{sym, ap, ◌∙◌}
use Rattle.gates.specs.Gate.{has_come}
use Rattle.jumping.proofs.PositionLaws.{flat_min, flat_cycle}
use Rattle.jumping.proofs.list_position.Position.until.Goals as goal

pub returns-in-Some-clause-flat : goal.returns-in-Some-clause-flat
returns-in-Some-clause-flat c = λ plan start n sound p.
    flat_min plan sound start c.args.held_from n c.args.self.now p (ap (has_come c.args.held_from) (sym c.started.ensures.value) ∙ (sym c.has_come.ensures ∙ c.if-has_come.false))
    c.entry_end.result c.entry_end.ensures c.in-Some.entry_end c.min.result c.in-Some.is c.next_start-cycle_end.result c.next_start-cycle_end.ensures.value c.min.ensures

pub returns-in-None-clause-flat : goal.returns-in-None-clause-flat
returns-in-None-clause-flat c = λ plan start n sound p.
    flat_cycle plan sound start c.args.held_from n c.args.self.now p (ap (has_come c.args.held_from) (sym c.started.ensures.value) ∙ (sym c.has_come.ensures ∙ c.if-has_come.false))
    c.entry_end.result c.entry_end.ensures c.in-None.is c.next_start-cycle_end.result c.next_start-cycle_end.ensures.value
