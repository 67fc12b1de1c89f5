use Rattle.std.proofs.Common.{ap, sym, ◌∙◌}
use Rattle.stream_bounds.proofs.RefusalLaws.{class_by, class_is}
use Rattle.stream_bounds.proofs.classes.class_for.Goals as goal

pub returns-in-Some-clause-class : goal.returns-in-Some-clause-class
returns-in-Some-clause-class c =
    c.class_of.ensures.class ∙ sym (class_is c.args.settings.now c.args.change.now c.args.priority ∙ ap (class_by c.args.priority) (sym c.map_after.ensures ∙ c.in-Some.is))

pub returns-in-None-clause-class : goal.returns-in-None-clause-class
returns-in-None-clause-class c =
    c.default_class.ensures.class ∙ sym (class_is c.args.settings.now c.args.change.now c.args.priority ∙ ap (class_by c.args.priority) (sym c.map_after.ensures ∙ c.in-None.is))
