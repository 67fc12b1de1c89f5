use Rattle.std.proofs.Common.{sym, ap, ◌∙◌}
use Rattle.drawing.specs.Words.{waiting_in, waits_on}
use Rattle.drawing.proofs.WaitLaws.{next_class_waits, no_classes_wait}
use Rattle.drawing.proofs.course.all_wait_on.Goals as goal

pub loop-class-init : goal.loop-class-init
loop-class-init g c = sym (no_classes_wait _ _ _)

pub loop-class-preserved : goal.loop-class-preserved
loop-class-preserved g c =
    c.wait_on.ensures
    ∙ ap (waits_on c.loop-class.class c.args.upto (waiting_in c.args.arrivals.now c.loop-class.class).moments) c.loop-class.invariant
    ∙ sym (next_class_waits _ _ _ _)
