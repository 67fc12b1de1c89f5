use Rattle.std.proofs.Common.{arith}
use Rattle.std.proofs.lemmas.Result.{err_from_is_err_and}
use Rattle.text.proofs.Fronts.{sent_all, sent_exit, sent_more, sent_none}
use Rattle.drawing.specs.Picture.{class_name}
use Rattle.drawing.proofs.TextLaws.{each_more, each_none}
use Rattle.drawing.proofs.svg.put_class_names.Goals as goal

pub returns-in_err-put_class_name : goal.returns-in_err-put_class_name
returns-in_err-put_class_name g c =
    let p = err_from_is_err_and c.from_residual.result c.from_residual.ensures.1 in
    sent_exit _ _ _ p.1 c.loop-class.invariant (each_more (class_name) c.loop-class.class 8 c.loop-class-test.true) c.in_err-put_class_name.ensures

pub loop-class-preserved : goal.loop-class-preserved
loop-class-preserved g c = sent_more _ _ _ c.loop-class.invariant (each_more (class_name) c.loop-class.class 8 c.loop-class-test.true) c.in_ok-put_class_name.ensures

pub loop-class-init : goal.loop-class-init
loop-class-init g c = sent_none _ _

pub returns : goal.returns
returns g c = sent_all c.loop-class.invariant (each_none (class_name) c.loop-class.class 8 (omega (arith, c.loop-class-test.false)))
