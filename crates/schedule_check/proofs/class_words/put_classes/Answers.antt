use Rattle.std.proofs.lemmas.List.{at_drop_more}
use Rattle.std.proofs.lemmas.Result.{err_from_is_err_and}
use Rattle.std.specs.List.{flat_map}
use Rattle.schedule_check.specs.Words.{class_word}
use Rattle.text.proofs.Fronts.{sent_more, sent_exit}
use Rattle.schedule_check.proofs.class_words.put_classes.Goals as goal

pub returns-in_err-put_class : goal.returns-in_err-put_class
returns-in_err-put_class g c =
    let p = err_from_is_err_and c.from_residual.result c.from_residual.ensures.1 in
    sent_exit _ _ _ p.1 c.loop-class.invariant (at_drop_more (flat_map class_word) _ c.loop-class.class-index _ c.loop-class-test.true) c.in_err-put_class.ensures

pub loop-class-preserved : goal.loop-class-preserved
loop-class-preserved g c =
    sent_more _ _ _ c.loop-class.invariant (at_drop_more (flat_map class_word) _ c.loop-class.class-index _ c.loop-class-test.true) c.in_ok-put_class.ensures
