use Rattle.std.proofs.Common.{refl, codes}
use Rattle.std.proofs.lemmas.Result.{err_from_is_err_and}
use Rattle.std.specs.List.{flat_map}
use Rattle.schedule_check.specs.Words.{class_word}
use Rattle.text.proofs.Fronts.{sent_none, sent_more, sent_exit, sent_last}
use Rattle.schedule_check.proofs.schedule_report.put_some.Goals as goal

pub returns-in_err-put : goal.returns-in_err-put
returns-in_err-put g c =
    let p = err_from_is_err_and c.from_residual.result c.from_residual.ensures.1 in
    sent_exit _ (codes "apart") _ p.1 (sent_none _ _) refl c.in_err-put.ensures

pub returns-in_err-put_classes : goal.returns-in_err-put_classes
returns-in_err-put_classes g c =
    let p = err_from_is_err_and c.from_residual-in_err-put_classes.result c.from_residual-in_err-put_classes.ensures.1 in
    sent_exit _ (flat_map class_word c.args.classes.now) _ p.1 (sent_more _ (codes "apart") _ (sent_none _ _) refl c.in_ok-put.ensures) refl c.in_err-put_classes.ensures

pub returns : goal.returns
returns g c = sent_last _ _ (sent_more _ (flat_map class_word c.args.classes.now) _ (sent_more _ (codes "apart") _ (sent_none _ _) refl c.in_ok-put.ensures) refl c.in_ok-put_classes.ensures) c.put-2.ensures
