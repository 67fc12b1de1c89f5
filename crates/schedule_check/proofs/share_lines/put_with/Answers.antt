use Rattle.std.proofs.Common.{◌++◌, [], codes, refl}
use Rattle.std.proofs.lemmas.Result.{err_from_is_err_and}
use Rattle.std.specs.List.{flat_map}
use Rattle.std.specs.Prelude.{decimal}
use Rattle.text.proofs.Fronts.{sent_none, sent_more, sent_exit, sent_last}
use Rattle.schedule_check.specs.Words.{class_word, with_line}
use Rattle.schedule_check.proofs.SharingLaws.{three_parts}
use Rattle.schedule_check.proofs.share_lines.put_with.Goals as goal

pub returns-in_err-put_parts : goal.returns-in_err-put_parts
returns-in_err-put_parts g c =
    let p = err_from_is_err_and c.from_residual.result c.from_residual.ensures.1 in
    let class = decimal c.args.class in
    let rest = flat_map class_word c.args.others.now ++ codes "\n" in
    sent_exit _ (codes "shares " ++ (class ++ (codes " with" ++ []))) rest p.1 (sent_none _ (with_line c.args.class c.args.others.now)) (three_parts (codes "shares ") class (codes " with") rest) (rw c.from.ensures at c.in_err-put_parts.ensures)

pub returns-in_err-put_classes : goal.returns-in_err-put_classes
returns-in_err-put_classes g c =
    let p = err_from_is_err_and c.from_residual-in_err-put_classes.result c.from_residual-in_err-put_classes.ensures.1 in
    let class = decimal c.args.class in
    let others = flat_map class_word c.args.others.now in
    let first = sent_more _ (codes "shares " ++ (class ++ (codes " with" ++ []))) (others ++ codes "\n") (sent_none _ (with_line c.args.class c.args.others.now)) (three_parts (codes "shares ") class (codes " with") (others ++ codes "\n")) (rw c.from.ensures at c.in_ok-put_parts.ensures) in
    sent_exit _ others _ p.1 first refl c.in_err-put_classes.ensures

pub returns : goal.returns
returns g c =
    let class = decimal c.args.class in
    let others = flat_map class_word c.args.others.now in
    let first = sent_more _ (codes "shares " ++ (class ++ (codes " with" ++ []))) (others ++ codes "\n") (sent_none _ (with_line c.args.class c.args.others.now)) (three_parts (codes "shares ") class (codes " with") (others ++ codes "\n")) (rw c.from.ensures at c.in_ok-put_parts.ensures) in
    sent_last _ _ (sent_more _ others _ first refl c.in_ok-put_classes.ensures) c.put.ensures
