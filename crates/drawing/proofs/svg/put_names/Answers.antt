use Rattle.std.proofs.Common.{refl}
use Rattle.std.proofs.lemmas.Result.{err_from_is_err_and}
use Rattle.text.proofs.Fronts.{sent_exit, sent_last, sent_more, sent_none}
use Rattle.drawing.specs.Picture.{names_text, wire_name}
use Rattle.drawing.proofs.svg.put_names.Goals as goal

pub returns-in_err-put_class_names : goal.returns-in_err-put_class_names
returns-in_err-put_class_names g c =
    let p = err_from_is_err_and c.from_residual.result c.from_residual.ensures.1 in
    let s0 = sent_none (g.W.Write.contents c.args.writer.now) (names_text) in
    sent_exit _ _ (wire_name) p.1 s0 refl c.in_err-put_class_names.ensures

pub returns : goal.returns
returns g c =
    let s0 = sent_none (g.W.Write.contents c.args.writer.now) (names_text) in
    let s1 = sent_more _ _ (wire_name) s0 refl c.in_ok-put_class_names.ensures in
    sent_last c.put_wire_name.result _ s1 c.put_wire_name.ensures
