use Rattle.std.proofs.Common.{◌≡◌, ◌+◌, ◌-◌, ◌++◌, ℕ, sym, ap, ◌∙◌}
use Rattle.std.proofs.lemmas.Result.{err_from_is_err_and}
use Rattle.text.proofs.Fronts.{sent_exit, sent_last, sent_more, sent_none}
use Rattle.drawing.specs.Marks.{change_name, change_number, label_in, label_text}
use Rattle.drawing.specs.declared.page.TheConstants.{CLASS_TOP}
use Rattle.drawing.proofs.marks.put_change_name.Goals as goal

pub returns-in_err-put_label : goal.returns-in_err-put_label
returns-in_err-put_label g c =
    let p = err_from_is_err_and c.from_residual.result c.from_residual.ensures.1 in
    let shown : change_name c.args.page.now c.args.x c.args.number ≡ label_text c.label-label.result (CLASS_TOP - 14) ++ change_number c.args.number =
    ap (λ (n : ℕ). label_text (label_in c.args.page.now c.args.x (7 + n)) (CLASS_TOP - 14) ++ change_number c.args.number) (sym c.number_length.ensures.value)
    ∙ ap (λ (n : ℕ). label_text n (CLASS_TOP - 14) ++ change_number c.args.number) (sym c.label-label.ensures) in
    sent_exit _ _ _ p.1 (sent_none (g.W.Write.contents c.args.writer.now) (change_name c.args.page.now c.args.x c.args.number)) shown c.in_err-put_label.ensures

pub returns : goal.returns
returns g c =
    let shown : change_name c.args.page.now c.args.x c.args.number ≡ label_text c.label-label.result (CLASS_TOP - 14) ++ change_number c.args.number =
    ap (λ (n : ℕ). label_text (label_in c.args.page.now c.args.x (7 + n)) (CLASS_TOP - 14) ++ change_number c.args.number) (sym c.number_length.ensures.value)
    ∙ ap (λ (n : ℕ). label_text n (CLASS_TOP - 14) ++ change_number c.args.number) (sym c.label-label.ensures) in
    sent_last c.put_change_number.result _ (sent_more _ _ _ (sent_none (g.W.Write.contents c.args.writer.now) (change_name c.args.page.now c.args.x c.args.number)) shown c.in_ok-put_label.ensures) c.put_change_number.ensures
