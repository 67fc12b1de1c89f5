use Rattle.std.proofs.Common.{◌+◌, ◌++◌, ℕ, length, decimal, sym, refl, ap, ◌∙◌}
use Rattle.std.proofs.lemmas.Result.{err_from_is_err_and}
use Rattle.text.proofs.Fronts.{sent_exit, sent_last, sent_more, sent_none}
use Rattle.drawing.specs.Marks.{label_in, label_text}
use Rattle.drawing.specs.Axis.{tick_name, tick_text}
use Rattle.drawing.specs.declared.page.TheConstants.{AXIS}
use Rattle.drawing.proofs.svg.put_tick.Goals as goal

pub returns-in_err-put_line : goal.returns-in_err-put_line
returns-in_err-put_line g c =
    let p = err_from_is_err_and c.from_residual.result c.from_residual.ensures.1 in
    let s0 = sent_none (g.W.Write.contents c.args.writer.now) (tick_text c.args.page.now c.args.x c.args.number c.args.unit.now) in
    sent_exit _ _ (label_text (label_in c.args.page.now c.args.x (length (decimal c.args.number) + 3)) AXIS ++ tick_name c.args.number c.args.unit.now) p.1 s0 refl c.in_err-put_line.ensures

pub returns-in_err-put_label : goal.returns-in_err-put_label
returns-in_err-put_label g c =
    let shown = ap (λ (n : ℕ). label_text (label_in c.args.page.now c.args.x (n + 3)) AXIS ++ tick_name c.args.number c.args.unit.now) (sym c.digits.ensures.value) ∙ ap (λ (n : ℕ). label_text n AXIS ++ tick_name c.args.number c.args.unit.now) (sym c.label-label.ensures) in
    let p = err_from_is_err_and c.from_residual-in_err-put_label.result c.from_residual-in_err-put_label.ensures.1 in
    let s0 = sent_none (g.W.Write.contents c.args.writer.now) (tick_text c.args.page.now c.args.x c.args.number c.args.unit.now) in
    let s1 = sent_more _ _ (label_text (label_in c.args.page.now c.args.x (length (decimal c.args.number) + 3)) AXIS ++ tick_name c.args.number c.args.unit.now) s0 refl c.in_ok-put_line.ensures in
    sent_exit _ _ (tick_name c.args.number c.args.unit.now) p.1 s1 shown c.in_err-put_label.ensures

pub returns : goal.returns
returns g c =
    let shown = ap (λ (n : ℕ). label_text (label_in c.args.page.now c.args.x (n + 3)) AXIS ++ tick_name c.args.number c.args.unit.now) (sym c.digits.ensures.value) ∙ ap (λ (n : ℕ). label_text n AXIS ++ tick_name c.args.number c.args.unit.now) (sym c.label-label.ensures) in
    let s0 = sent_none (g.W.Write.contents c.args.writer.now) (tick_text c.args.page.now c.args.x c.args.number c.args.unit.now) in
    let s1 = sent_more _ _ (label_text (label_in c.args.page.now c.args.x (length (decimal c.args.number) + 3)) AXIS ++ tick_name c.args.number c.args.unit.now) s0 refl c.in_ok-put_line.ensures in
    let s2 = sent_more _ _ (tick_name c.args.number c.args.unit.now) s1 shown c.in_ok-put_label.ensures in
    sent_last c.put_tick_name.result _ s2 c.put_tick_name.ensures
