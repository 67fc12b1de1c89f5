use Rattle.std.proofs.Common.{◌+◌, ◌-◌, ◌*◌, ◌++◌, ℕ, sym, ap}
use Rattle.std.proofs.lemmas.Result.{err_from_is_err_and}
use Rattle.text.proofs.Fronts.{sent_exit, sent_last, sent_more, sent_none}
use Rattle.drawing.specs.Marks.{rect_text}
use Rattle.drawing.specs.Picture.{legend_rect, legend_text}
use Rattle.drawing.proofs.svg.put_legend_rect.Goals as goal

pub returns-in_err-put_rect : goal.returns-in_err-put_rect
returns-in_err-put_rect g c =
    let first = ap (λ (n : ℕ). rect_text c.args.look.now (n * 100) 2200 (c.args.line - 10) 12 ++ legend_text (c.args.x + 28) c.args.line c.args.text.now) (sym c.from.ensures) in
    let p = err_from_is_err_and c.from_residual.result c.from_residual.ensures.1 in
    let s0 = sent_none (g.W.Write.contents c.args.writer.now) (legend_rect c.args.look.now c.args.x c.args.line c.args.text.now) in
    sent_exit _ _ (legend_text (c.args.x + 28) c.args.line c.args.text.now) p.1 s0 first c.in_err-put_rect.ensures

pub returns : goal.returns
returns g c =
    let first = ap (λ (n : ℕ). rect_text c.args.look.now (n * 100) 2200 (c.args.line - 10) 12 ++ legend_text (c.args.x + 28) c.args.line c.args.text.now) (sym c.from.ensures) in
    let s0 = sent_none (g.W.Write.contents c.args.writer.now) (legend_rect c.args.look.now c.args.x c.args.line c.args.text.now) in
    let s1 = sent_more _ _ (legend_text (c.args.x + 28) c.args.line c.args.text.now) s0 first c.in_ok-put_rect.ensures in
    sent_last c.put_legend_text.result _ s1 c.put_legend_text.ensures
