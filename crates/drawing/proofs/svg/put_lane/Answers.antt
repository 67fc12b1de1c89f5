use Rattle.std.proofs.Common.{◌++◌, ℕ, List, sym, ap, ◌∙◌}
use Rattle.std.proofs.lemmas.Result.{err_from_is_err_and}
use Rattle.text.proofs.Fronts.{sent_exit, sent_last, sent_more, sent_none}
use Rattle.picture.specs.declared.span.Shape.{Shape}
use Rattle.drawing.specs.Layout.{top_of}
use Rattle.drawing.specs.Marks.{bars_text, drops_text, waits_text}
use Rattle.drawing.specs.Picture.{lane_text}
use Rattle.drawing.specs.Shapes.{lane_at}
use Rattle.drawing.proofs.TextLaws.{sent_as}
use Rattle.drawing.proofs.svg.put_lane.Goals as goal

pub returns-in_err-put_waits : goal.returns-in_err-put_waits
returns-in_err-put_waits g c =
    let p = err_from_is_err_and c.from_residual.result c.from_residual.ensures.1 in
    let first = ap (λ (t : ℕ). waits_text c.args.page.now t (lane_at c.args.shapes.now.waits c.args.lane).shapes ++ (bars_text c.args.page.now (top_of c.args.lane) (lane_at c.args.shapes.now.frames c.args.lane).shapes ++ drops_text c.args.page.now (top_of c.args.lane) (lane_at c.args.shapes.now.drops c.args.lane).shapes)) (sym c.lane_top-top.ensures.lane)
    ∙ ap (λ (xs : List Shape). waits_text c.args.page.now c.lane_top-top.result xs ++ (bars_text c.args.page.now (top_of c.args.lane) (lane_at c.args.shapes.now.frames c.args.lane).shapes ++ drops_text c.args.page.now (top_of c.args.lane) (lane_at c.args.shapes.now.drops c.args.lane).shapes)) (sym c.waits.ensures) in
    sent_exit _ _ (bars_text c.args.page.now (top_of c.args.lane) (lane_at c.args.shapes.now.frames c.args.lane).shapes ++ drops_text c.args.page.now (top_of c.args.lane) (lane_at c.args.shapes.now.drops c.args.lane).shapes) p.1 (sent_none (g.W.Write.contents c.args.writer.now) (lane_text c.args.page.now c.args.shapes.now c.args.lane)) first c.in_err-put_waits.ensures

pub returns-in_err-put_bars : goal.returns-in_err-put_bars
returns-in_err-put_bars g c =
    let p = err_from_is_err_and c.from_residual-in_err-put_bars.result c.from_residual-in_err-put_bars.ensures.1 in
    let first = ap (λ (t : ℕ). waits_text c.args.page.now t (lane_at c.args.shapes.now.waits c.args.lane).shapes ++ (bars_text c.args.page.now (top_of c.args.lane) (lane_at c.args.shapes.now.frames c.args.lane).shapes ++ drops_text c.args.page.now (top_of c.args.lane) (lane_at c.args.shapes.now.drops c.args.lane).shapes)) (sym c.lane_top-top.ensures.lane)
    ∙ ap (λ (xs : List Shape). waits_text c.args.page.now c.lane_top-top.result xs ++ (bars_text c.args.page.now (top_of c.args.lane) (lane_at c.args.shapes.now.frames c.args.lane).shapes ++ drops_text c.args.page.now (top_of c.args.lane) (lane_at c.args.shapes.now.drops c.args.lane).shapes)) (sym c.waits.ensures) in
    let second = ap (λ (t : ℕ). bars_text c.args.page.now t (lane_at c.args.shapes.now.frames c.args.lane).shapes ++ drops_text c.args.page.now (top_of c.args.lane) (lane_at c.args.shapes.now.drops c.args.lane).shapes) (sym c.lane_top-top.ensures.lane)
    ∙ ap (λ (xs : List Shape). bars_text c.args.page.now c.lane_top-top.result xs ++ drops_text c.args.page.now (top_of c.args.lane) (lane_at c.args.shapes.now.drops c.args.lane).shapes) (sym c.frames.ensures) in
    let s1 = sent_more _ _ (bars_text c.args.page.now (top_of c.args.lane) (lane_at c.args.shapes.now.frames c.args.lane).shapes ++ drops_text c.args.page.now (top_of c.args.lane) (lane_at c.args.shapes.now.drops c.args.lane).shapes) (sent_none (g.W.Write.contents c.args.writer.now) (lane_text c.args.page.now c.args.shapes.now c.args.lane)) first c.in_ok-put_waits.ensures in
    sent_exit _ _ (drops_text c.args.page.now (top_of c.args.lane) (lane_at c.args.shapes.now.drops c.args.lane).shapes) p.1 s1 second c.in_err-put_bars.ensures

pub returns : goal.returns
returns g c =
    let first = ap (λ (t : ℕ). waits_text c.args.page.now t (lane_at c.args.shapes.now.waits c.args.lane).shapes ++ (bars_text c.args.page.now (top_of c.args.lane) (lane_at c.args.shapes.now.frames c.args.lane).shapes ++ drops_text c.args.page.now (top_of c.args.lane) (lane_at c.args.shapes.now.drops c.args.lane).shapes)) (sym c.lane_top-top.ensures.lane)
    ∙ ap (λ (xs : List Shape). waits_text c.args.page.now c.lane_top-top.result xs ++ (bars_text c.args.page.now (top_of c.args.lane) (lane_at c.args.shapes.now.frames c.args.lane).shapes ++ drops_text c.args.page.now (top_of c.args.lane) (lane_at c.args.shapes.now.drops c.args.lane).shapes)) (sym c.waits.ensures) in
    let second = ap (λ (t : ℕ). bars_text c.args.page.now t (lane_at c.args.shapes.now.frames c.args.lane).shapes ++ drops_text c.args.page.now (top_of c.args.lane) (lane_at c.args.shapes.now.drops c.args.lane).shapes) (sym c.lane_top-top.ensures.lane)
    ∙ ap (λ (xs : List Shape). bars_text c.args.page.now c.lane_top-top.result xs ++ drops_text c.args.page.now (top_of c.args.lane) (lane_at c.args.shapes.now.drops c.args.lane).shapes) (sym c.frames.ensures) in
    let third = ap (λ (t : ℕ). drops_text c.args.page.now t (lane_at c.args.shapes.now.drops c.args.lane).shapes) (sym c.lane_top-top.ensures.lane)
    ∙ ap (λ (xs : List Shape). drops_text c.args.page.now c.lane_top-top.result xs) (sym c.drops.ensures) in
    let s1 = sent_more _ _ (bars_text c.args.page.now (top_of c.args.lane) (lane_at c.args.shapes.now.frames c.args.lane).shapes ++ drops_text c.args.page.now (top_of c.args.lane) (lane_at c.args.shapes.now.drops c.args.lane).shapes) (sent_none (g.W.Write.contents c.args.writer.now) (lane_text c.args.page.now c.args.shapes.now c.args.lane)) first c.in_ok-put_waits.ensures in
    let s2 = sent_more _ _ (drops_text c.args.page.now (top_of c.args.lane) (lane_at c.args.shapes.now.drops c.args.lane).shapes) s1 second c.in_ok-put_bars.ensures in
    sent_last c.put_drops.result _ (sent_as _ third s2) c.put_drops.ensures
