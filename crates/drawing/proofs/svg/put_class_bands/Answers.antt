use Rattle.std.proofs.Common.{◌≡◌, ◌++◌, ℕ, List, true, false, sym, refl, ap₂}
use Rattle.std.proofs.lemmas.Result.{err_from_is_err_and}
use Rattle.text.proofs.Fronts.{sent_exit, sent_last, sent_more, sent_none}
use Rattle.picture.specs.Drawn.{class_at}
use Rattle.picture.specs.declared.span.Shape.{Shape}
use Rattle.drawing.specs.Layout.{top_of}
use Rattle.drawing.specs.Marks.{greys_text, lights_text, no_grey}
use Rattle.drawing.specs.Picture.{class_bands}
use Rattle.drawing.proofs.TextLaws.{sent_as}
use Rattle.drawing.proofs.svg.put_class_bands.Goals as goal

pub returns-in_err-put_lights : goal.returns-in_err-put_lights
returns-in_err-put_lights g c =
    let page = c.args.page.now in
    let p = err_from_is_err_and c.from_residual.result c.from_residual.ensures.1 in
    let mixed = greys_text page (top_of c.args.class) true (class_at c.args.bands.now.mixed c.args.class).lane.shapes no_grey in
    let first : class_bands page c.args.bands.now c.args.class ≡ lights_text page c.lane_top-top.result c.lane-shapes.result.now ++ (greys_text page c.lane_top-top.result false c.lane-shapes.result.now no_grey ++ mixed) =
    ap₂ (λ (t : ℕ) (xs : List Shape). lights_text page t xs ++ (greys_text page t false xs no_grey ++ mixed)) (sym c.lane_top-top.ensures.lane) (sym c.lane-shapes.ensures.value) in
    let s0 = sent_none (g.W.Write.contents c.args.writer.now) (class_bands page c.args.bands.now c.args.class) in
    sent_exit _ _ _ p.1 s0 first c.in_err-put_lights.ensures

pub returns-in_err-put_greys : goal.returns-in_err-put_greys
returns-in_err-put_greys g c =
    let page = c.args.page.now in
    let p = err_from_is_err_and c.from_residual-in_err-put_greys.result c.from_residual-in_err-put_greys.ensures.1 in
    let mixed = greys_text page (top_of c.args.class) true (class_at c.args.bands.now.mixed c.args.class).lane.shapes no_grey in
    let first : class_bands page c.args.bands.now c.args.class ≡ lights_text page c.lane_top-top.result c.lane-shapes.result.now ++ (greys_text page c.lane_top-top.result false c.lane-shapes.result.now no_grey ++ mixed) =
    ap₂ (λ (t : ℕ) (xs : List Shape). lights_text page t xs ++ (greys_text page t false xs no_grey ++ mixed)) (sym c.lane_top-top.ensures.lane) (sym c.lane-shapes.ensures.value) in
    let s0 = sent_none (g.W.Write.contents c.args.writer.now) (class_bands page c.args.bands.now c.args.class) in
    let s1 = sent_more _ _ _ s0 first c.in_ok-put_lights.ensures in
    sent_exit _ _ _ p.1 s1 refl c.in_err-put_greys.ensures

pub returns : goal.returns
returns g c =
    let page = c.args.page.now in
    let mixed = greys_text page (top_of c.args.class) true (class_at c.args.bands.now.mixed c.args.class).lane.shapes no_grey in
    let first : class_bands page c.args.bands.now c.args.class ≡ lights_text page c.lane_top-top.result c.lane-shapes.result.now ++ (greys_text page c.lane_top-top.result false c.lane-shapes.result.now no_grey ++ mixed) =
    ap₂ (λ (t : ℕ) (xs : List Shape). lights_text page t xs ++ (greys_text page t false xs no_grey ++ mixed)) (sym c.lane_top-top.ensures.lane) (sym c.lane-shapes.ensures.value) in
    let last : mixed ≡ greys_text page c.lane_top-top.result true c.mixed.result.now no_grey =
    ap₂ (λ (t : ℕ) (xs : List Shape). greys_text page t true xs no_grey) (sym c.lane_top-top.ensures.lane) (sym c.mixed.ensures.value) in
    let s0 = sent_none (g.W.Write.contents c.args.writer.now) (class_bands page c.args.bands.now c.args.class) in
    let s1 = sent_more _ _ _ s0 first c.in_ok-put_lights.ensures in
    let s2 = sent_more _ _ mixed s1 refl c.in_ok-put_greys.ensures in
    sent_last c.put_greys-2.result _ (sent_as _ last s2) c.put_greys-2.ensures
