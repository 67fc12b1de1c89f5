use Rattle.std.proofs.Common.{List, ℕ, sym, ap, ap₂, ◌∙◌, subst}
use Rattle.std.specs.Io.KnownBytes.{Appends}
use Rattle.text.specs.Writes.{Writes}
use Rattle.text.proofs.Fronts.{Appends-nil}
use Rattle.picture.specs.Drawn.{new_drawing}
use Rattle.std.specs.Prelude.{None}
use Rattle.drawing.specs.Options.{viewport_shown}
use Rattle.drawing.specs.Followed.{EndBands}
use Rattle.drawing.specs.PictureEnd.{shown_text}
use Rattle.drawing.proofs.EndLaws.{map_bands, with_some}
use Rattle.drawing.proofs.draw_run.draw_ended.Goals as goal

pub returns-in-Some : goal.returns-in-Some
returns-in-Some g c =
    let shown = sym c.in-Some.is ∙ c.viewport.ensures ∙ ap₂ (viewport_shown c.args.options) c.scope.ensures c.last_moment.ensures.value in
    let P : List ℕ → Type 0 = λ t. Writes c.draw_shown.result (g.W.Write.contents c.args.writer.now) (g.W.Write.contents c.draw_shown.new.writer) t in
    map_bands (λ bands w. (subst (λ v. EndBands c.args.options c.args.asked c.args.course.now c.args.bands.now v bands) shown w.0, subst P (ap (shown_text c.args.settings c.args.options c.args.port.now.port c.args.course.now bands) shown) w.1)) c.draw_shown.ensures

pub returns-in-None : goal.returns-in-None
returns-in-None g c =
    let shown = sym c.in-None.is ∙ c.viewport.ensures ∙ ap₂ (viewport_shown c.args.options) c.scope.ensures c.last_moment.ensures.value in
    let here = (g.W.Write.contents c.args.writer.now) in
    with_some (subst (λ v. EndBands c.args.options c.args.asked c.args.course.now c.args.bands.now v (new_drawing 0 None)) shown tt, subst (Appends here here) (ap (shown_text c.args.settings c.args.options c.args.port.now.port c.args.course.now (new_drawing 0 None)) shown) (Appends-nil here))
