use Rattle.std.proofs.Common.{◌≤◌, List, ℕ, Option, sym, ap, ap₂, ◌∙◌, subst, rules}
use Rattle.text.specs.Writes.{Writes}
use Rattle.drawing.specs.Words.{AbstractPort, Course, course_on, greatest_moment, port_on}
use Rattle.drawing.specs.Followed.{BandsShown}
use Rattle.drawing.specs.PictureEnd.{end_text}
use Rattle.drawing.proofs.EndLaws.{map_bands}
use Rattle.drawing.proofs.draw_run.draw_end.Goals as goal

pub draw_ended-requires : goal.draw_ended-requires
draw_ended-requires g c = (search rules, (search rules, (search rules, subst (λ (m : ℕ). m ≤ greatest_moment) (sym c.now-asked.ensures.now) c.now-asked.ensures.sound.current.within)))

pub returns : goal.returns
returns g c =
    let s = c.args.drawn.now.settings in
    let o = c.args.drawn.now.options in
    let p = c.args.drawn.now.port.port in
    let x = c.args.drawn.now.course in
    let d = c.args.drawn.now.bands in
    let port = c.run_on.ensures.port ∙ ap (λ (u : Option ℕ). port_on u p) c.until.ensures.value in
    let course = c.run_on.ensures.course ∙ ap (λ (u : Option ℕ). course_on u p x) c.until.ensures.value in
    let asked = c.now-asked.ensures.now ∙ ap (λ (q : AbstractPort). q.now) port in
    let P : List ℕ → Type 0 = λ t. Writes c.draw_ended.result (g.W.Write.contents c.args.writer.now) (g.W.Write.contents c.draw_ended.new.writer) t in
    map_bands (λ bands w. (
      subst (λ (m : ℕ). BandsShown o m (course_on s.until p x) d bands) asked (subst (λ (y : Course). BandsShown o c.now-asked.result y d bands) course w.0),
      subst P (ap (λ (m : ℕ). end_text s o m c.run_on.new.port.port c.run_on.new.course bands) asked ∙ ap₂ (λ (q : AbstractPort) (y : Course). end_text s o (port_on s.until p).now q y bands) port course) w.1,
    )) c.draw_ended.ensures
