use Rattle.std.proofs.Common.{List, ℕ, Option, Some, ap, ap₂, ◌∙◌, subst, rules}
use Rattle.text.specs.Writes.{Writes}
use Rattle.drawing.specs.Followed.{BandsShown}
use Rattle.drawing.specs.PictureEnd.{end_text}
use Rattle.drawing.specs.Words.{AbstractPort, Course, asked_to, course_on, port_on, run_end}
use Rattle.drawing.proofs.CaptureLaws.{asked_is}
use Rattle.drawing.proofs.EndLaws.{map_bands}
use Rattle.drawing.proofs.capture_run.draw_end_of_both.Goals as goal

pub draw_ended-requires : goal.draw_ended-requires
draw_ended-requires g c = (search rules, (search rules, (search rules, c.asked_to-asked.ensures.within)))

pub returns : goal.returns
returns g c =
    let s = c.args.settings in
    let o = c.args.drawn.now.options in
    let p = c.args.drawn.now.port.port in
    let x = c.args.drawn.now.course in
    let d = c.args.drawn.now.bands in
    let upto = c.run_end.ensures.moment ∙ ap (λ (u : Option ℕ). run_end u) c.until-until.ensures.value in
    let port = c.run_on.ensures.port ∙ ap (λ (m : ℕ). port_on (Some m) p) upto in
    let course = c.run_on.ensures.course ∙ ap (λ (m : ℕ). course_on (Some m) p x) upto in
    let asked = c.asked_to-asked.ensures.value
    ∙ ap (λ (u : Option ℕ). asked_to u c.now-from.result c.now.result) c.until-until.ensures.value
    ∙ ap₂ (λ (m n : ℕ). asked_to s.until m n) c.now-from.ensures.now c.now.ensures.now
    ∙ asked_is s.until p c.run_on.new.port.port port in
    let W : List ℕ → Type 0 = λ t. Writes c.draw_ended.result (g.W.Write.contents c.args.writer.now) (g.W.Write.contents c.draw_ended.new.writer) t in
    map_bands (λ bands w. (
      subst (λ (m : ℕ). BandsShown o m (course_on (Some (run_end s.until)) p x) d bands) asked (subst (λ (y : Course). BandsShown o c.asked_to-asked.result y d bands) course w.0),
      subst W (ap (λ (m : ℕ). end_text s o m c.run_on.new.port.port c.run_on.new.course bands) asked ∙ ap₂ (λ (q : AbstractPort) (y : Course). end_text s o (port_on s.until p).now q y bands) port course) w.1,
    )) c.draw_ended.ensures
