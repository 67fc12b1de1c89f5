use Rattle.std.proofs.Common.{ℕ, ap, ◌∙◌}
use Rattle.abstract_port.specs.AbstractPort.{new_port}
use Rattle.picture.specs.Drawn.{Drawing, new_drawing}
use Rattle.script.specs.Words.{PortState}
use Rattle.drawing.specs.PictureEnd.{first_course}
use Rattle.drawing.specs.Words.{AbstractPort, Course, Place}
use Rattle.drawing.specs.declared.view.View.{View}
use Rattle.drawing.proofs.drawn.new_drawn.Goals as goal

pub returns-clause-place : goal.returns-clause-place
returns-clause-place c =
    let s = c.args.settings in
    let o = c.args.options in
    let port = ap (λ (q : PortState). q.port) c.in-Ok.ensures.ok
    ∙ ap (λ (n : ℕ). new_port n c.mtu-mtu.result c.room.result) c.rate-rate.ensures
    ∙ ap (λ (n : ℕ). new_port s.rate n c.room.result) c.mtu-mtu.ensures.value
    ∙ ap (λ (n : ℕ). new_port s.rate s.mtu n) c.room.ensures.value in
    let bands = c.in_ok-bands.ensures ∙ ap (λ (v : View). new_drawing v.from v.to) c.view-view.ensures in
    let made : AbstractPort → Course → Drawing → Place = λ p x d. record { port = p; course = x; bands = d } in
    ap (λ (p : AbstractPort). made p c.in_ok-course.course c.in_ok-bands.bands) port
    ∙ ap (λ (x : Course). made (new_port s.rate s.mtu s.room) x c.in_ok-bands.bands) c.in_ok-course.ensures
    ∙ ap (λ (d : Drawing). made (new_port s.rate s.mtu s.room) (first_course s o) d) bands
