use Rattle.std.proofs.Common.{◌≡◌, ◌-◌, List, ℕ, [], codes, sym, ap, ap₂, ◌∙◌, subst, if◌then◌else◌}
use Rattle.text.specs.Writes.{Writes}
use Rattle.drawing.specs.Marks.{light_at, light_of, light_text, rect_text}
use Rattle.drawing.specs.declared.page.TheConstants.{LANE_HEIGHT}
use Rattle.drawing.proofs.marks.put_light.Goals as goal

pub returns-then-is_light : goal.returns-then-is_light
returns-then-is_light g c =
    let left = c.x-left.result in
    let right = c.x-right.result in
    let shown : light_text c.args.page.now c.args.top c.args.shape.now ≡ rect_text (codes "o") left (right - left) c.args.top LANE_HEIGHT =
    ap (light_of c.args.page.now c.args.top c.args.shape.now.id) (sym c.cut.ensures.cut ∙ c.in-Some.is)
    ∙ ap₂ (light_at c.args.top c.args.shape.now.id) (sym c.x-left.ensures.place) (sym c.x-right.ensures.place)
    ∙ ap (λ b. if b then rect_text (codes "o") left (right - left) c.args.top LANE_HEIGHT else []) (sym c.is_light.ensures ∙ c.if-is_light.true) in
    let P : List ℕ → Type 0 = λ t. Writes c.put_rect.result (g.W.Write.contents c.args.writer.now) (g.W.Write.contents c.put_rect.new.writer) t in
    subst P (sym shown) c.put_rect.ensures
