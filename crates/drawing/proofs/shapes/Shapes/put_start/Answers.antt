use Rattle.std.proofs.Common.{refl, rules}
use Rattle.drawing.proofs.ShownLaws.{start_drawn, start_hidden}
use Rattle.drawing.proofs.shapes.Shapes.put_start.Goals as goal

pub returns-then-is_drawn : goal.returns-then-is_drawn
returns-then-is_drawn g c = start_drawn c.args.came c.args.start.now _ _ _ _ c.self.view_is c.if-is_drawn.ensures.value c.draw_frame.ensures c.draw_wait.ensures

pub returns-else-is_drawn : goal.returns-else-is_drawn
returns-else-is_drawn g c = start_hidden c.args.came c.args.start.now c.args.self.now c.if-is_drawn.ensures.value

pub draw_frame-requires : goal.draw_frame-requires
draw_frame-requires g c =
    let drawn = c.if-is_drawn.ensures.within refl in
    (search rules, (drawn.0, drawn.1))

pub draw_wait-requires : goal.draw_wait-requires
draw_wait-requires g c =
    let drawn = c.if-is_drawn.ensures.within refl in
    (search rules, (drawn.0, drawn.1))
