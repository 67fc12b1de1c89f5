use Rattle.std.proofs.Common.{ℕ, subst}
use Rattle.text.specs.Writes.{Writes}
use Rattle.drawing.specs.Picture.{speed_text}
use Rattle.drawing.proofs.svg.put_speed.Goals as goal

pub returns : goal.returns
returns g c =
    let P : ℕ → Type 0 = λ n. Writes c.put_parts.result (g.W.Write.contents c.args.writer.now) (g.W.Write.contents c.put_parts.new.writer) (speed_text c.args.megabits n c.args.end.now) in
    subst P c.from.ensures c.put_parts.ensures
