use Rattle.std.proofs.Common.{ℕ, subst}
use Rattle.text.specs.Writes.{Writes}
use Rattle.drawing.specs.Picture.{size_text}
use Rattle.drawing.proofs.svg.put_size.Goals as goal

pub returns : goal.returns
returns g c =
    let P : ℕ → ℕ → Type 0 = λ w h. Writes c.put_parts.result (g.W.Write.contents c.args.writer.now) (g.W.Write.contents c.put_parts.new.writer) (size_text w h) in
    subst (λ w. P w c.args.height) c.from.ensures (subst (P c.from.result) c.from-2.ensures c.put_parts.ensures)
