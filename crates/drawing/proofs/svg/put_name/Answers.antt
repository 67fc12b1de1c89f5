use Rattle.std.proofs.Common.{◌/◌, ℕ, subst}
use Rattle.text.specs.Writes.{Writes}
use Rattle.drawing.specs.Picture.{speed_text}
use Rattle.drawing.proofs.svg.put_name.Goals as goal

pub returns : goal.returns
returns g c =
    let P : ℕ → Type 0 = λ n. Writes c.put_speed.result (g.W.Write.contents c.args.writer.now) (g.W.Write.contents c.put_speed.new.writer) (speed_text (8000000 / n) c.args.page.now.mtu c.args.end.now) in
    subst P c.ps_per_octet.ensures.value c.put_speed.ensures
