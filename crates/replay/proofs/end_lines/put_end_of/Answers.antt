use Rattle.std.proofs.Common.{◌≡◌, ℕ, Option, ap, ◌∙◌, subst}
use Rattle.script.specs.Responses.{end_lines}
use Rattle.replay.specs.Words.{AbstractPort, Writes, counted_to}
use Rattle.replay.proofs.end_lines.put_end_of.Goals as goal

-- the moment that is counted to
at : (until : Option ℕ) (p : AbstractPort) (last now moment : ℕ) → now ≡ p.now → moment ≡ counted_to until last now → moment ≡ counted_to until last p.now
at until p last now moment stands is = is ∙ ap (λ n. counted_to until last n) stands

pub counted_to-moment-requires : goal.counted_to-moment-requires
counted_to-moment-requires g c = rw c.now-now.ensures.now c.now-now.ensures.sound.current.within

pub returns : goal.returns
returns g c =
    let port = c.args.sending.now.port.port in
    let same = at c.args.until port c.args.sending.now.leaving.last c.now-now.result c.counted_to-moment.result c.now-now.ensures.now c.counted_to-moment.ensures.moment in
    let P : ℕ → Type 0 = λ m. Writes c.put_end.result (g.V.Write.contents c.args.report.now) (g.V.Write.contents c.put_end.new.writer) (end_lines (record port { now = m }) c.args.sending.now.summary) in
    subst P same c.put_end.ensures.text
