use Rattle.std.proofs.Common.{[], ◌∷◌, refl, sym, ap, subst}
use Rattle.script.specs.Words.{IsAnswered, Asks, PortState}
use Rattle.abstract_port.specs.declared.Answer.TheVariants as Answered
use Rattle.abstract_port.specs.declared.Event.TheVariants.{Query}
use Rattle.script.proofs.GivenLaws.{one_unseen}
use Rattle.script.proofs.answers.put_query.Goals as goal

pub returns : goal.returns
returns g c = λ o.
    let p = c.args.port.now in
    let r = c.put_report.result in
    let P : PortState → Type 0 = λ q. IsAnswered (Asks Query) r (g.W.Write.contents c.args.writer.now) (g.W.Write.contents c.put_report.new.writer) p q o o in
    subst P (sym c.report.ensures.same) (one_unseen r _ _ Query p (Answered.Report c.report.result) (ap (λ x. (Answered.Report x ∷ [], p.port)) (sym c.report.ensures.report)) (λ s. refl) c.now-now.ensures.sound c.put_report.ensures o)
