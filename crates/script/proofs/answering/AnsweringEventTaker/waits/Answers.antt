use Rattle.script.specs.declared.answering.Answering.{Answering}
use Rattle.script.proofs.AnsweringLaws.{let_out}
use Rattle.script.proofs.answering.AnsweringEventTaker.waits.Goals as goal

pub returns : goal.returns
returns g c = λ h. let_out g.H.Watch.alerted (λ (s : Answering _). s.port) (λ (s : Answering _). s.summary) g.W.Write.contents c.args.self.now _ _ h c.let_out.result g.met.H.Watch.nothing c.let_out.ensures
