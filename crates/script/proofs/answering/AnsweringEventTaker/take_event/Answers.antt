use Rattle.script.specs.Words.{Asks}
use Rattle.script.specs.declared.answering.Answering.{Answering}
use Rattle.script.proofs.AnsweringLaws.{answered}
use Rattle.script.proofs.answering.AnsweringEventTaker.take_event.Goals as goal

pub returns : goal.returns
returns g c =
    answered g.H.Watch.alerted (λ (s : Answering _). s.port) (λ (s : Answering _). s.summary) g.W.Write.contents c.settling.ensures (Asks c.args.event.now) c.put_answers.result c.halted.result
    c.args.self.now (record { port = c.put_answers.new.port; summary = c.put_answers.new.summary; moments = c.put_answers.new.moments }) _ _ _ _ c.halted.ensures c.put_answers.ensures.answered c.put_answers.ensures.alerts
