use Rattle.script.specs.Words.{tc_request, words_of}
use Rattle.script.specs.declared.answering.Answering.{Answering}
use Rattle.script.proofs.AnsweringLaws.{answered}
use Rattle.script.proofs.answering.AnsweringEventTaker.take_tc.Goals as goal

pub returns : goal.returns
returns g c = λ read is.
    answered g.H.Watch.alerted (λ (s : Answering _). s.port) (λ (s : Answering _). s.summary) g.W.Write.contents c.settling.ensures (tc_request (read (words_of c.args.line.now))) c.put_tc.result c.halted.result
    c.args.self.now (record c.args.self.now { port = c.put_tc.new.port; summary = c.put_tc.new.summary }) _ _ _ _ c.halted.ensures (c.put_tc.ensures.answered read is) (c.put_tc.ensures.alerts read is)
