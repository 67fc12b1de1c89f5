use Rattle.std.proofs.Common.{refl}
use Rattle.script.specs.declared.answering.Answering.{Answering}
use Rattle.script.proofs.AnsweringLaws.{rested}
use Rattle.script.proofs.answering.AnsweringEventTaker.rests.Goals as goal

pub returns-clause-rests : goal.returns-clause-rests
returns-clause-rests g c = λ w h yes.
    rested g.H.Watch.alerted (λ (s : Answering _). s.port) (λ (s : Answering _). s.summary) g.W.Write.contents g.met.H.Watch.nothing c.settling.ensures c.args.event.now
    c.args.self.now (record c.args.self.now { port = c.rests.new.port }) w h (c.rests.ensures.rests yes) refl
