use Rattle.std.proofs.Common.{Ok, Option, ℕ, sym, subst}
use Rattle.script.specs.AnsweredAll.{GoesOn}
use Rattle.script.proofs.AnsweringLaws.{gone_nowhere, gone_on}
use Rattle.script.proofs.answering.Answering.go_on.Goals as goal

pub returns-in-None : goal.returns-in-None
returns-in-None g c =
    let s = c.args.self.now in
    let a = g.W.Write.contents c.args.out.now in
    subst (λ (u : Option ℕ). GoesOn {T = Unit {0}} u (Ok tt) s.port.port s.port.port s.summary s.summary a a) (sym c.in-None.is) (gone_nowhere s.port.port s.summary a c.now-now.ensures.sound)

pub returns-in-Some : goal.returns-in-Some
returns-in-Some g c =
    let s = c.args.self.now in
    subst (λ (u : Option ℕ). GoesOn u c.halted.result s.port.port c.put_clock.new.port.port s.summary c.put_clock.new.summary (g.W.Write.contents c.args.out.now) (g.W.Write.contents c.put_clock.new.writer)) (sym c.in-Some.is)
    (gone_on c.in-Some.moment c.put_clock.result c.halted.result s.port c.put_clock.new.port _ _ _ _ c.halted.ensures c.put_clock.ensures)
