use Rattle.std.proofs.Common.{[], ◌∷◌, Ok, refl, sym, ap}
use Rattle.std.proofs.lemmas.Bool.{lt-ltb, le-ltb}
use Rattle.text.proofs.Fronts.{Appends-nil}
use Rattle.abstract_port.specs.declared.Answer.TheVariants as Answered
use Rattle.abstract_port.specs.declared.Event.TheVariants.{Count}
use Rattle.script.proofs.GivenLaws.{one_unseen}
use Rattle.script.proofs.answers.put_count.Goals as goal

pub returns-then-class : goal.returns-then-class
returns-then-class g c = λ o.
    let p = c.args.port.now in
    one_unseen (Ok tt) _ _ (Count c.args.class) p Answered.BadClass (rw (le-ltb c.args.class 8 c.if-class.true) refl) (λ s. refl) c.now-now.ensures.sound (Appends-nil (g.W.Write.contents c.args.writer.now)) o

pub returns : goal.returns
returns g c = λ o.
    let p = c.args.port.now in
    let answer = Answered.Counters c.args.class c.counters.result in
    one_unseen c.put_counters.result _ _ (Count c.args.class) p answer (rw (lt-ltb c.args.class 8 c.if-class.false) (ap (λ k. (Answered.Counters c.args.class k ∷ [], p.port)) (sym c.counters.ensures))) (λ s. refl) c.now-now.ensures.sound c.put_counters.ensures o
