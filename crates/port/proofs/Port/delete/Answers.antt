use Rattle.std.proofs.Common.{Err, refl, sym, ap, ◌∙◌, subst}
use Rattle.port.specs.Words.{IsKept}
use Rattle.port.proofs.RefusalLaws.{delete_taken, delete_busy}
use Rattle.port.proofs.SoundLaws.{sound_by}
use Rattle.port.proofs.Port.delete.Goals as goal

pub returns-clause-answer : goal.returns-clause-answer
returns-clause-answer g c = (delete_taken _ c.args.self.now.port c.args.e (ap (λ q. q.port) c.self.view_is) c.requires.lead _ c.in-Ok.change _ (sym c.in-Ok.is ∙ c.delete.ensures.answer) c.delete.ensures.history c.delete.ensures.moment).0

pub returns-clause-port : goal.returns-clause-port
returns-clause-port g c = (delete_taken _ c.args.self.now.port c.args.e (ap (λ q. q.port) c.self.view_is) c.requires.lead _ c.in-Ok.change _ (sym c.in-Ok.is ∙ c.delete.ensures.answer) c.delete.ensures.history c.delete.ensures.moment).1

pub returns-clause-sound : goal.returns-clause-sound
returns-clause-sound g c =
    sound_by _ _ c.delete.ensures.current
    (subst (λ m. IsKept c.self.inside.rate c.self.inside.mtu c.self.inside.room m c.self.inside.free c.self.inside.queues) (sym c.delete.ensures.moment) c.self.invariant.1) c.self.invariant.2 refl

pub returns-in-Err-clause-answer : goal.returns-in-Err-clause-answer
returns-in-Err-clause-answer g c = ap Err c.busy_of.ensures ∙ (delete_busy _ c.args.self.now.port c.args.e (ap (λ q. q.port) c.self.view_is) c.requires.lead _ c.in-Err.not_now _ (sym c.in-Err.is ∙ c.delete.ensures.answer) c.delete.ensures.history c.delete.ensures.moment).0

pub returns-in-Err-clause-port : goal.returns-in-Err-clause-port
returns-in-Err-clause-port g c = (delete_busy _ c.args.self.now.port c.args.e (ap (λ q. q.port) c.self.view_is) c.requires.lead _ c.in-Err.not_now _ (sym c.in-Err.is ∙ c.delete.ensures.answer) c.delete.ensures.history c.delete.ensures.moment).1

pub returns-in-Err-clause-sound : goal.returns-in-Err-clause-sound
returns-in-Err-clause-sound g c =
    sound_by _ _ c.delete.ensures.current
    (subst (λ m. IsKept c.self.inside.rate c.self.inside.mtu c.self.inside.room m c.self.inside.free c.self.inside.queues) (sym c.delete.ensures.moment) c.self.invariant.1) c.self.invariant.2 refl

pub returns-clause-hindsight : goal.returns-clause-hindsight
returns-clause-hindsight g c = rw (← c.self.view_is) c.delete.ensures.hindsight

pub returns-in-Err-clause-hindsight : goal.returns-in-Err-clause-hindsight
returns-in-Err-clause-hindsight g c = rw (← c.self.view_is) c.delete.ensures.hindsight

pub returns-clause-visits : goal.returns-clause-visits
returns-clause-visits g c = ap (λ q. q.visits) c.self.view_is

pub returns-in-Err-clause-visits : goal.returns-in-Err-clause-visits
returns-in-Err-clause-visits g c = ap (λ q. q.visits) c.self.view_is
