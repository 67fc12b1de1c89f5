use Rattle.std.proofs.Common.{Err, refl, sym, ap, ◌∙◌, subst, rules}
use Rattle.port.specs.Words.{Schedule, IsKept}
use Rattle.abstract_port.specs.AbstractPort.{classes_after}
use Rattle.port.proofs.RefusalLaws.{own_early, own_none, own_some, own_refused, replace_taken, replace_busy}
use Rattle.port.proofs.SoundLaws.{sound_by}
use Rattle.port.proofs.Port.replace.Goals as goal

pub returns-in-Some-clause-answer : goal.returns-in-Some-clause-answer
returns-in-Some-clause-answer g c =
    let own = own_early c.args.self.now.port c.args.change.now c.in-Some.refused (sym c.early_refusal.ensures ∙ c.in-Some.is) in
    sym (ap (λ r. r.0) (own_refused c.args.self.now.port c.args.change.now c.in-Some.refused own))

pub returns-in-Some-clause-port : goal.returns-in-Some-clause-port
returns-in-Some-clause-port g c =
    let own = own_early c.args.self.now.port c.args.change.now c.in-Some.refused (sym c.early_refusal.ensures ∙ c.in-Some.is) in
    sym (ap (λ r. r.1) (own_refused c.args.self.now.port c.args.change.now c.in-Some.refused own))

pub returns-in-Err-clause-answer : goal.returns-in-Err-clause-answer
returns-in-Err-clause-answer g c =
    let own = own_some _ c.args.self.now.port (ap (λ q. q.port) c.self.view_is) c.args.change.now (sym c.early_refusal.ensures ∙ c.in_default.is) _ c.in-Err.fault (sym c.in-Err.is ∙ c.set.ensures.answer) in
    sym (ap (λ r. r.0) (own_refused c.args.self.now.port c.args.change.now (Schedule c.in-Err.fault) own))

pub returns-in-Err-clause-port : goal.returns-in-Err-clause-port
returns-in-Err-clause-port g c =
    let own = own_some _ c.args.self.now.port (ap (λ q. q.port) c.self.view_is) c.args.change.now (sym c.early_refusal.ensures ∙ c.in_default.is) _ c.in-Err.fault (sym c.in-Err.is ∙ c.set.ensures.answer) in
    ap (λ q. q.port) c.self.view_is ∙ sym (ap (λ r. r.1) (own_refused c.args.self.now.port c.args.change.now (Schedule c.in-Err.fault) own))

pub returns-in-Ok-install-clause-answer : goal.returns-in-Ok-install-clause-answer
returns-in-Ok-install-clause-answer g c =
    (replace_taken _ c.args.self.now.port c.args.change.now c.args.e c.set.new.self (ap (λ q. q.port) c.self.view_is) c.requires.lead c.in-Ok.ensures.plan
    _ c.in-Ok-install.moment _ _ _ (own_none _ _ (ap (λ q. q.port) c.self.view_is) c.args.change.now (sym c.early_refusal.ensures ∙ c.in_default.is) _ _ (sym c.in-Ok.is ∙ c.set.ensures.answer)) (sym c.in-Ok-install.is ∙ c.install.ensures.answer) c.install.ensures.history c.install.ensures.moment
    (c.classes_with-classes.ensures ∙ ap (λ q. classes_after q.port c.args.change.now) c.self.view_is) c.unwrap_or-self-inside.ensures).0

pub returns-in-Ok-install-clause-port : goal.returns-in-Ok-install-clause-port
returns-in-Ok-install-clause-port g c =
    (replace_taken _ c.args.self.now.port c.args.change.now c.args.e c.set.new.self (ap (λ q. q.port) c.self.view_is) c.requires.lead c.in-Ok.ensures.plan
    _ c.in-Ok-install.moment _ _ _ (own_none _ _ (ap (λ q. q.port) c.self.view_is) c.args.change.now (sym c.early_refusal.ensures ∙ c.in_default.is) _ _ (sym c.in-Ok.is ∙ c.set.ensures.answer)) (sym c.in-Ok-install.is ∙ c.install.ensures.answer) c.install.ensures.history c.install.ensures.moment
    (c.classes_with-classes.ensures ∙ ap (λ q. classes_after q.port c.args.change.now) c.self.view_is) c.unwrap_or-self-inside.ensures).1

pub returns-in-Ok-install-clause-sound : goal.returns-in-Ok-install-clause-sound
returns-in-Ok-install-clause-sound g c =
    sound_by _ _ c.install.ensures.current
    (subst (λ m. IsKept c.self.inside.rate c.self.inside.mtu c.self.inside.room m c.self.inside.free c.self.inside.queues) (sym c.install.ensures.moment) c.self.invariant.1) c.self.invariant.2 refl

pub returns-in-Err-install-clause-answer : goal.returns-in-Err-install-clause-answer
returns-in-Err-install-clause-answer g c =
    ap Err c.busy_of.ensures ∙ (replace_busy _ c.args.self.now.port c.args.change.now c.args.e c.set.new.self (ap (λ q. q.port) c.self.view_is) c.requires.lead c.in-Ok.ensures.plan
    _ c.in-Err-install.not_now _ (own_none _ _ (ap (λ q. q.port) c.self.view_is) c.args.change.now (sym c.early_refusal.ensures ∙ c.in_default.is) _ _ (sym c.in-Ok.is ∙ c.set.ensures.answer)) (sym c.in-Err-install.is ∙ c.install.ensures.answer) c.install.ensures.history c.install.ensures.moment).0

pub returns-in-Err-install-clause-port : goal.returns-in-Err-install-clause-port
returns-in-Err-install-clause-port g c =
    (replace_busy _ c.args.self.now.port c.args.change.now c.args.e c.set.new.self (ap (λ q. q.port) c.self.view_is) c.requires.lead c.in-Ok.ensures.plan
    _ c.in-Err-install.not_now _ (own_none _ _ (ap (λ q. q.port) c.self.view_is) c.args.change.now (sym c.early_refusal.ensures ∙ c.in_default.is) _ _ (sym c.in-Ok.is ∙ c.set.ensures.answer)) (sym c.in-Err-install.is ∙ c.install.ensures.answer) c.install.ensures.history c.install.ensures.moment).1

pub returns-in-Err-install-clause-sound : goal.returns-in-Err-install-clause-sound
returns-in-Err-install-clause-sound g c =
    sound_by _ _ c.install.ensures.current
    (subst (λ m. IsKept c.self.inside.rate c.self.inside.mtu c.self.inside.room m c.self.inside.free c.self.inside.queues) (sym c.install.ensures.moment) c.self.invariant.1) c.self.invariant.2 refl

pub install-requires : goal.install-requires
install-requires g c = search rules

pub busy_of-requires : goal.busy_of-requires
busy_of-requires g c = search

pub classes_with-classes-requires : goal.classes_with-classes-requires
classes_with-classes-requires g c = search
