use Rattle.std.proofs.Common.{◌≤◌, map, sym, ap, ◌∙◌, subst}
use Rattle.gates.specs.History.{kept}
use Rattle.gates.specs.Current.{IsCurrent}
use Rattle.gates.specs.Current.{Clocked}
use Rattle.test_support.specs.Plain.{accepted_in}
use Rattle.test_support.proofs.PlainLaws.{current_later}
use Rattle.test_support.proofs.reference.plain.PlainGates.move_to.Goals as goal

pub invariant_of-self : goal.invariant_of-self
invariant_of-self c =
    let t = c.args.t in
    let later = subst (λ (v : Clocked). v.moment ≤ t) (sym c.self.view_is) c.requires.later in
    let told = c.kept-self-inside.ensures ∙ ap (λ h. kept (map accepted_in h.items) t) c.take.ensures.value in
    subst (λ h. IsCurrent h t) (sym told) (current_later (map accepted_in c.self.inside.history.items) c.self.inside.moment t c.self.invariant later c.requires.within)

pub returns-clause-sound : goal.returns-clause-sound
returns-clause-sound c = invariant_of-self c
