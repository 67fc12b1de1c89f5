use Rattle.std.proofs.Common.{◌<◌, map, sym, ap, ◌∙◌, subst}
use Rattle.gates.specs.History.{announced}
use Rattle.gates.specs.Current.{IsCurrent}
use Rattle.gates.specs.Current.{Clocked}
use Rattle.test_support.specs.Plain.{accepted_in}
use Rattle.test_support.proofs.PlainLaws.{current_more, more_map}
use Rattle.test_support.proofs.reference.plain.Plain.announce.Goals as goal

pub invariant_of-self : goal.invariant_of-self
invariant_of-self c =
    let m = c.self.inside.moment in
    let items = c.self.inside.history.items in
    let free = ap (λ (v : Clocked). announced v.history v.moment) c.self.view_is ∙ c.requires.free in
    let ahead = subst (λ (v : Clocked). v.moment < c.args.command.lead) (sym c.self.view_is) c.requires.ahead in
    subst (λ h. IsCurrent h m) (sym (ap (map accepted_in) c.push.ensures.items ∙ more_map items c.args.command))
    (current_more (map accepted_in items) m (accepted_in c.args.command) c.self.invariant free ahead c.requires.sound)

pub returns-clause-current : goal.returns-clause-current
returns-clause-current c = invariant_of-self c
