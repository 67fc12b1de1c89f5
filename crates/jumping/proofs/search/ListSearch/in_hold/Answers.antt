use Rattle.std.proofs.Common.{◌<◌, ◌≤◌, None, sym, ◌∙◌, subst}
use Rattle.jumping.specs.Words.{mask_in, mask_of, IsFlat, ListedLeg, Listed, lent_rest, stretch_of, stretches_ahead, Searched}
use Rattle.std.specs.Option.{ForSome}
use Rattle.jumping.proofs.PositionLaws.{flat_held, placed_hold}
use Rattle.jumping.proofs.search.ListSearch.in_hold.Goals as goal

pub returns : goal.returns
returns c =
    let leg = c.args.leg.now in
    let rest = lent_rest c.args.self.now.rest.now in
    let stands = (c.requires.search.ready.first).stands in
    let held = sym (placed_hold leg.schedule.now stands.0 leg.start leg.held_from leg.from leg.position.now stands.1) ∙ c.requires.held in
    let flat = flat_held leg.schedule.now stands.0 leg.start leg.held_from leg.from leg.position.now stands.1 held in
    subst (λ (g : ListedLeg). Searched (mask_in (stretches_ahead (Listed g) rest)) c.args.self.now.needs.now g.from c.args.self.now.stop c.search_flat.result) c.at.ensures
    (c.search_flat.ensures c.args.self.now.stop (subst (λ (g : ListedLeg). g.from < c.args.self.now.stop) (sym c.at.ensures) c.requires.search.some)
    (subst (λ (g : ListedLeg). ForSome g.until (λ u. c.args.self.now.stop ≤ u)) (sym c.at.ensures) c.requires.search.unended)
    (subst (λ (g : ListedLeg). IsFlat (mask_of (stretch_of (Listed g))) g.from None) (sym c.at.ensures) flat))
