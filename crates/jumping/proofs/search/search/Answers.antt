use Rattle.std.proofs.Common.{ℕ, ◌∷◌, Option, Some, sym, ap, subst}
use Rattle.jumping.specs.Words.{mask_in, DoFollow, from_of, lent_leg, until_of, stretch_of, stretch_in, stretches_in, NoneFits, Searched, up_to}
use Rattle.jumping.proofs.LegSearchLaws.{searched_then}
use Rattle.jumping.proofs.SearchLaws.{searched_none}
use Rattle.jumping.proofs.search.search.Goals as goal

pub returns-in-Some-next-clause-searched : goal.returns-in-Some-next-clause-searched
returns-in-Some-next-clause-searched c =
    let leg = c.args.leg.now in
    let last = lent_leg c.args.rest.now.last in
    let needs = c.args.needs.now in
    let before = c.args.before in
    let next = c.in-Some-next.next.now in
    let is = ap lent_leg c.in-Some-next.is in
    let follows = subst (DoFollow leg) is c.requires.ready.follows in
    let first = searched_none (mask_in (stretch_of leg ∷ stretches_in (lent_leg c.args.rest.now.next) last)) needs (from_of leg) (up_to (until_of leg) before) c.search_to.result c.in_default.not-Some c.search_to.ensures.searched in
    let none = subst (λ (t : Option ℕ). NoneFits (mask_in (stretch_of leg ∷ stretches_in (Some next) last)) needs (from_of leg) (up_to t before)) follows.0
    (subst (λ o. NoneFits (mask_in (stretch_of leg ∷ stretches_in o last)) needs (from_of leg) (up_to (until_of leg) before)) is first) in
    subst (λ o. Searched (mask_in (stretch_of leg ∷ stretches_in o last)) needs (from_of leg) before c.search_into.result) (sym is)
    (searched_then leg next (stretch_of next ∷ stretch_in last) needs before c.search_into.result follows.0 follows.1 none c.search_into.ensures.searched)
