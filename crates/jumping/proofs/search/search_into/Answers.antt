use Rattle.std.proofs.Common.{ℕ, ◌∷◌, [], Option, Some, None, sym, ap, subst}
use Rattle.jumping.specs.Words.{mask_in, DoFollow, from_of, lent_leg, until_of, stretch_of, stretch_in, stretches_in, NoneFits, Searched, up_to}
use Rattle.jumping.proofs.LegSearchLaws.{searched_then}
use Rattle.jumping.proofs.SearchLaws.{searched_none}
use Rattle.jumping.proofs.search.search_into.Goals as goal

pub returns-in-Some-last-clause-searched : goal.returns-in-Some-last-clause-searched
returns-in-Some-last-clause-searched c =
    let leg = c.args.leg.now in
    let needs = c.args.needs.now in
    let before = c.args.before in
    let last = c.in-Some-last.last.now in
    let is = ap lent_leg c.in-Some-last.is in
    let follows = subst (DoFollow leg) is c.requires.follows in
    let first = searched_none (mask_in (stretch_of leg ∷ stretches_in (lent_leg c.args.last) None)) needs (from_of leg) (up_to (until_of leg) before) c.search_to.result c.in_default.not-Some c.search_to.ensures.searched in
    let none = subst (λ (t : Option ℕ). NoneFits (mask_in (stretch_of leg ∷ stretches_in (Some last) None)) needs (from_of leg) (up_to t before)) follows.0
    (subst (λ o. NoneFits (mask_in (stretch_of leg ∷ stretches_in o None)) needs (from_of leg) (up_to (until_of leg) before)) is first) in
    subst (λ o. Searched (mask_in (stretch_of leg ∷ stretch_in o)) needs (from_of leg) before c.search_to-in-Some-last.result) (sym is)
    (searched_then leg last (stretch_of last ∷ []) needs before c.search_to-in-Some-last.result follows.0 follows.1 none
    (subst (λ (t : Option ℕ). Searched (mask_in (stretch_of last ∷ [])) needs (from_of last) (up_to t before) c.search_to-in-Some-last.result) (c.requires.ends last is) c.search_to-in-Some-last.ensures.searched))
