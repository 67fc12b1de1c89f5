use Rattle.std.proofs.Common.{refl, ◌≡◌, ℕ, ◌+◌, min, subst, arith}
use Rattle.jumping.specs.Words.{in_ps, mask_in, Listed, ListedLeg, lent_rest, stretches_ahead, NoneFits, Searched}
use Rattle.jumping.proofs.ListedLaws.{leg_repeats, search_at}
use Rattle.jumping.proofs.SearchLaws.{none_jump, searched_join, searched_none}
use Rattle.jumping.proofs.search.ListSearch.in_cycles.Goals as goal

pub in_two-requires-clause-search : goal.in_two-requires-clause-search
in_two-requires-clause-search c =
    let later = c.cycle_at-position.ensures in
    let end = c.next_start-cycle_end.ensures.value in
    let past = c.if-self-cycle_end.false in
    let target = c.max.ensures in
    let reached = later.reached in
    let started = c.started.ensures.before in
    let begun = c.started-2.ensures.value in
    search_at c.args.self.now c.args.leg.now c.at-near.result c.started-2.result _ c.requires.search c.at-near.ensures (later.ready c.started-2.result _ (lent_rest c.args.self.now.rest.now) begun refl c.requires.search.ready) (omega (arith, end, started, past, target, reached, begun))

pub returns-clause-searched : goal.returns-clause-searched
returns-clause-searched c =
    let leg = c.args.leg.now in
    let rest = lent_rest c.args.self.now.rest.now in
    let needs = c.args.self.now.needs.now in
    let stop = c.args.self.now.stop in
    let f : ℕ → ℕ = mask_in (stretches_ahead (Listed leg) rest) in
    let cycle : ℕ = in_ps leg.schedule.now.cycle in
    let begun = c.started-2.ensures.value in
    let next_is = ((c.requires.search.ready.first).stands).1.next_is in
    let above = (((c.requires.search.ready.first).stands).0.plan_is).cycle in
    let begins = c.requires.begins in
    let end_is = c.next_start-cycle_end.ensures.value in
    let started_is = c.started.ensures.value in
    let past = c.if-self-cycle_end.false in
    let target = c.max.ensures in
    let reached = c.cycle_at-position.ensures.reached in
    let onto = c.cycle_at-position.ensures.onto (omega (arith, end_is, target)) in
    let whole : leg.position.now.timer.next_start ≡ leg.from + cycle = omega (arith, next_is, begins) in
    let first : NoneFits f needs leg.from (min stop leg.position.now.timer.next_start) = searched_none f needs leg.from (min stop leg.position.now.timer.next_start) c.in_cycle.result c.in_default.not-Some c.in_cycle.ensures.searched in
    let in_first : NoneFits f needs leg.from (leg.from + cycle) = subst (NoneFits f needs leg.from) (omega (arith, whole, past, end_is)) first in
    let between = none_jump f needs cycle leg.from stop c.started-2.result (omega (arith, above)) (leg_repeats leg rest c.requires.search.ready stop c.requires.unheld c.requires.search.unended) in_first
    (omega (arith, reached, begun, target, end_is, started_is, whole, begins)) in
    searched_join f needs leg.from c.started-2.result stop c.in_two.result (omega (arith, onto, begun, whole)) between
    (subst (λ (g : ListedLeg). Searched (mask_in (stretches_ahead (Listed g) rest)) needs g.from stop c.in_two.result) c.at-near.ensures c.in_two.ensures.searched)
