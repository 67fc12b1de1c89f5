use Rattle.std.proofs.Common.{◌≡◌, ℕ, ◌+◌, ◌-◌, ◌*◌, min, None, Some, subst, arith}
use Rattle.jumping.specs.Words.{repeated, shows_alone, NoneFits, Searched}
use Rattle.jumping.proofs.ListedLaws.{placed_after}
use Rattle.jumping.proofs.AloneLaws.{searched_round}
use Rattle.jumping.proofs.RoundLaws.{list_found, list_none}
use Rattle.jumping.proofs.alone.search_alone.Goals as goal

pub returns-in-Some-clause-searched : goal.returns-in-Some-clause-searched
returns-in-Some-clause-searched c =
    let list = c.args.list.now in
    let needs = c.args.heads.now in
    let stands = c.requires.stands in
    let cycle = c.cycle_ns-cycle.ensures.value in
    let above = c.cycle_ns-cycle.ensures.above in
    let least = c.min-ahead.ensures in
    let wide = c.from.ensures in
    let ahead = c.if-before-from.false in
    let stop : c.args.from + c.min-ahead.result ≡ min c.args.before (c.args.from + 1000 * c.cycle_ns-cycle.result) = omega (arith, least, wide, ahead) in
    let start : ℕ = c.args.from + (c.in-Some.found - c.place_in-place.result.at) in
    rw c.from-in-Some.ensures
    (searched_round list.schedule list.change needs c.args.from (1000 * c.cycle_ns-cycle.result) c.args.before (Some start) (omega (arith, cycle)) (omega (arith, above))
    (placed_after list.schedule list.change None c.args.from list.position stands)
    (subst (λ s. Searched (shows_alone list) needs c.args.from s (Some start)) stop
    (list_found list.schedule list.change stands.cycles list.position.timer.started c.place_in-place.result.at c.args.from c.min-ahead.result needs stands.started_is c.place_in-place.ensures.at
    c.in-Some.found (subst (Searched (repeated list.schedule) needs c.place_in-place.result.at _) c.in-Some.is c.search_two.ensures.searched))))

pub returns-in-None-clause-searched : goal.returns-in-None-clause-searched
returns-in-None-clause-searched c =
    let list = c.args.list.now in
    let needs = c.args.heads.now in
    let stands = c.requires.stands in
    let cycle = c.cycle_ns-cycle.ensures.value in
    let above = c.cycle_ns-cycle.ensures.above in
    let least = c.min-ahead.ensures in
    let wide = c.from.ensures in
    let ahead = c.if-before-from.false in
    let stop : c.args.from + c.min-ahead.result ≡ min c.args.before (c.args.from + 1000 * c.cycle_ns-cycle.result) = omega (arith, least, wide, ahead) in
    searched_round list.schedule list.change needs c.args.from (1000 * c.cycle_ns-cycle.result) c.args.before None (omega (arith, cycle)) (omega (arith, above))
    (placed_after list.schedule list.change None c.args.from list.position stands)
    (subst (NoneFits (shows_alone list) needs c.args.from) stop
    (list_none list.schedule list.change stands.cycles list.position.timer.started c.place_in-place.result.at c.args.from c.min-ahead.result needs stands.started_is c.place_in-place.ensures.at
    (subst (Searched (repeated list.schedule) needs c.place_in-place.result.at _) c.in-None.is c.search_two.ensures.searched)))
