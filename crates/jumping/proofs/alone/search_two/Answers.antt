use Rattle.std.proofs.Common.{◌*◌, subst, arith}
use Rattle.jumping.specs.Words.{repeated, NoneFits, Searched}
use Rattle.jumping.proofs.SearchLaws.{searched_none}
use Rattle.jumping.proofs.RoundLaws.{two_found, two_none}
use Rattle.jumping.proofs.alone.search_two.Goals as goal

pub returns-in-Some-search_entries-clause-searched : goal.returns-in-Some-search_entries-clause-searched
returns-in-Some-search_entries-clause-searched c =
    let plan = c.args.schedule.now in
    let needs = c.args.heads.now in
    let from = c.args.from.at in
    let inside = c.requires.inside in
    let cycle = c.cycle_ns-cycle.ensures.value in
    let least = c.min.ensures in
    let past = c.if-stop-cycle.false in
    let none = searched_none (repeated plan) needs from c.min.result c.search_cycle.result c.in_default.not-Some c.search_cycle.ensures.searched in
    two_found plan needs from (1000 * c.cycle_ns-cycle.result) c.args.stop (omega (arith, cycle)) (omega (arith, cycle, inside)) (omega (arith, past))
    (subst (NoneFits (repeated plan) needs from) (omega (arith, past, least)) none) c.in-Some-search_entries.place
    (subst (Searched (repeated plan) needs 0 _) c.in-Some-search_entries.is c.search_entries.ensures.searched)

pub returns-in-None-clause-searched : goal.returns-in-None-clause-searched
returns-in-None-clause-searched c =
    let plan = c.args.schedule.now in
    let needs = c.args.heads.now in
    let from = c.args.from.at in
    let inside = c.requires.inside in
    let cycle = c.cycle_ns-cycle.ensures.value in
    let least = c.min.ensures in
    let past = c.if-stop-cycle.false in
    let none = searched_none (repeated plan) needs from c.min.result c.search_cycle.result c.in_default.not-Some c.search_cycle.ensures.searched in
    two_none plan needs from (1000 * c.cycle_ns-cycle.result) c.args.stop (omega (arith, cycle)) (omega (arith, cycle, inside)) (omega (arith, past))
    (subst (NoneFits (repeated plan) needs from) (omega (arith, past, least)) none)
    (subst (Searched (repeated plan) needs 0 _) c.in-None.is c.search_entries.ensures.searched)
