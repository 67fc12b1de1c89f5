use Rattle.std.proofs.Common.{◌+◌, ◌*◌, ℕ, inl, inr, arith, le_refl}
use Rattle.std.proofs.lemmas.Bool.{cases_lt}
use Rattle.gates.proofs.RowLaws.{prefix_next}
use Rattle.jumping.specs.Words.{repeated}
use Rattle.jumping.proofs.SearchLaws.{searched_join}
use Rattle.jumping.proofs.RoundLaws.{asked_here, place_mask, place_none, searched_late}
use Rattle.jumping.proofs.alone.search_cycle.Goals as goal

pub some_fits-requires-clause-asked : goal.some_fits-requires-clause-asked
some_fits-requires-clause-asked c =
    let plan = c.args.schedule.now in
    let place = c.args.from in
    let here = c.requires.place in
    let below = c.if-stop-from.false in
    let within = c.requires.within in
    asked_here plan c.args.heads.now place.at c.entry-entry.result.mask c.waits.result
    (place_mask plan place here c.entry-entry.result c.entry-entry.ensures.entry place.at (le_refl place.at) (omega (arith, below, within)) here.shown.before_next)
    c.waits.ensures.count c.waits.ensures.some c.waits.ensures.marks

pub returns-then-next-len-clause-searched : goal.returns-then-next-len-clause-searched
returns-then-next-len-clause-searched c =
    let last = c.if-next-len.true in
    let count = c.len.ensures.count in
    place_none c.args.schedule.now c.args.from c.requires.place c.entry-entry.result c.entry-entry.ensures.entry c.args.heads.now c.args.stop c.requires.within (λ next. absurd (omega (arith, last, count, next))) (c.some_fits.ensures.none c.if-some_fits.false)

pub search_entries-requires-clause-begins : goal.search_entries-requires-clause-begins
search_entries-requires-clause-begins c =
    let ends = prefix_next c.args.schedule.now.entries c.args.from.index c.entry-entry.result c.entry-entry.ensures.entry in
    let interval = c.from.ensures in
    let start = c.requires.place.start_is in
    omega (arith, ends, interval, start)

pub returns-clause-searched : goal.returns-clause-searched
returns-clause-searched c =
    let plan = c.args.schedule.now in
    let place = c.args.from in
    let here = c.requires.place in
    let needs = c.args.heads.now in
    let stop = c.args.stop in
    let within = c.requires.within in
    let entry = c.entry-entry.ensures.entry in
    let ends = prefix_next plan.entries place.index c.entry-entry.result entry in
    let interval = c.from.ensures in
    let start = here.start_is in
    let begun = here.shown.begun in
    let more = c.if-next-len.false in
    let count = c.len.ensures.count in
    let listed = here.shown.within in
    let before = here.shown.before_next (omega (arith, more, count, listed)) in
    let at : ℕ = place.start + 1000 * c.from.result in
    let fails = c.some_fits.ensures.none c.if-some_fits.false in
    elim (cases_lt stop at) [
      | inl past ↦ searched_late (repeated plan) needs place.at at stop c.search_entries.result past
          (place_none plan place here c.entry-entry.result entry needs stop within (λ next. omega (arith, past, ends, interval, start)) fails) c.search_entries.ensures.searched
      | inr upto ↦ searched_join (repeated plan) needs place.at at stop c.search_entries.result (omega (arith, before, ends, interval, start))
          (place_none plan place here c.entry-entry.result entry needs at (omega (arith, upto, within)) (λ next. omega (arith, ends, interval, start)) fails) c.search_entries.ensures.searched
    ]
