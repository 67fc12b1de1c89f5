use Rattle.std.proofs.Common.{arith, le_refl, refl}
use Rattle.gates.proofs.RowLaws.{prefix_next}
use Rattle.jumping.specs.Words.{repeated}
use Rattle.jumping.specs.declared.alone.Place.{Place}
use Rattle.jumping.proofs.SearchLaws.{fits_empty, fits_join}
use Rattle.jumping.proofs.RoundLaws.{asked_here, place_begins, place_mask, place_none}
use Rattle.jumping.proofs.alone.search_entries.Goals as goal

pub loop-at-init : goal.loop-at-init
loop-at-init c = (c.requires.listed, c.requires.begins, λ u upto before. fits_empty (repeated c.args.schedule.now) c.args.heads.now c.args.from u upto, le_refl _, le_refl _, le_refl _)

pub some_fits-requires-clause-place : goal.some_fits-requires-clause-place
some_fits-requires-clause-place c = place_begins c.args.schedule.now c.requires.schedule _ c.loop-at.invariant.0 c.loop-at.invariant.1 refl

pub some_fits-requires-clause-asked : goal.some_fits-requires-clause-asked
some_fits-requires-clause-asked c =
    let plan = c.args.schedule.now in
    let place : Place = record { index = c.loop-at.index; start = c.loop-at.at; at = c.loop-at.at } in
    let here = place_begins plan c.requires.schedule place c.loop-at.invariant.0 c.loop-at.invariant.1 refl in
    let below = c.loop-at-test.true in
    let within = c.requires.within in
    asked_here plan c.args.heads.now place.at c.entry-entry.result.mask c.waits-waits.result
    (place_mask plan place here c.entry-entry.result c.entry-entry.ensures.entry place.at (le_refl place.at) (omega (arith, below, within)) here.shown.before_next)
    c.waits-waits.ensures.count c.waits-waits.ensures.some c.waits-waits.ensures.marks

pub returns-then-some_fits-clause-searched : goal.returns-then-some_fits-clause-searched
returns-then-some_fits-clause-searched c =
    let below = c.loop-at-test.true in (
      c.loop-at.invariant.3,
      below,
      c.loop-at.invariant.2 c.loop-at.at (le_refl _) (omega (arith, below)),
      c.some_fits.ensures.some c.if-some_fits.true,
    )

pub returns-then-index-len-clause-searched : goal.returns-then-index-len-clause-searched
returns-then-index-len-clause-searched c =
    let plan = c.args.schedule.now in
    let needs = c.args.heads.now in
    let place : Place = record { index = c.loop-at.index; start = c.loop-at.at; at = c.loop-at.at } in
    let here = place_begins plan c.requires.schedule place c.loop-at.invariant.0 c.loop-at.invariant.1 refl in
    let below = c.loop-at-test.true in
    let within = c.requires.within in
    let last = c.if-index-len.true in
    let count = c.len.ensures.count in
    fits_join (repeated plan) needs c.args.from place.at c.args.stop (c.loop-at.invariant.2 place.at (le_refl _) (omega (arith, below)))
    (place_none plan place here c.entry-entry.result c.entry-entry.ensures.entry needs c.args.stop within (λ next. absurd (omega (arith, last, count, next))) (c.some_fits.ensures.none c.if-some_fits.false))

pub loop-at-preserved : goal.loop-at-preserved
loop-at-preserved c =
    let plan = c.args.schedule.now in
    let needs = c.args.heads.now in
    let place : Place = record { index = c.loop-at.index; start = c.loop-at.at; at = c.loop-at.at } in
    let listed = c.loop-at.invariant.0 in
    let begins = c.loop-at.invariant.1 in
    let here = place_begins plan c.requires.schedule place listed begins refl in
    let below = c.loop-at-test.true in
    let within = c.requires.within in
    let more = c.if-index-len.false in
    let count = c.len.ensures.count in
    let entry = c.entry-entry.ensures.entry in
    let interval = c.from.ensures in
    let ends = prefix_next plan.entries place.index c.entry-entry.result entry in
    let after = c.loop-at.invariant.3 in
    let counted = c.loop-at.invariant.4 in
    let so_far = c.loop-at.invariant.5 in
    let visit = c.entry-entry.ensures.visit in (
      omega (arith, more, count, listed),
      omega (arith, begins, ends, interval),
      λ u upto before. fits_join (repeated plan) needs c.args.from place.at u (c.loop-at.invariant.2 place.at (le_refl _) (omega (arith, below)))
          (place_none plan place here c.entry-entry.result entry needs u (omega (arith, before, within)) (λ next. omega (arith, upto, ends, begins, interval)) (c.some_fits.ensures.none c.if-some_fits.false)),
      omega (arith, after),
      omega (arith, counted, visit),
      omega (arith, so_far, visit),
    )

pub returns-clause-searched : goal.returns-clause-searched
returns-clause-searched c = let done = c.loop-at-test.false in c.loop-at.invariant.2 c.args.stop (omega (arith, done)) (le_refl _)
