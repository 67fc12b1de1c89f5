use Rattle.std.proofs.Common.{ℕ, ◌<◌, ◌≤◌, min, refl, sym, ap, ◌∙◌, subst, arith}
use denote.Bor.{Bor}
use Rattle.jumping.specs.Words.{Cycle, mask_in, end_of, Position, IsPlaced, boundary_in, Listed, lent_rest, stretches_ahead}
use Rattle.jumping.proofs.SearchLaws.{fits_join}
use Rattle.jumping.proofs.ListedLaws.{ahead_here, end_there, entry_listed, none_here, off_here}
use Rattle.jumping.proofs.search.ListSearch.in_cycle.Goals as goal

pub returns-then-limit-end-clause-searched : goal.returns-then-limit-end-clause-searched
returns-then-limit-end-clause-searched c =
    let leg = c.args.leg.now in
    let rest = lent_rest c.args.self.now.rest.now in
    let from = c.loop-position.from in
    let inv = c.loop-position.invariant in
    let some = inv.0 in
    let next_start = c.next_start.ensures.value in
    let limit = c.min-limit.ensures in
    let ends = c.boundary-end.ensures in
    let past = c.if-limit-end.true in
    fits_join (mask_in (stretches_ahead (Listed leg) rest)) c.args.self.now.needs.now leg.from from (min c.args.self.now.stop leg.position.now.timer.next_start) inv.4
    (none_here leg rest c.requires.search.ready c.args.self.now.stop c.requires.search.within c.requires.unheld c.requires.search.unended from (record leg.position { now = c.loop-position.position }) inv.2 (omega (arith, some, limit)) c.args.self.now.needs.now (record leg { from = from; position = record leg.position { now = c.loop-position.position } }) refl (min c.args.self.now.stop leg.position.now.timer.next_start)
    (omega (arith, next_start, limit, ends, past)) (omega arith) (c.fits_at.ensures.none c.loop-position-test.true))

pub loop-position-preserved : goal.loop-position-preserved
loop-position-preserved c =
    let leg = c.args.leg.now in
    let rest = lent_rest c.args.self.now.rest.now in
    let plan = leg.schedule.now in
    let from = c.loop-position.from in
    let position = c.loop-position.position in
    let here : Bor Position = record leg.position { now = position } in
    let inv = c.loop-position.invariant in
    let some = inv.0 in
    let early = inv.1 in
    let next_start = c.next_start.ensures.value in
    let limit = c.min-limit.ensures in
    let ends = c.boundary-end.ensures in
    let before = c.if-limit-end.false in
    let end : ℕ = boundary_in position.timer.next_start (end_of position.walk) in
    let soon : from < c.args.self.now.stop = omega (arith, some, limit) in
    let off = off_here leg rest c.requires.search.ready c.args.self.now.stop c.requires.search.within c.requires.unheld c.requires.search.unended from here inv.2 soon in
    let ahead = ahead_here leg rest c.requires.search.ready c.args.self.now.stop c.requires.search.within c.requires.unheld c.requires.search.unended from here inv.2 soon in
    let same_next = ap (λ (t : Cycle). t.next_start) inv.3 in
    let inside : end < position.timer.next_start = omega (arith, before, limit, next_start, ends, same_next) in
    let at_end = c.next_entry.ensures.placed leg.start from end leg.held_from inv.2 off (end_there position.timer.next_start (end_of position.walk) inside) (omega (arith, ahead)) inside in
    let placed = subst (λ m. IsPlaced plan leg.start leg.held_from m c.next_entry.new.self) (sym ends) at_end in
    let off_next = off_here leg rest c.requires.search.ready c.args.self.now.stop c.requires.search.within c.requires.unheld c.requires.search.unended c.boundary-end.result (record leg.position { now = c.next_entry.new.self }) placed (omega (arith, before, limit)) in
    let listed = entry_listed plan leg.start leg.held_from c.boundary-end.result c.next_entry.new.self placed off_next in
    let index = c.next_entry.ensures.index in
    let counted = c.next_entry.ensures.counted in
    let visit = c.next_entry.ensures.visit in
    let old = inv.5 in
    let so_far = inv.6 in (
      omega (arith, before),
      omega (arith, early, ahead, ends),
      placed,
      c.next_entry.ensures.timer ∙ inv.3,
      fits_join (mask_in (stretches_ahead (Listed leg) rest)) c.args.self.now.needs.now leg.from from c.boundary-end.result inv.4
          (none_here leg rest c.requires.search.ready c.args.self.now.stop c.requires.search.within c.requires.unheld c.requires.search.unended from here inv.2 soon c.args.self.now.needs.now (record leg { from = from; position = here }) refl c.boundary-end.result
          (omega (arith, ends)) (omega (arith, before, limit)) (c.fits_at.ensures.none c.loop-position-test.true)),
      omega (arith, old, counted),
      omega (arith, so_far, visit, index),
      listed,
    )

pub fits_at-requires-clause-unended : goal.fits_at-requires-clause-unended
fits_at-requires-clause-unended c = λ u is.
    let late : c.args.self.now.stop ≤ u = c.requires.search.unended u is in
    let some = c.loop-position.invariant.0 in
    let limit = c.min-limit.ensures in
    omega (arith, some, limit)
