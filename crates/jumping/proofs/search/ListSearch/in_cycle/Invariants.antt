use Rattle.std.proofs.Common.{◌≡◌, ◌+◌, ◌-◌, ◌<◌, ◌≤◌, length}
use Rattle.jumping.specs.Words.{mask_in, IsPlaced, Listed, lent_rest, stretches_ahead, NoneFits}
use Rattle.jumping.proofs.search.ListSearch.in_cycle.Given as goal

abbrev pub invariant-loop-position : goal.invariant-loop-position
invariant-loop-position l =
    (l.from < l.limit) × (l.leg.from ≤ l.from)
    × IsPlaced l.leg.schedule.now l.leg.start l.leg.held_from l.from l.position
    × (l.position.timer ≡ l.leg.position.now.timer)
    × NoneFits (mask_in (stretches_ahead (Listed l.leg) (lent_rest l.self.rest.now))) l.self.needs.now l.leg.from l.from
    × (l.initial.visits ≤ l.visits)
    × (l.visits + l.leg.position.now.walk.index ≤ l.initial.visits + l.position.walk.index)
    × (l.position.walk.index < length l.leg.schedule.now.entries)

abbrev pub decreases-loop-position : goal.decreases-loop-position
decreases-loop-position l = l.limit - l.from
