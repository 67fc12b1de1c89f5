use Rattle.std.proofs.Common.{◌≡◌}
use Rattle.shared_bounds.specs.Blocking.{blocked_by, most_below}
use Rattle.shared_bounds.specs.Traffic.{needs}
use Rattle.shared_bounds.proofs.place.SharedClass.blocking.Given as goal

abbrev pub invariant-loop-class : goal.invariant-loop-class
invariant-loop-class l =
    l.most ≡ most_below (blocked_by l.self.schedule.now l.self.class (needs l.self.traffic.now) l.at) l.class
