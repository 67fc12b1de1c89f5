use Rattle.std.proofs.Common.{◌<◌}
use Rattle.shared_bounds.proofs.ShareLaws.{AreHigherTo}
use Rattle.shared_bounds.proofs.sharing.higher_classes.Given as goal

abbrev pub invariant-loop-other : goal.invariant-loop-other
invariant-loop-other g l = (l.class < l.other) × AreHigherTo l.schedule l.class l.other l.higher.items
