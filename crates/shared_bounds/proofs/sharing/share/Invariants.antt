use Rattle.std.proofs.Common.{◌-◌, None}
use Rattle.jumping.specs.Position.{IsPlaced}
use Rattle.shared_bounds.proofs.ShareLaws.{NoneShared}
use Rattle.shared_bounds.proofs.sharing.share.Given as goal

abbrev pub invariant-loop-at : goal.invariant-loop-at
invariant-loop-at l = IsPlaced l.schedule 0 None l.at l.position × NoneShared l.schedule l.class l.other l.at

abbrev pub decreases-loop-at : goal.decreases-loop-at
decreases-loop-at l = l.cycle - l.at
