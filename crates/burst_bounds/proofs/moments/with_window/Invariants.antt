use Rattle.burst_bounds.proofs.WindowSeenLaws.{IsInWindow}
use Rattle.burst_bounds.proofs.moments.with_window.Given as goal

abbrev pub invariant-frames : goal.invariant-frames
invariant-frames g l = IsInWindow l.schedule l.class l.need l.end l.moments l.repeat l.initial.bounds l.from l.frames l.slots.items l.bounds

abbrev pub decreases-frames : goal.decreases-frames
decreases-frames g l = l.from
