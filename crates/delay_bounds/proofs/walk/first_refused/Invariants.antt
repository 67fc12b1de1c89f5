use Rattle.std.proofs.Common.{◌≡◌, ◌+◌, length}
use Rattle.delay_bounds.specs.Stuck.{first_refused, refused_in}
use Rattle.delay_bounds.proofs.walk.first_refused.Given as goal

abbrev pub invariant-frames : goal.invariant-frames
invariant-frames g l = record {
  found : refused_in l.line.room l.flows (l.left + 1) l.line.track ≡ first_refused l.fn.line.room l.flows l.fn.line.track;
  room : l.line.room ≡ l.fn.line.room;
  places : length l.line.track.nexts ≡ length l.flows;
}

abbrev pub decreases-frames : goal.decreases-frames
decreases-frames g l = l.left
