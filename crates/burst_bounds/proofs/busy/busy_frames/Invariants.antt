use Rattle.std.proofs.Common.{ℕ, ◌+◌, ◌-◌, ◌<◌, length, get_or}
use Rattle.burst_bounds.proofs.busy.busy_frames.Given as goal

abbrev pub invariant-loop-frames : goal.invariant-loop-frames
invariant-loop-frames l = record {
  some : 0 < l.frames;
  busy : (n : ℕ) → n + 1 < l.frames → l.from + get_or l.moments (n + 1) 0 < get_or l.slots n 0 + l.need;
}

abbrev pub decreases-loop-frames : goal.decreases-loop-frames
decreases-loop-frames l = length l.moments - l.frames
