use Rattle.std.proofs.Common.{◌≡◌, ◌-◌, ℕ, None, length}
use Rattle.std.specs.Prelude.{IfSome}
use Rattle.jumping.specs.Position.{StoodBy}
use Rattle.delay_bounds.specs.Walk.{may_by}
use Rattle.window_bounds.specs.Walk.{IsBelow, IsMarked, IsWalkedTo}
use Rattle.window_bounds.proofs.walk.walk.Given as goal

abbrev pub invariant-frames : goal.invariant-frames
invariant-frames l = record {
  walked : (u : ℕ) × IsWalkedTo (may_by l.schedule l.class) l.need l.limit l.flows u l.lates l.earlies l.aheads l.can l.run l.waits;
  stood : StoodBy l.schedule 0 None l.run.free l.position;
  places : length l.lates ≡ length l.flows;
  marked : IfSome l.time (λ every. IsMarked (may_by l.schedule l.class) l.need l.flows l.mark.at every l.mark.was);
  small : IsBelow 127 l.mark.was;
}

abbrev pub decreases-frames : goal.decreases-frames
decreases-frames l = l.limit - l.run.sent
