use Rattle.std.proofs.Common.{◌≡◌, ◌≤◌, ◌-◌, length}
use Rattle.delay_bounds.specs.Walked.{answer_of, walked}
use Rattle.delay_bounds.proofs.WalkedLaws.{at}
use Rattle.delay_bounds.proofs.walk.walk.Given as goal

abbrev pub invariant-loop-frames : goal.invariant-loop-frames
invariant-loop-frames g l = record {
  places : length l.line.track.nexts ≡ length l.flows;
  base_places : length l.base.track.nexts ≡ length l.flows;
  room : l.line.room ≡ l.fn.line.room;
  base_room : l.base.room ≡ l.fn.line.room;
  earlier : l.mark.earlier ≤ l.frames;
  count : length l.bounds ≡ length l.flows;
  answer : walked l.schedule l.class l.fn.line.room l.flows (l.limit - l.frames) (at l.frames l.line l.base l.mark l.bounds l.most l.backlog) ≡ answer_of l.schedule l.class l.fn.line.room l.flows l.limit;
}

abbrev pub decreases-loop-frames : goal.decreases-loop-frames
decreases-loop-frames g l = l.limit - l.frames
