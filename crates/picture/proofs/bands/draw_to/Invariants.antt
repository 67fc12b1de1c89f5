use Rattle.std.proofs.Common.{◌≡◌, ◌<◌, ◌≤◌, ◌+◌, ◌-◌, ◌*◌, max, ℕ}
use Rattle.wire_time.specs.declared.TheConstants.{CLASSES}
use Rattle.picture.specs.Words.{gates, kept, AreUsedUp, IsCurrent, class_at, drawn, most_moved}
use Rattle.picture.proofs.BoundaryLaws.{GoesByBoundaries}
use Rattle.picture.proofs.bands.draw_to.Given as goal

abbrev pub invariant-loop-now : goal.invariant-loop-now
invariant-loop-now g l = record {
  sound : IsCurrent l.own.history l.own.moment;
  here : l.own.moment ≡ l.now;
  onward : l.initial.own.moment ≤ l.now;
  goes : l.now < l.upto → GoesByBoundaries l.initial.own.history l.initial.own.moment l.upto l.now l.initial.left l.left;
  used : AreUsedUp l.initial.own.history l.initial.own.moment l.upto l.now l.initial.left l.left;
  moved : l.now < l.upto → l.visits + most_moved l.initial.own.history * l.left ≤ l.initial.visits + most_moved l.initial.own.history * l.initial.left;
  few : l.visits + most_moved l.initial.own.history * l.left ≤ l.initial.visits + most_moved l.initial.own.history * (l.initial.left + 1);
  within : l.now ≤ max l.initial.own.moment l.upto;
  history : l.own.history ≡ kept l.initial.own.history l.now;
  classes : (class : ℕ) → class < CLASSES → class_at l.classes class ≡ drawn (gates l.initial.own.history) class l.initial.own.moment (l.now - l.initial.own.moment) (class_at l.initial.classes class);
}

abbrev pub decreases-loop-now : goal.decreases-loop-now
decreases-loop-now g l = l.upto - l.now
