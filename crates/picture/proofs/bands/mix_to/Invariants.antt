use Rattle.std.proofs.Common.{◌≡◌, ◌≤◌, ◌-◌, max}
use Rattle.picture.specs.Words.{gates, kept, IsCurrent}
use Rattle.picture.proofs.LookLaws.{HasMixed}
use Rattle.picture.proofs.PieceLaws.{GoesInPieces}
use Rattle.picture.proofs.bands.mix_to.Given as goal

abbrev pub invariant-loop-now : goal.invariant-loop-now
invariant-loop-now g l = record {
  sound : IsCurrent l.own.history l.own.moment;
  here : l.own.moment ≡ l.now;
  onward : l.initial.own.moment ≤ l.now;
  within : l.now ≤ max l.initial.own.moment l.upto;
  history : l.own.history ≡ kept l.initial.own.history l.now;
  looked : HasMixed l.initial.own.history l.piece l.initial.own.moment l.upto l.now l.initial.visits l.visits;
  goes : GoesInPieces (gates l.initial.own.history) l.piece l.initial.own.moment l.upto l.now l.initial.classes l.initial.mixed l.classes l.mixed;
}

abbrev pub decreases-loop-now : goal.decreases-loop-now
decreases-loop-now g l = l.upto - l.now
