use Rattle.std.proofs.Common.{◌≡◌, ◌≤◌, ◌-◌}
use Rattle.gates.specs.History.{kept}
use Rattle.gates.specs.Current.{IsCurrent}
use Rattle.jumping.proofs.stepped.stepped_gates.SteppedGates.move_to.Given as goal

abbrev pub invariant-loop-self : goal.invariant-loop-self
invariant-loop-self l = record {
  upto : l.self.moment ≤ l.t;
  onward : l.initial.self.moment ≤ l.self.moment;
  history : l.self.history ≡ kept l.initial.self.history l.self.moment;
  sound : IsCurrent l.self.history l.self.moment;
  counted : l.fn.visits ≤ l.visits;
}

abbrev pub decreases-loop-self : goal.decreases-loop-self
decreases-loop-self l = l.t - l.self.moment
