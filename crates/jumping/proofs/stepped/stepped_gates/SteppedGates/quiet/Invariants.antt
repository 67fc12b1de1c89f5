use Rattle.std.proofs.Common.{◌≡◌, ◌<◌, ◌≤◌, ℕ, Some, false, slice_get}
use Rattle.gates.specs.History.{open_through}
use Rattle.jumping.proofs.stepped.stepped_gates.SteppedGates.quiet.Given as goal

abbrev pub invariant-loop-class : goal.invariant-loop-class
invariant-loop-class l = record {
  counted : l.fn.visits ≤ l.visits;
  none : (k d : ℕ) → k < l.class → slice_get l.needs k ≡ Some (Some d) → open_through l.self.history k l.self.moment d ≡ false;
}
