use Rattle.std.proofs.Common.{◌≡◌, ◌≤◌, ◌+◌, ◌++◌, length, map}
use Rattle.gates.specs.History.{kept}
use Rattle.test_support.specs.Plain.{AreSound, accepted_in}
use Rattle.test_support.proofs.reference.history.kept.Given as goal

abbrev pub invariant-loop-first : goal.invariant-loop-first
invariant-loop-first l = record {
  told : map accepted_in l.kept.items ++ kept (map accepted_in l.history.items) l.m ≡ kept (map accepted_in l.fn.history.items) l.m;
  sound : AreSound (map accepted_in l.history.items);
  room : length l.kept.items + length l.history.items ≤ 3;
}

abbrev pub decreases-loop-first : goal.decreases-loop-first
decreases-loop-first l = length l.history.items
