use Rattle.std.proofs.Common.{◌≡◌, ◌<◌, ◌≤◌, ◌-◌, ◌^◌, ℕ, true}
use Rattle.delay_bounds.specs.Walk.{may_by}
use Rattle.shared_bounds.specs.Blocking.{was_open}
use Rattle.shared_bounds.specs.Traffic.{needs}
use Rattle.shared_bounds.proofs.place.SharedClass.reach.Given as goal

abbrev pub invariant-loop-class : goal.invariant-loop-class
invariant-loop-class l = record {
  some : 0 < l.reach;
  short : l.reach < 2 ^ 60;
  reach : (j : ℕ) → j < l.class → (j ≡ l.self.class → ⊥) → was_open l.self.schedule.now j l.from ≡ true
      → may_by l.self.schedule.now j l.from (l.until - l.from) ≡ true → needs l.self.traffic.now j ≤ l.reach;
}
