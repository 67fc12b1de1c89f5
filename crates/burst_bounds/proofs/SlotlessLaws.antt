-- Why there are no slots.
use Rattle.std.proofs.Common.{◌<◌, ◌≤◌, ℕ, inl, inr, arith}
use Rattle.wire_time.specs.Moment.{greatest_moment}
use Rattle.gates.specs.Gate.{Plan}
use Rattle.delay_bounds.specs.Walk.{may_by}
use Rattle.burst_bounds.specs.Slotless.{IsNoSlot, IsSlotless}
use Rattle.burst_bounds.specs.declared.Unbound.{Unbound}
use Rattle.burst_bounds.specs.declared.Unbound.TheVariants.{Overloaded, Stuck, Long, Memory}
use Rattle.burst_bounds.proofs.SlotLaws.{IsSought}

pub slotless : (plan : Plan) (class d from i next count : ℕ) (why : Unbound) → from ≤ greatest_moment → i < count
    → IsSought (may_by plan class) d from i next
    → IsNoSlot plan class d next why → IsSlotless plan class d from count why
slotless plan class d from i next count Long soon less sought late = elim sought.by [
  | inl none ↦ (let same = none.1 in absurd (omega (arith, same, soon, late)))
  | inr some ↦
      let is = some.2 in
      let at = some.4 in
      ((some.0, some.1, omega (arith, is, less), some.3, omega (arith, at, late)), omega (arith, is, less))
]
slotless plan class d from i next count Stuck soon less sought stuck = stuck
slotless plan class d from i next count Memory soon less sought none = absurd none
slotless plan class d from i next count Overloaded soon less sought none = absurd none
