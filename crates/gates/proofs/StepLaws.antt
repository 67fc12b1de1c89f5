-- For an implementation that goes from boundary to boundary, or jumps to one.
use Rattle.std.proofs.Common.{◌≡◌, ◌<◌, ◌≤◌, ℕ, ◌+◌, ◌-◌, ◌*◌, ◌/◌, ◌%◌, cond, Option, Some, sym, ap, ◌∙◌, arith, mul_comm}
use Rattle.std.proofs.Math.Nat.{div-eq_of_lt-le}
use Rattle.gates.specs.Gate.{Plan, in_ps, mask_at, last_mask, has_come, mask_since}
use Rattle.gates.specs.History.{Accepted, cycle_start, is_held}
use Rattle.gates.specs.Stretch.{hold_of}
use Rattle.gates.proofs.StretchLaws.{cycle_start_is, phase_is, held_is, cycle_above}

-- the cycle that m lies in
module _ (start cycle k m : ℕ) (above : 0 < cycle) (from : start + cycle * k ≤ m) (to : m < start + cycle * k + cycle) where
  pub cycle_of : (m - start) / cycle ≡ k
  cycle_of = div-eq_of_lt-le cycle (let e = mul_comm k cycle in omega arith) (let e = mul_comm (k + 1) cycle in omega arith)

  pub boundary_is : cycle_start start cycle m ≡ start + cycle * k
  boundary_is = cycle_start_is start cycle 0 m above (omega arith) ∙ ap (λ q. start + cycle * q) cycle_of

  pub phase_in : (m - start) % cycle ≡ m - (start + cycle * k)
  phase_in = sym (phase_is start cycle 0 m above (omega arith)) ∙ ap (λ s. m - s) boundary_is

-- in the cycle from the boundary s on: the hold is decided at s, and else the phase is the time since s
module _ (plan : Plan) (start k m : ℕ) (above : 0 < plan.cycle) (from : start + in_ps plan.cycle * k ≤ m) (to : m < start + in_ps plan.cycle * k + in_ps plan.cycle) where
  pub held_in : (next : Accepted) → has_come (hold_of (Some plan) start next) m ≡ is_held start (in_ps plan.extension) (start + in_ps plan.cycle * k) (Some next)
  held_in next =
      held_is plan start m next above (omega arith)
      ∙ ap (λ s. is_held start (in_ps plan.extension) s (Some next)) (boundary_is start (in_ps plan.cycle) k m (cycle_above plan above) from to)

  pub mask_of_cycle : (held : Option ℕ) → mask_since (Some plan) start held m ≡ cond (has_come held m) (last_mask plan.entries) (mask_at plan.entries (m - (start + in_ps plan.cycle * k)))
  mask_of_cycle held = ap (λ p. cond (has_come held m) (last_mask plan.entries) (mask_at plan.entries p)) (phase_in start (in_ps plan.cycle) k m (cycle_above plan above) from to)
