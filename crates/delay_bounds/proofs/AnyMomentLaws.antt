-- A frame that comes at any moment, when no other frame of its class waits or is sent.
use Rattle.std.proofs.Common.{◌≡◌, ◌<◌, ◌≤◌, ℕ, ◌+◌, ◌-◌, max, List, [], ◌∷◌, Some, sym, subst, arith}
use Rattle.wire_time.specs.Wire.{occupancy_of}
use Rattle.wire_time.specs.declared.Frame.{Frame}
use Rattle.gates.specs.Gate.{Plan}
use Rattle.gates.specs.History.{Accepted, open_through}
use Rattle.abstract_port.specs.declared.Start.{Start}
use Rattle.abstract_port.proofs.ServiceLaws.{served_law}
use Rattle.abstract_port.specs.Served.{AreServed, IsFirst, IsStart}
use Rattle.abstract_port.specs.Traffic.{Came}
use Rattle.delay_bounds.specs.AnyMoment.{AnyMomentLaw, AreSoon, IsLongestWait}
use Rattle.delay_bounds.proofs.GateLaws.{same_gates}
use Rattle.delay_bounds.proofs.WaitLaws.{first_since, one_first}

module _ (ps class d wait : ℕ) (a : Accepted) (plan : Plan) (is : a.plan ≡ Some plan) (above : 0 < plan.cycle) (h : IsLongestWait plan class d wait) where
  -- a frame that comes when the wire is free
  soon : (free now : ℕ) (f : Came) (x : Start) → IsStart (open_through (a ∷ []) class) ps class free now f x
      → a.change ≤ f.moment → free ≤ f.moment → occupancy_of ps f.frame.len ≡ d → x.at ≤ f.moment + wait
  soon free now f x start since later need =
      let m : ℕ = f.moment - a.change in
      let first = h.within m in
      let s = first.0 in
      let alone = subst (λ may. IsFirst may d m s) (sym (same_gates a plan is above class)) first.1 in
      let told = first_since a class d m s alone in
      let from : max f.moment free ≡ a.change + m = omega (arith, since, later) in
      let mine = subst (λ k. IsFirst (open_through (a ∷ []) class) k (a.change + m) x.at) need
      (subst (λ k. IsFirst (open_through (a ∷ []) class) (occupancy_of ps f.frame.len) k x.at) from start.first) in
      let same : x.at ≡ a.change + s = one_first (open_through (a ∷ []) class) d (a.change + m) x.at (a.change + s) mine told in
      let within = first.2 in
      omega (arith, same, within, since)

  all_soon : (free now : ℕ) (came : List Came) (starts : List Start) (wire : ℕ) (waiting : List Frame) → AreServed (open_through (a ∷ []) class) ps class free now came starts wire waiting
      → AreSoon ps a.change d wait free came starts
  all_soon free now came [] wire waiting served = tt
  all_soon free now [] (x ∷ starts) wire waiting served = absurd served
  all_soon free now (f ∷ came) (x ∷ starts) wire waiting served = (soon free now f x served.0, all_soon x.«end» now came starts wire waiting served.1)

pub any_moment_law : AnyMomentLaw
any_moment_law ps mtu room class d wait a plan events rate large lc is above apart only h =
    let served = served_law ps mtu room class a events rate large lc apart only in
    all_soon ps class d wait a plan is above h 0 _ _ _ served.free _ served.served
