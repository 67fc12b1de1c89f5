-- No frame of the flows is dropped.
use Rattle.std.proofs.Common.{ℕ, length, IsSome, sym, subst}
use Rattle.gates.specs.Gate.{in_ps}
use Rattle.abstract_port.specs.AbstractPort.{new_port}
use Rattle.abstract_port.specs.Traffic.{offered_in}
use Rattle.delay_bounds.specs.Claim.{offsets_of}
use Rattle.delay_bounds.specs.Bounds.{told}
use Rattle.delay_bounds.specs.Waits.{DropsLaw}
use Rattle.delay_bounds.specs.Walk.{begun}
use Rattle.delay_bounds.proofs.GateLaws.{may_since, same_gates}
use Rattle.delay_bounds.proofs.QueueLaws.{none_dropped, step_room}
use Rattle.delay_bounds.proofs.StepLaws.{goes_ever}

pub drops_law : DropsLaw
drops_law ps mtu room class a plan events flows n rate large lc is above apart only c tells =
    let cycle : ℕ = in_ps plan.cycle in
    let total : ℕ = length (offered_in class events (new_port ps mtu room)) in
    let ever = subst (λ may. (m : ℕ) → IsSome (told may cycle room flows m (begun (offsets_of flows)))) (sym (same_gates a plan is above class)) tells in
    none_dropped ps mtu room class a flows (offsets_of flows) events n rate large lc apart only c
    (λ p f came x less.
    let z = goes_ever (may_since a class) cycle room flows (length came) (begun (offsets_of flows)) ever in
    step_room ps class a room flows (offsets_of flows) lc cycle total z.0 z.2 p f came x z.1 z.3)
