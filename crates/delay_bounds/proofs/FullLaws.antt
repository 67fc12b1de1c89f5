-- The first frame that finds no room.
use Rattle.std.proofs.Common.{ℕ, length, ap, ◌∙◌, arith}
use Rattle.gates.specs.Gate.{in_ps}
use Rattle.abstract_port.specs.AbstractPort.{new_port}
use Rattle.abstract_port.specs.Traffic.{offered_in}
use Rattle.delay_bounds.specs.Claim.{offsets_of}
use Rattle.delay_bounds.specs.Full.{FullLaw}
use Rattle.delay_bounds.specs.Walk.{after, begun}
use Rattle.delay_bounds.proofs.GateLaws.{same_gates}
use Rattle.delay_bounds.proofs.QueueLaws.{at_track, before_track, one_dropped}

pub full_law : FullLaw
full_law ps mtu room class a plan events flows n m z e rate large lc is above apart only c many there next full =
    let cycle : ℕ = in_ps plan.cycle in
    let total : ℕ = length (offered_in class events (new_port ps mtu room)) in
    let there' = ap (λ may. after may cycle room flows m (begun (offsets_of flows))) (same_gates a plan is above class) ∙ there in
    one_dropped ps mtu room class a flows (offsets_of flows) events n rate large lc apart only c m
    (λ p f came x less. before_track ps class a room flows (offsets_of flows) lc cycle total m z p f came x there' less)
    (λ p f came x here.
    let same = at_track ps class a room flows (offsets_of flows) lc cycle total m z e p f came x there' next here in
    let size = x.size in
    omega (arith, same, size, full))
    many
