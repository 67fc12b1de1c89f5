-- Boundaries of cycles.
use Rattle.std.proofs.Common.{◌≡◌, ◌<◌, ◌≤◌, ℕ, ◌+◌, ◌-◌, ◌*◌, ◌/◌, max, ap, ◌∙◌, arith, mod-lt, mul_comm}
use Rattle.std.proofs.Math.Nat.{div-eq_of_lt-le}
use Rattle.jumping.specs.CommandWords.{boundary_from}

-- the first boundary after t is the one after the last at or before it
pub boundary_after : (start cycle t : ℕ) → 0 < cycle → start ≤ t → boundary_from start cycle (t + 1) ≡ start + cycle * ((t - start) / cycle) + cycle
boundary_after start cycle t above from =
    let q : ℕ = (t - start) / cycle in
    let e = mul_comm q cycle in
    let less = mod-lt (t - start) above in
    let whole : (t + 1 - start + cycle - 1) / cycle ≡ q + 1 = div-eq_of_lt-le cycle (let f = mul_comm (q + 1) cycle in omega arith) (let f = mul_comm (q + 1 + 1) cycle in omega arith) in
    ap (λ k. start + cycle * k) whole ∙ (omega arith)

-- the first boundary after start and at or after t
pub boundary_not_before : (start cycle t : ℕ) → 0 < cycle → boundary_from start cycle (max (start + 1) t) ≡ start + cycle * ((max start (t - 1) - start) / cycle) + cycle
boundary_not_before start cycle t above =
    let at : max (start + 1) t ≡ max start (t - 1) + 1 = omega arith in
    ap (boundary_from start cycle) at ∙ boundary_after start cycle (max start (t - 1)) above (omega arith)
