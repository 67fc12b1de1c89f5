-- The slot curve of flows rises with the time.
use Rattle.std.proofs.Common.{◌≡◌, ◌<◌, ◌≤◌, ℕ, suc, ◌*◌, min, List, [], ◌∷◌, slice_get, Some, refl, arith}
use Rattle.std.proofs.Math.Nat.{mul-le-mul_left}
use Rattle.std.proofs.lemmas.List.Sums.{sum_by-cons}
use Rattle.any_traffic.specs.SharedSlots.{slots_of}
use Rattle.any_traffic.specs.SlotCurve.{slot_curve}
use Rattle.any_traffic.specs.Sporadic.{Sporadic, curve_of}
use Rattle.any_traffic.proofs.CycleLaws.{one_rises}

pub slot_curve_rises : (d pitch : ℕ) (flows : List Sporadic) → ((i : ℕ) (flow : Sporadic) → slice_get flows i ≡ Some flow → 0 < flow.period)
    → (x y : ℕ) → x ≤ y → slot_curve d pitch flows x ≤ slot_curve d pitch flows y
slot_curve_rises d pitch [] above x y le = omega arith
slot_curve_rises d pitch (flow ∷ flows) above x y le =
    let one = mul-le-mul_left (slots_of (min d flow.need) pitch) (one_rises flow x y (above 0 flow refl) le) in
    let rest = slot_curve_rises d pitch flows (λ i other e. above (suc i) other e) x y le in
    let a = sum_by-cons (λ flow. slots_of (min d flow.need) pitch * curve_of x flow) flow flows in
    let b = sum_by-cons (λ flow. slots_of (min d flow.need) pitch * curve_of y flow) flow flows in
    omega (arith, one, rest, a, b)
