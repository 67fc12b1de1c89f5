-- Frames of periodic flows with jitter conform to the sum of the flows' curves.
use Rattle.std.proofs.Common.{◌≡◌, ◌<◌, ◌≤◌, ℕ, suc, ◌+◌, ◌-◌, ◌*◌, ◌/◌, inl, inr, List, [], ◌∷◌, map, slice_get, Some, refl, ap, arith, mul-add, mul_comm}
use Rattle.std.specs.Prelude.{sum_by}
use Rattle.std.proofs.Math.Nat.{le-div_iff_mul-le}
use Rattle.std.proofs.lemmas.Bool.{cases_lt}
use Rattle.std.proofs.lemmas.List.Sums.{sum_by-cons}
use Rattle.abstract_port.specs.AbstractPort.{new_port}
use Rattle.abstract_port.specs.Traffic.{Came, offered_in}
use Rattle.any_traffic.specs.PeriodicWindows.{PeriodicFlow, before}
use Rattle.any_traffic.specs.Sporadic.{curve_of, curve_of_all}
use Rattle.any_traffic.specs.WindowCurve.{WindowCurveLaw, without_offset}
use Rattle.any_traffic.proofs.Offered.{are_rising}
use Rattle.any_traffic.proofs.PartLaws.{rising_pair}
use Rattle.any_traffic.proofs.PeriodicWindowLaws.{HavePeriod, all_wide, as_many, before_is, before_of, wide_of}

-- from p to t no more come of a flow than its curve says
one_curve : (flow : PeriodicFlow) (p t : ℕ) → 0 < flow.period → p ≤ t → wide_of p t flow ≤ curve_of (t - p) (without_offset flow)
one_curve flow p t above le = elim (cases_lt low high) [
  | inr few ↦ omega (arith, few)
  | inl some ↦
      let last = before_is flow.offset flow.period (high - 1) (t + 1) above (omega (arith, some)) in
      let first : p ≤ flow.offset + flow.jitter + flow.period * low = elim (cases_lt (flow.offset + flow.jitter + flow.period * low) p) [
        | inr fits ↦ fits
        | inl early ↦ (let gone = before_of (flow.offset + flow.jitter) flow.period low p above early in absurd (omega (arith, gone)))
      ] in
      let between : ℕ = high - 1 - low in
      let parts : flow.period * (low + between) ≡ flow.period * low + flow.period * between = mul-add flow.period low between in
      let whole : flow.period * (low + between) ≡ flow.period * (high - 1) = ap (λ n. flow.period * n)
      (let z : low + between ≡ high - 1 = omega (arith, some) in z) in
      let turned : between * flow.period ≡ flow.period * between = mul_comm between flow.period in
      let within : between ≤ (t - p + flow.jitter) / flow.period = (le-div_iff_mul-le above).1
      (let z : between * flow.period ≤ t - p + flow.jitter = omega (arith, last, first, parts, whole, turned, le) in z) in
      omega (arith, within, some)
]
  where
    low : ℕ
    low = before (flow.offset + flow.jitter) flow.period p

    high : ℕ
    high = before flow.offset flow.period (t + 1)

all_curves : (flows : List PeriodicFlow) (p t : ℕ) → HavePeriod flows → p ≤ t
    → sum_by (wide_of p t) flows ≤ curve_of_all (map without_offset flows) (t - p)
all_curves [] p t above le = omega arith
all_curves (flow ∷ flows) p t above le =
    let here = one_curve flow p t (above 0 flow refl) le in
    let rest = all_curves flows p t (λ i f e. above (suc i) f e) le in
    let a = sum_by-cons (wide_of p t) flow flows in
    let b = sum_by-cons (curve_of (t - p)) (without_offset flow) (map without_offset flows) in
    omega (arith, here, rest, a, b)

pub window_curve_law : WindowCurveLaw
window_curve_law ps mtu room class d change flows numbers events large these c =
    record {
      short = λ k f e. (let x = c.each k f e in let need = x.7 in let bound = (these x.0 x.2 x.4).1 in omega (arith, need, bound));
      few = λ k n f g e h.
          let from = (c.each k f e).5.0 in
          let to = order k n f g e h in
          let many = as_many ps change flows numbers came above c order k n (g.moment - change) f g e h (omega (arith, from))
          (omega arith) in
          let parts = all_wide flows (f.moment - change) (g.moment - change) above (omega (arith, to)) in
          let curves = all_curves flows (f.moment - change) (g.moment - change) above (omega (arith, to)) in
          let same : curve_of_all (map without_offset flows) (g.moment - change - (f.moment - change)) ≡ curve_of_all
          (map without_offset flows) (g.moment - f.moment)
          = ap (curve_of_all (map without_offset flows))
          (let z : g.moment - change - (f.moment - change) ≡ g.moment - f.moment = omega (arith, from, to) in z) in
          omega (arith, many, parts, curves, same);
    }
  where
    came : List Came
    came = offered_in class events (new_port ps mtu room)

    above : HavePeriod flows
    above = λ i f e. (these i f e).0

    order : (k n : ℕ) (f g : Came) → slice_get came k ≡ Some f → slice_get came (k + n) ≡ Some g → f.moment ≤ g.moment
    order k n f g e h = rising_pair 0 came k n f g (are_rising class events (new_port ps mtu room) large) e h
