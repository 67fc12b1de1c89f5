-- The slots of one cycle, from a moment on at which the class is shut; and where it never is.
use Rattle.std.proofs.Common.{◌≡◌, ◌<◌, ◌≤◌, ℕ, zero, suc, ◌+◌, ◌-◌, ◌*◌, ◌/◌, ◌%◌, ◌^◌, Bool, true, false, Some, None, length, inl, inr, refl, sym, ap, ◌∙◌, subst, arith, le_refl, add-mul}
use Rattle.std.proofs.Math.Nat.{div-add-mod}
use Rattle.std.proofs.lemmas.Bool.{both_ways, cases_lt}
use Rattle.wire_time.specs.Moment.{greatest_moment}
use Rattle.gates.specs.Gate.{IsSchedule, Plan, in_ps, mask_since, opens, prefix}
use Rattle.gates.proofs.OpenLaws.{open_at, open_from, open_within}
use Rattle.abstract_port.specs.Served.{IsFirst}
use Rattle.delay_bounds.proofs.GateLaws.{by_repeats}
use Rattle.delay_bounds.proofs.LongestWaitLaws.{closes_at}
use Rattle.delay_bounds.specs.ForEver.{Repeats}
use Rattle.delay_bounds.specs.Walk.{may_by}
use Rattle.any_traffic.specs.Slots.{IsSlot}
use Rattle.burst_bounds.specs.Overload.{IsShare, IsShareless}
use Rattle.burst_bounds.specs.Slotless.{IsNoSlot}
use Rattle.burst_bounds.specs.declared.Unbound.{Unbound}
use Rattle.burst_bounds.specs.declared.Unbound.TheVariants.{Overloaded, Stuck, Long, Memory}
use Rattle.burst_bounds.proofs.AlikeLaws.{one_behind_another}

fits_at : (may : ℕ → ℕ → Bool) (d t n s : ℕ) → IsSlot may d t n s → may s d ≡ true
fits_at may d t zero s h = h.fits
fits_at may d t (suc n) s h = fits_at may d (h.0 + d) n s h.2

pub shareless : (plan : Plan) (class d from : ℕ) (why : Unbound) → from ≤ greatest_moment → IsNoSlot plan class d from why
    → IsShareless plan class d why
shareless plan class d from Long soon late = absurd (omega (arith, soon, late))
shareless plan class d from Stuck soon stuck = stuck
shareless plan class d from Memory soon none = none
shareless plan class d from Overloaded soon none = none

module _ (plan : Plan) (class d from begin : ℕ) (sound : IsSchedule plan) (above : 0 < d) (shut : may_by plan class from 1 ≡ false)
    (first : IsFirst (may_by plan class) d from begin) where
  abbrev may : ℕ → ℕ → Bool
  may = may_by plan class

  abbrev cycle : ℕ
  cycle = in_ps plan.cycle

  again : Repeats may (cycle * 1)
  again = by_repeats plan sound.plan_is.cycle class 1

  -- a slot before the next cycle's first ends by then
  pub ends : (n at : ℕ) → IsSlot may d from n at → at < begin + cycle → at + d ≤ begin + cycle
  ends n at slot less =
      let low = first.from in
      elim (cases_lt at (from + cycle)) [
        | inr behind ↦
            let m : ℕ = at - cycle in
            let back : m + cycle * 1 ≡ at = omega (arith, behind) in
            let fits : may m d ≡ true = sym (again m d) ∙ (ap (λ k. may k d) back ∙ fits_at may d from n at slot) in
            absurd (both_ways _ (first.least m (omega (arith, behind)) (omega (arith, behind, less))) fits)
        | inl before ↦ elim (cases_lt (from + cycle) (at + d)) [
          | inr short ↦ omega (arith, short, low)
          | inl over ↦
              let there : from + cycle * 1 ≡ from + cycle = omega arith in
              let opened : may (from + cycle) 1 ≡ true = open_within (mask_since (Some plan) 0 None) class at d (from + cycle) 1
              (fits_at may d from n at slot) (omega (arith, before)) (omega (arith, over)) in
              absurd (both_ways _ shut (sym (again from 1) ∙ (ap (λ k. may k 1) there ∙ opened)))
        ]
      ]

  pub next_within : (n at next : ℕ) → IsSlot may d from n at → at < begin + cycle → IsFirst may d (at + d) next → next ≤ begin + cycle
  next_within n at next slot less h = elim (cases_lt (begin + cycle) next) [
    | inr le ↦ omega (arith, le)
    | inl over ↦
        let there : begin + cycle * 1 ≡ begin + cycle = omega arith in
        let fits : may (begin + cycle) d ≡ true = ap (λ k. may k d) (sym there) ∙ (again begin d ∙ first.fits) in
        absurd (both_ways _ (h.least (begin + cycle) (ends n at slot less) over) fits)
  ]

  pub cycle_is : (slots at : ℕ) → IsSlot may d from slots at → at ≡ begin + cycle → begin < 2 ^ 60
      → IsShare plan class d (record { slots = slots; time = at - begin })
  cycle_is slots at row is small =
      let length = sound.cycle in
      let one : cycle * 1 ≡ cycle = omega arith in
      record {
        cycles = 1;
        whole = omega (arith, is, one);
        takes = record {
          from = from;
          slot = begin;
          first = first;
          later = subst (IsSlot may d from slots)
              (let e : at ≡ begin + cycle * 1 = omega (arith, is, one) in e) row;
        };
        small = omega (arith, is, length);
      }

-- ---- where it is never shut

module _ (plan : Plan) (class d : ℕ) (sound : IsSchedule plan) (each : (i : ℕ) → i < length plan.entries
    → may_by plan class (prefix plan.entries i) 1 ≡ true) where
  abbrev mask : ℕ → ℕ
  mask = mask_since (Some plan) 0 None

  open_at_edge : (i : ℕ) → i < length plan.entries → opens (mask (prefix plan.entries i)) class ≡ true
  open_at_edge i less = open_at mask class (prefix plan.entries i) 1 (each i less) (prefix plan.entries i)
      (le_refl (prefix plan.entries i)) (omega arith)

  same_phase : (m : ℕ) → may_by plan class m 1 ≡ may_by plan class (m % in_ps plan.cycle) 1
  same_phase m =
      let whole = div-add-mod m (in_ps plan.cycle) in
      let at : m ≡ m % in_ps plan.cycle + in_ps plan.cycle * (m / in_ps plan.cycle) = omega (arith, whole) in
      ap (λ k. may_by plan class k 1) at ∙ by_repeats plan sound.plan_is.cycle class (m / in_ps plan.cycle) (m % in_ps plan.cycle) 1

  always : (t : ℕ) → opens (mask t) class ≡ true
  always zero = open_at_edge 0 sound.plan_is.entries
  always (suc t) = go (opens (mask (t + 1)) class) refl (always t)
    where
      at : t + 1 ≡ suc t
      at = omega arith

      go : (b : Bool) → opens (mask (t + 1)) class ≡ b → opens (mask t) class ≡ true → opens (mask (suc t)) class ≡ true
      go true is before = subst (λ k. opens (mask k) class ≡ true) at is
      go false is before =
          let edge = closes_at plan class sound.plan_is.cycle sound.plan_is.entries t before is in
          let shown : may_by plan class (t + 1) 1 ≡ true = same_phase (t + 1) ∙
          (ap (λ k. may_by plan class k 1) (sym edge.2) ∙ each edge.0 edge.1) in
          absurd (both_ways _ is (open_at mask class (t + 1) 1 shown (t + 1) (le_refl (t + 1)) (omega arith)))

  fits : (t : ℕ) → may_by plan class t d ≡ true
  fits t = open_from mask class t d (λ n from below. always n)

  pub always_is : 0 < d → d ≤ greatest_moment → IsShare plan class d (record { slots = in_ps plan.cycle; time = in_ps plan.cycle * d })
  always_is above within = record {
    cycles = d;
    whole = refl;
    takes = record {
      from = 0;
      slot = 0;
      first = record { from = omega arith; fits = fits 0; least = λ m after before. absurd (omega (arith, before)) };
      later = one_behind_another plan class d (in_ps plan.cycle) 0 (λ j le. fits (0 + j * d));
    };
    small =
        let length = sound.cycle in
        let most : ℕ = 1000 * 2 ^ 40 in
        let up : in_ps plan.cycle * d ≤ most * d =
        (let e : most * d ≡ in_ps plan.cycle * d + (most - in_ps plan.cycle) * d =
        (let s : most ≡ in_ps plan.cycle + (most - in_ps plan.cycle) = omega (arith, length) in ap (λ m. m * d) s ∙ add-mul
        (in_ps plan.cycle) (most - in_ps plan.cycle) d) in omega (arith, e)) in
        omega (arith, up, within);
  }
