-- When the gate of the class opens.
use Rattle.std.proofs.Common.{◌≡◌, ◌<◌, ◌≤◌, ℕ, zero, suc, ◌+◌, ◌-◌, ◌*◌, true, false, not, ◌&&◌, Option, Some, None, inl, inr, sym, ap, ◌∙◌, arith}
use Rattle.std.proofs.lemmas.Bool.{both_ways, cases_Bool, cases_lt, and_parts}
use Rattle.gates.specs.Gate.{in_ps, mask_since}
use Rattle.gates.proofs.OpenLaws.{open_within}
use Rattle.delay_bounds.proofs.GateLaws.{by_repeats}
use Rattle.std.specs.Prelude.{MatchOption}
use Rattle.delay_bounds.specs.Bounds.{first_fit}
use Rattle.delay_bounds.proofs.NeverLaws.{none_ever as none_everywhere}
use Rattle.delay_bounds.proofs.WaitLaws.{first_is}
use Rattle.shared_bounds.specs.Slots.{IsStuck}
use Rattle.shared_bounds.specs.Place.{IsPlace, blocking_of, may_of, opening_of, own_of}
use Rattle.shared_bounds.specs.Traffic.{needs}
use Rattle.shared_bounds.specs.declared.place.SharedClass.{SharedClass}
use Rattle.shared_bounds.proofs.BlockingLaws.{repeats}

module _ (it : SharedClass) (place : IsPlace it) where
  abbrev cycle : ℕ
  cycle = in_ps it.schedule.now.cycle

  above : 0 < it.schedule.now.cycle
  above = place.sound.plan_is.cycle

  may_again : (u d : ℕ) → may_of it (u + cycle) d ≡ may_of it u d
  may_again u d = (let one : u + cycle * 1 ≡ u + cycle = omega arith in
      ap (λ w. may_of it w d) (sym one) ∙ by_repeats it.schedule.now above it.class 1 u d)

  opening_again : (u : ℕ) → 0 < u → opening_of it (u + cycle) ≡ opening_of it u
  opening_again u some =
      let at : u + cycle - 1 ≡ u - 1 + cycle = omega (arith, some) in
      let same = repeats it.schedule.now it.class (needs it.traffic.now) above u some in
      ap (λ k. not (may_of it k 1) && may_of it (u + cycle) (blocking_of it (u + cycle) + own_of it)) at
      ∙ (ap (λ b. not b && may_of it (u + cycle) (blocking_of it (u + cycle) + own_of it)) (may_again (u - 1) 1)
      ∙ (ap (λ k. not (may_of it (u - 1) 1) && may_of it (u + cycle) (k + own_of it)) same
      ∙ ap (λ b. not (may_of it (u - 1) 1) && b) (may_again u (blocking_of it u + own_of it))))

  -- where none is in a cycle there is none at all
  pub none_ever : (from : ℕ) → ((u : ℕ) → from < u → u ≤ from + cycle → opening_of it u ≡ false) → (u : ℕ) → from < u
      → opening_of it u ≡ false
  none_ever from none u after = by (suc u) u (omega arith) after
    where
      by : (n v : ℕ) → v < n → from < v → opening_of it v ≡ false
      by zero v less later = absurd (omega (arith, less))
      by (suc n) v less later = elim (cases_lt (from + cycle) v) [
        | inr near ↦ none v later near
        | inl far ↦
            let p = above in
            let back : v - cycle + cycle ≡ v = omega (arith, far) in
            ap (opening_of it) (sym back) ∙ (opening_again (v - cycle) (omega (arith, far, later))
            ∙ by n (v - cycle) (omega (arith, less, far, p)) (omega (arith, far)))
      ]

  -- where none is behind some moment there is none at all
  pub none_of_all : (from : ℕ) → ((u : ℕ) → from < u → opening_of it u ≡ false) → (u : ℕ) → opening_of it u ≡ false
  none_of_all from none zero = elim (cases_Bool (opening_of it 0)) [
    | inr not_so ↦ not_so
    | inl holds ↦
        let parts = and_parts _ _ holds in
        let some = place.some in
        let here : may_of it 0 1 ≡ true = open_within (mask_since (Some it.schedule.now) 0 None) it.class 0 (blocking_of it 0 + own_of it) 0 1
        parts.1 (omega arith) (omega (arith, some)) in
        absurd (both_ways _ (ap not here) parts.0)
  ]
  none_of_all from none (suc v) = by from (suc v) (omega arith) (omega arith)
    where
      by : (n w : ℕ) → 0 < w → from < w + n → opening_of it w ≡ false
      by zero w some past = none w (omega (arith, past))
      by (suc n) w some past =
          let p = above in
          sym (opening_again w some) ∙ by n (w + cycle) (omega (arith, some)) (omega (arith, past, p))

  -- a window that takes the longest frame is found in the first cycle
  pub taken_of : (o : Option ℕ) → o ≡ first_fit (may_of it) (own_of it) 0 cycle
      → MatchOption o (IsStuck it) (λ t. may_of it t (own_of it) ≡ true)
  taken_of None is = (let p = above in none_everywhere (may_of it) cycle (own_of it) 0 (omega (arith, p))
      (λ k. by_repeats it.schedule.now above it.class k) (sym is))
  taken_of (Some t) is = (first_is (may_of it) (own_of it) 0 cycle t (sym is)).fits
