-- How many slots of one window are behind one.
use Rattle.std.proofs.Common.{◌≡◌, ◌<◌, ◌≤◌, ℕ, ◌+◌, ◌-◌, ◌*◌, ◌/◌, ◌^◌, min, true, false, Some, None, inl, inr, sym, subst, arith, le_refl}
use Rattle.std.proofs.Math.Nat.{div-lt_iff_lt-mul, div-mul-le_self, le-div_iff_mul-le, mul-le-mul_right}
use Rattle.std.proofs.lemmas.Bool.{cases_Bool}
use Rattle.gates.specs.Gate.{mask_since}
use Rattle.gates.proofs.OpenLaws.{open_within}
use Rattle.shared_bounds.specs.Blocking.{open_for}
use Rattle.shared_bounds.specs.Place.{IsPlace, may_of, own_of}
use Rattle.shared_bounds.specs.declared.place.SharedClass.{SharedClass}
use Rattle.shared_bounds.proofs.OpenForLaws as opens_for

module _ (c : SharedClass) (place : IsPlace c) (at most time lasts : ℕ) (time_is : time ≡ min (min most (2 ^ 62) * c.pitch) (2 ^ 61))
    (lasts_is : lasts ≡ open_for (may_of c) at (time + own_of c)) where
  abbrev mask : ℕ → ℕ
  mask = mask_since (Some c.schedule.now) 0 None

  abbrev steps : ℕ
  steps = (lasts - own_of c) / c.pitch

  whole : steps * c.pitch ≤ lasts - own_of c
  whole = div-mul-le_self (lasts - own_of c) c.pitch

  within : lasts ≤ time + own_of c
  within = (let le = opens_for.within mask c.class at (time + own_of c) in omega (arith, le, lasts_is))

  pub few : steps ≤ most
  few =
      let m : ℕ = min most (2 ^ 62) in
      let one : (m + 1) * c.pitch ≡ m * c.pitch + c.pitch = grind arith in
      let in_it = within in
      let some = place.stepped in
      let less : steps < m + 1 = (div-lt_iff_lt-mul some).1
      (let l : lasts - own_of c < (m + 1) * c.pitch = omega (arith, one, in_it, some, time_is) in l) in
      omega (arith, less)

  pub near : steps * c.pitch ≤ 2 ^ 61
  near = (let all = whole in let in_it = within in omega (arith, all, in_it, time_is))

  pub opened : 0 < steps → may_of c at (steps * c.pitch + own_of c) ≡ true
  opened more =
      let all = whole in
      let some = place.stepped in
      let one : 1 * c.pitch ≤ steps * c.pitch = mul-le-mul_right c.pitch more in
      open_within mask c.class at lasts at (steps * c.pitch + own_of c)
      (subst (λ d. may_of c at d ≡ true) (sym lasts_is) (opens_for.opened mask c.class at (time + own_of c))) (le_refl at)
      (omega (arith, all, one, some))

  pub none : steps ≡ 0 → 0 < most → may_of c at (c.pitch + own_of c) ≡ false
  none zero_steps some = elim (cases_Bool (may_of c at (c.pitch + own_of c))) [
    | inr not_so ↦ not_so
    | inl holds ↦
        let m : ℕ = min most (2 ^ 62) in
        let one : 1 * c.pitch ≤ m * c.pitch = mul-le-mul_right c.pitch (let l : 1 ≤ m = omega (arith, some) in l) in
        let short = place.pitch in
        let fits = opens_for.most mask c.class at (time + own_of c) (c.pitch + own_of c) (omega (arith, one, short, time_is)) holds in
        let less : lasts - own_of c < 1 * c.pitch = (div-lt_iff_lt-mul place.stepped).0 (let l : steps < 1 = omega (arith, zero_steps) in l) in
        absurd (omega (arith, fits, lasts_is, less))
  ]

-- as many as fit into a time
pub by_time : (pitch time steps : ℕ) → 0 < pitch → steps ≤ time / pitch → steps * pitch ≤ time
by_time pitch time steps some le = (le-div_iff_mul-le some).0 le

pub some_time : (pitch time : ℕ) → 0 < pitch → pitch ≤ time → 0 < time / pitch
some_time pitch time some le = (le-div_iff_mul-le some).1 (let l : 1 * pitch ≤ time = omega (arith, le) in l)

pub some_step : (pitch steps : ℕ) → 0 < pitch → 0 < steps → 0 < steps * pitch
some_step pitch steps some more = (let one : 1 * pitch ≤ steps * pitch = mul-le-mul_right pitch more in omega (arith, one, some))
