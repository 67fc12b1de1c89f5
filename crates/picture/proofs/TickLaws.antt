-- The steps of a time axis, tried three at a time.
use Rattle.std.proofs.Common.{◌≡◌, ◌<◌, ◌≤◌, ℕ, suc, ◌+◌, ◌*◌, ◌^◌, inl, inr, refl, sym, ap, ◌∙◌, subst, arith}
use Rattle.std.proofs.Math.Nat.{le-mul_of_pos_right, mul-le-mul}
use Rattle.std.proofs.lemmas.Bool.{cases_lt}
use Rattle.picture.specs.Words.{greatest_moment}
use Rattle.picture.specs.Ticks.{tick}

-- no step before is long enough; the step is a power of ten
pub record Stepped (length most step : ℕ) : Type 0 where
  pub place : ℕ
  pub is : step ≡ tick place
  pub second : 2 * step ≡ tick (place + 1)
  pub third : 5 * step ≡ tick (place + 2)
  pub some : 0 < step
  pub within : step ≤ 2 * length + 1
  pub least : (i : ℕ) → i < place → tick i * most < length

pub tick_on : (n k : ℕ) → k ≡ n + 3 → tick k ≡ 10 * tick n
unfolding tick
tick_on n k e = let three : k ≡ suc (suc (suc n)) = omega (arith, e) in ap tick three

pub first_steps : (length most : ℕ) → Stepped length most 1
unfolding tick
first_steps length most = record { place = 0; is = refl; second = refl; third = refl; some = omega arith; within = omega arith; least = λ i below. absurd (omega arith) }

-- ten times the step, where not even five times is enough
pub next_steps : (length most step : ℕ) → 0 < most → Stepped length most step → step * most < length → 2 * step * most < length → 5 * step * most < length → Stepped length most (10 * step)
next_steps length most step some s one two five =
    record {
      place = s.place + 3;
      is = ap (λ n. 10 * n) s.is ∙ sym (tick_on s.place (s.place + 3) refl);
      second = (let e : 2 * (10 * step) ≡ 10 * (2 * step) = omega arith in e) ∙ ap (λ n. 10 * n) s.second ∙ sym (tick_on (s.place + 1) (s.place + 3 + 1) (omega arith));
      third = (let e : 5 * (10 * step) ≡ 10 * (5 * step) = omega arith in e) ∙ ap (λ n. 10 * n) s.third ∙ sym (tick_on (s.place + 2) (s.place + 3 + 2) (omega arith));
      some = omega (arith, s.some);
      within = (let many : 5 * step ≤ 5 * step * most = le-mul_of_pos_right (5 * step) some in omega arith);
      least = λ i below. elim (cases_lt i s.place) [
        | inl before ↦ s.least i before
        | inr at ↦ elim (cases_lt i (s.place + 1)) [
          | inl first ↦ (let e : s.place ≡ i = omega arith in subst (λ t. t * most < length) (s.is ∙ ap tick e) one)
          | inr after ↦ elim (cases_lt i (s.place + 2)) [
            | inl second ↦ (let e : s.place + 1 ≡ i = omega arith in subst (λ t. t * most < length) (s.second ∙ ap tick e) two)
            | inr last ↦ (let e : s.place + 2 ≡ i = omega arith in subst (λ t. t * most < length) (s.third ∙ ap tick e) five)
          ]
        ]
      ];
    }

-- so many steps fit
pub steps_fit : (step most : ℕ) → step ≤ 2 * greatest_moment + 1 → most < 2 ^ 32 → step * most < 2 ^ 128
steps_fit step most l m =
    let p : step * most ≤ (2 * greatest_moment + 1) * 2 ^ 32 = mul-le-mul l (let le : most ≤ 2 ^ 32 = omega arith in le) in
    omega arith
