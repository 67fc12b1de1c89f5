-- An axis has two ticks.
use Rattle.std.proofs.Common.{◌≡◌, ◌<◌, ◌≤◌, ◌⊎◌, ℕ, zero, suc, ◌+◌, ◌-◌, ◌*◌, ◌/◌, ◌%◌, min, inl, inr, refl, sym, ap, subst, arith, mod-lt, if◌then◌else◌}
use Rattle.std.proofs.lemmas.Bool.{cases_lt, le-leb, lt-leb, le-ltb, lt-ltb}
use Rattle.std.proofs.lemmas.Nat.{div-add-mod', le-div}
use Rattle.picture.specs.Ticks.{tick}
unfoldable use Rattle.drawing.specs.Axis.{step_from}
use Rattle.drawing.specs.Axis.{axis_step, first_tick, last_tick, roomy_step, step_for, two_or}
use Rattle.drawing.specs.declared.page.Page.{Page}
use Rattle.drawing.proofs.TextLaws.{late, step_here, step_last, step_on}

-- 1. A step of which five are as long as a time, where one less far on is not

grows : (n : ℕ) → 2 * tick (suc n) ≤ 5 * tick n
unfolding tick
grows zero = omega arith
grows (suc zero) = omega arith
grows (suc (suc zero)) = omega arith
grows (suc (suc (suc n))) = let before = grows n in omega (arith, before)

grows_on : (n : ℕ) → 2 * tick (n + 1) ≤ 5 * tick n
grows_on n = let same : suc n ≡ n + 1 = omega arith in subst (λ k. 2 * tick k ≤ 5 * tick n) same (grows n)

abbrev IsFine : ℕ → ℕ → Type 0
IsFine length step = (step ≡ 1) ⊎ (2 * step ≤ length)

fine_from : (tries place length : ℕ) → IsFine length (tick place) → IsFine length (step_from tries place length 5)
fine_from zero place length fine = subst (IsFine length) (sym (step_last place length 5)) fine
fine_from (suc tries) place length fine = elim (cases_lt (tick place * 5) length) [
  | inl short ↦
      (let more = grows_on place in
      subst (IsFine length) (sym (step_on tries place length 5 (lt-leb _ _ short)))
      (fine_from tries (place + 1) length (inr (omega (arith, short, more)))))
  | inr enough ↦ subst (IsFine length) (sym (step_here tries place length 5 (le-leb _ _ enough))) fine
]

positive : (tries place length : ℕ) → 0 < step_from tries place length 5
positive zero place length = let more = late place in subst (λ n. 0 < n) (sym (step_last place length 5)) (omega (arith, more))
positive (suc tries) place length = elim (cases_lt (tick place * 5) length) [
  | inl short ↦ subst (λ n. 0 < n) (sym (step_on tries place length 5 (lt-leb _ _ short))) (positive tries (place + 1) length)
  | inr enough ↦ (let more = late place in subst (λ n. 0 < n) (sym (step_here tries place length 5 (le-leb _ _ enough))) (omega (arith, more)))
]

-- 2. Two multiples

times : (q n s : ℕ) → (q + n) * s ≡ q * s + n * s
times zero n s = omega arith
times (suc q) n s = let before = times q n s in omega (arith, before)

-- two multiples of a step lie in a time of which it is the half at most, or a unit
two_in : (s from upto : ℕ) → 0 < s → from < upto → IsFine (upto - from) s → from / s + min 1 (from % s) < upto / s
two_in s from upto some before fine = either fine
  where
    whole : from / s * s + from % s ≡ from
    whole = div-add-mod' from s

    part : from % s < s
    part = mod-lt from some

    one : (from / s + 1) * s ≡ from / s * s + 1 * s
    one = times (from / s) 1 s

    two : (from / s + 2) * s ≡ from / s * s + 2 * s
    two = times (from / s) 2 s

    either : IsFine (upto - from) s → from / s + min 1 (from % s) < upto / s
    either (inl unit) = let l = le-div (from / s + 1) upto s some (omega (arith, one, whole, part, unit, before)) in omega (arith, l, part, unit)
    either (inr half) = let l = le-div (from / s + 2) upto s some (omega (arith, two, whole, part, half, before)) in omega (arith, l)

abbrev HasTwo : Page → ℕ → Type 0
HasTwo page step = first_tick page step < last_tick page step

either_has : (page : Page) (step other : ℕ) → HasTwo page other → HasTwo page (two_or page step other)
either_has page step other has = elim (cases_lt (first_tick page step) (last_tick page step)) [
  | inl two ↦ subst (HasTwo page) (sym (ap (λ b. if b then step else other) (lt-ltb _ _ two))) two
  | inr short ↦ subst (HasTwo page) (sym (ap (λ b. if b then step else other) (le-ltb _ _ short))) has
]

pub two_ticks : (page : Page) → page.viewport.from < page.viewport.to → page.origin ≤ page.viewport.from → first_tick page (axis_step page) < last_tick page (axis_step page)
unfolding tick
two_ticks page some behind =
    let length : ℕ = page.viewport.to - page.viewport.from in
    let from : ℕ = page.viewport.from - page.origin in
    let upto : ℕ = page.viewport.to - page.origin in
    let same : length ≡ upto - from = omega (arith, some, behind) in
    let fine = fine_from length 0 length (inl refl) in
    let last : HasTwo page (step_for page 5) = two_in (step_for page 5) from upto (positive length 0 length) (omega (arith, some, behind)) (subst (λ n. IsFine n (step_for page 5)) same fine) in
    either_has page (roomy_step page) _ (either_has page (step_for page 2) _ (either_has page (step_for page 3) _ (either_has page (step_for page 4) (step_for page 5) last)))
