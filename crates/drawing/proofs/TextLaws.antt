-- The texts of numbers and of shapes one after another, and the steps of an axis.
use Rattle.std.proofs.Common.{◌≡◌, ◌<◌, ◌≤◌, ℕ, zero, suc, ◌+◌, ◌-◌, ◌*◌, ◌++◌, ◌||◌, true, false, List, [], Option, inl, inr, refl, sym, ap, ◌∙◌, subst, arith, if◌then◌else◌, nat_le}
use Rattle.std.proofs.lemmas.Bool.{cases_lt, le-leb, lt-leb}
use Rattle.std.proofs.Math.Nat.{le-mul_of_pos_right}
use Rattle.picture.specs.Drawn.{Drawing}
use Rattle.picture.specs.Ticks.{IsTickStep, tick}
use Rattle.text.specs.Writes.{Sent}
use Rattle.drawing.specs.Axis.{step_of}
unfoldable use Rattle.drawing.specs.Axis.{each, step_from}
use Rattle.drawing.specs.Picture.{is_mixed}
unfoldable use Rattle.drawing.specs.Picture.{some_mixed}
use Rattle.drawing.specs.declared.page.Page.{Page}

-- 1. One number more, and none

pub each_next : (text : ℕ → List ℕ) (at n : ℕ) → each text at (suc n) ≡ text at ++ each text (at + 1) n
unfolding each
each_next text at n = refl

pub each_last : (text : ℕ → List ℕ) (at : ℕ) → each text at zero ≡ []
unfolding each
each_last text at = refl

pub each_more : (text : ℕ → List ℕ) (at upto : ℕ) → at < upto → each text at (upto - at) ≡ text at ++ each text (at + 1) (upto - (at + 1))
each_more text at upto before = let e : upto - at ≡ suc (upto - (at + 1)) = omega (arith, before) in ap (each text at) e ∙ each_next text at (upto - (at + 1))

pub each_none : (text : ℕ → List ℕ) (at upto : ℕ) → upto ≤ at → each text at (upto - at) ≡ []
each_none text at upto past = let e : upto - at ≡ 0 = omega (arith, past) in ap (each text at) e ∙ each_last text at

pub mixed_next : (page : Page) (bands : Drawing) (at n : ℕ) → some_mixed page bands at (suc n) ≡ (is_mixed page bands at || some_mixed page bands (at + 1) n)
unfolding some_mixed
mixed_next page bands at n = refl

pub mixed_last : (page : Page) (bands : Drawing) (at : ℕ) → some_mixed page bands at zero ≡ false
unfolding some_mixed
mixed_last page bands at = refl

pub mixed_more : (page : Page) (bands : Drawing) (at upto : ℕ) → at < upto → some_mixed page bands at (upto - at) ≡ (is_mixed page bands at || some_mixed page bands (at + 1) (upto - (at + 1)))
mixed_more page bands at upto before = let e : upto - at ≡ suc (upto - (at + 1)) = omega (arith, before) in ap (some_mixed page bands at) e ∙ mixed_next page bands at (upto - (at + 1))

pub mixed_none : (page : Page) (bands : Drawing) (at upto : ℕ) → upto ≤ at → some_mixed page bands at (upto - at) ≡ false
mixed_none page bands at upto past = let e : upto - at ≡ 0 = omega (arith, past) in ap (some_mixed page bands at) e ∙ mixed_last page bands at

-- what is still to come, said otherwise
pub sent_as : {a b : Option (List ℕ)} {text left : List ℕ} (other : List ℕ) → left ≡ other → Sent a b text left → Sent a b text other
sent_as other same s = record { done = s.done; appended = s.appended; parts = s.parts ∙ ap (λ l. s.done ++ l) same }

-- 2. Steps

-- a step is longer than there are steps before it
pub late : (n : ℕ) → n < tick n
unfolding tick
late zero = omega arith
late (suc zero) = omega arith
late (suc (suc zero)) = omega arith
late (suc (suc (suc n))) = let before = late n in omega (arith, before)

pub step_last : (place length most : ℕ) → step_from zero place length most ≡ tick place
unfolding step_from
step_last place length most = refl

pub step_here : (tries place length most : ℕ) → nat_le length (tick place * most) ≡ true → step_from (suc tries) place length most ≡ tick place
unfolding step_from
step_here tries place length most enough = ap (λ b. if b then tick place else step_from tries (place + 1) length most) enough

pub step_on : (tries place length most : ℕ) → nat_le length (tick place * most) ≡ false → step_from (suc tries) place length most ≡ step_from tries (place + 1) length most
unfolding step_from
step_on tries place length most short = ap (λ b. if b then tick place else step_from tries (place + 1) length most) short

module _ (length most step : ℕ) (s : IsTickStep length most step) where
  is_enough : length ≤ tick s.place * most
  is_enough = subst (λ n. length ≤ n * most) s.is s.enough

  at_place : (at : ℕ) → at ≤ s.place → length ≤ tick at * most → at ≡ s.place
  at_place at before enough = elim (cases_lt at s.place) [
    | inl earlier ↦ let short = s.least at earlier in absurd (omega (arith, short, enough))
    | inr late ↦ omega (arith, before, late)
  ]

  not_yet : (at : ℕ) → at ≤ s.place → tick at * most < length → at < s.place
  not_yet at before short = elim (cases_lt at s.place) [
    | inl earlier ↦ earlier
    | inr late ↦ let same : s.place ≡ at = omega (arith, before, late) in
        let enough : length ≤ tick at * most = subst (λ n. length ≤ tick n * most) same is_enough in absurd (omega (arith, short, enough))
  ]

  found : (tries at : ℕ) → at ≤ s.place → s.place ≤ at + tries → step_from tries at length most ≡ tick s.place
  found zero at before near = let same : at ≡ s.place = omega (arith, before, near) in step_last at length most ∙ ap tick same
  found (suc tries) at before near = elim (cases_lt (tick at * most) length) [
    | inl short ↦ let on = not_yet at before short in step_on tries at length most (lt-leb _ _ short) ∙ found tries (at + 1) (omega (arith, on)) (omega (arith, near))
    | inr enough ↦ step_here tries at length most (le-leb _ _ enough) ∙ ap tick (at_place at before enough)
  ]

  within : 0 < most → (n : ℕ) → s.place ≡ n → n ≤ length
  within some zero e = omega arith
  within some (suc n) e = let short = s.least n (omega (arith, e)) in let long = late n in let more : tick n ≤ tick n * most = le-mul_of_pos_right (tick n) some in omega (arith, short, long, more)

  pub step_some : 0 < step
  step_some = let more = late s.place in subst (λ n. 0 < n) (sym s.is) (omega (arith, more))

  -- the step that is found is the first that is long enough
  pub step_found : 0 < most → step ≡ step_of length most
  step_found some = s.is ∙ sym (found length 0 (omega arith) (let few = within some s.place refl in omega (arith, few)))
