-- While the gates stay as they are.
use Rattle.std.proofs.Common.{◌≡◌, ◌<◌, ◌≤◌, ℕ, ◌+◌, ◌-◌, Bool, true, false, not, Some, inl, inr, sym, ap, ◌∙◌, subst, arith, le_refl}
use Rattle.std.proofs.lemmas.Bool.{both_ways, cases_Bool, cases_lt, and_parts}
use Rattle.gates.specs.Gate.{opens}
use Rattle.gates.specs.Open.{open_while}
use Rattle.gates.proofs.OpenLaws.{open_at, open_from}
use Rattle.jumping.specs.Position.{IsFlat}
use Rattle.any_traffic.specs.SharedSlots.{is_opening}

pub flat_on : (mask : ℕ → ℕ) (n u : ℕ) → IsFlat mask n (Some u) → (m : ℕ) → n ≤ m → m < u → mask m ≡ mask n
flat_on mask n u flat m from below = flat.same m from (λ w e. (let same : u ≡ w = cc in omega (arith, same, below)))

module _ (mask : ℕ → ℕ) (class : ℕ) where
  abbrev may : ℕ → ℕ → Bool
  may = open_while mask class

  -- what is open at the first moment stays so
  pub stays_on : (from at end : ℕ) → from ≤ at → ((m : ℕ) → at ≤ m → m < end → mask m ≡ mask at) → may from (at - from) ≡ true
      → may at 1 ≡ true → may from (end - from) ≡ true
  stays_on from at end le same before here = open_from mask class from (end - from) (λ n low high. elim (cases_lt n at) [
    | inl early ↦ open_at mask class from (at - from) before n low (omega (arith, early, le))
    | inr late ↦ subst (λ m. opens m class ≡ true) (sym (same n late (omega (arith, high, low))))
        (open_at mask class at 1 here at (le_refl at) (omega arith))
  ])

  module _ (own : ℕ) (blocking : ℕ → ℕ) (some : 0 < own) where
    -- no gate opens
    pub none_opens : (at end : ℕ) → ((m : ℕ) → at ≤ m → m < end → mask m ≡ mask at) → (u : ℕ) → at < u → u < end
        → is_opening may own blocking u ≡ false
    none_opens at end same u after before = elim (cases_Bool (is_opening may own blocking u)) [
      | inr not_so ↦ not_so
      | inl holds ↦
          let parts = and_parts _ _ holds in
          let now : opens (mask u) class ≡ true = open_at mask class u (blocking u + own) parts.1 u (le_refl u) (omega (arith, some)) in
          let then : opens (mask (u - 1)) class ≡ true = subst (λ m. opens m class ≡ true)
          (same u (omega (arith, after)) before ∙ sym (same (u - 1) (omega (arith, after)) (omega (arith, before, after)))) now in
          let shown : may (u - 1) 1 ≡ true = open_from mask class (u - 1) 1 (λ n low high.
          subst (λ k. opens (mask k) class ≡ true) (let e : u - 1 ≡ n = omega (arith, low, high) in e) then) in
          absurd (both_ways _ (ap not shown) parts.0)
    ]
