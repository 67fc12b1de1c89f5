-- The lesser of a limit and the time for which a gate stays open.
use Rattle.std.proofs.Common.{◌≡◌, ◌≤◌, ◌⊎◌, ℕ, zero, suc, ◌+◌, ◌-◌, Bool, true, false, cond, inl, inr, refl, sym, ap, subst, arith, le_refl}
use Rattle.std.proofs.lemmas.Bool.{both_ways, cases_Bool, cases_lt}
use Rattle.gates.specs.Open.{open_while}
use Rattle.gates.proofs.OpenLaws.{open_within}
use Rattle.shared_bounds.specs.Blocking.{open_for}

module _ (mask : ℕ → ℕ) (class : ℕ) where
  abbrev may : ℕ → ℕ → Bool
  may = open_while mask class

  pub none_open : (u : ℕ) → may u 0 ≡ true
  unfolding open_while
  none_open u = refl

  pub within : (u limit : ℕ) → open_for may u limit ≤ limit
  unfolding open_for
  within u zero = omega arith
  within u (suc l) = (let rest = within u l in elim (cases_Bool (may u (suc l))) [
    | inl holds ↦ (let is = ap (λ b. cond b (suc l) (open_for may u l)) holds in omega (arith, is))
    | inr not_so ↦ (let is = ap (λ b. cond b (suc l) (open_for may u l)) not_so in omega (arith, is, rest))
  ])

  pub opened : (u limit : ℕ) → may u (open_for may u limit) ≡ true
  unfolding open_for
  opened u zero = none_open u
  opened u (suc l) = (let rest = opened u l in elim (cases_Bool (may u (suc l))) [
    | inl holds ↦ subst (λ r. may u r ≡ true) (sym (ap (λ b. cond b (suc l) (open_for may u l)) holds)) holds
    | inr not_so ↦ subst (λ r. may u r ≡ true) (sym (ap (λ b. cond b (suc l) (open_for may u l)) not_so)) rest
  ])

  pub most : (u limit r : ℕ) → r ≤ limit → may u r ≡ true → r ≤ open_for may u limit
  unfolding open_for
  most u zero r le stays = omega (arith, le)
  most u (suc l) r le stays = elim (cases_Bool (may u (suc l))) [
    | inl holds ↦ (let is = ap (λ b. cond b (suc l) (open_for may u l)) holds in omega (arith, is, le))
    | inr not_so ↦
        let is = ap (λ b. cond b (suc l) (open_for may u l)) not_so in
        elim (cases_lt r (suc l)) [
          | inl less ↦ (let rest = most u l r (omega (arith, less)) stays in omega (arith, is, rest))
          | inr all ↦
              let same : r ≡ suc l = omega (arith, all, le) in
              absurd (both_ways _ not_so (subst (λ k. may u k ≡ true) same stays))
        ]
  ]

  pub is_it : (u limit r : ℕ) → r ≤ limit → may u r ≡ true → (r ≡ limit) ⊎ (may u (r + 1) ≡ false) → open_for may u limit ≡ r
  is_it u limit r le stays last =
      let low = most u limit r le stays in
      let high = within u limit in
      elim (cases_lt r (open_for may u limit)) [
        | inr no_more ↦ omega (arith, low, no_more)
        | inl more ↦ elim last [
          | inl all ↦ omega (arith, high, more, all)
          | inr shut ↦ absurd (both_ways _ shut
              (open_within mask class u (open_for may u limit) u (r + 1) (opened u limit) (le_refl u) (omega (arith, more))))
        ]
      ]

  -- one that is shut at a moment stays open no longer than up to there
  pub shorter : (from at : ℕ) → from ≤ at → may at 1 ≡ false → may from (at - from + 1) ≡ false
  shorter from at le shut = elim (cases_Bool (may from (at - from + 1))) [
    | inr not_so ↦ not_so
    | inl holds ↦ absurd (both_ways _ shut
        (open_within mask class from (at - from + 1) at 1 holds le (omega (arith, le))))
  ]
