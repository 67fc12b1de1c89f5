-- From one moment to the next slots stay, or move with it, or jump: only where a window ends right behind frames that are sent one behind
-- another from the first moment on.
use Rattle.std.proofs.Common.{◌≡◌, ◌<◌, ◌≤◌, ◌⊎◌, ℕ, zero, suc, ◌+◌, ◌-◌, ◌*◌, Bool, true, false, inl, inr, sym, ap, ◌∙◌, subst, arith, le_refl}
use Rattle.std.proofs.lemmas.Bool.{both_ways, cases_Bool, cases_lt}
use Rattle.gates.specs.Gate.{Plan}
use Rattle.abstract_port.specs.Served.{IsFirst}
use Rattle.delay_bounds.specs.Walk.{may_by}
use Rattle.delay_bounds.proofs.WaitLaws.{one_first}
use Rattle.any_traffic.specs.BusyPeriod.{IsBusyPeriod}
use Rattle.any_traffic.specs.Slots.{IsSlot}
use Rattle.burst_bounds.specs.Walk.{AreBoundsFrom}
use Rattle.burst_bounds.proofs.AlikeLaws.{next_fits, one_behind_another}
use Rattle.any_traffic.proofs.SlotLaws.{one_slot, slot_exists, slot_last, sooner}

-- Frames can be sent one behind another from a moment on, k behind the first; but not right behind the last of these moments.
pub record Closes (may : ℕ → ℕ → Bool) (d t k : ℕ) : Type 0 where
  pub row : (j : ℕ) → j ≤ k → may (t + j * d) d ≡ true
  pub shut : may (t + k * d + 1) d ≡ false

-- so it is for one of the first
pub record IsCritical (may : ℕ → ℕ → Bool) (d t n : ℕ) : Type 0 where
  pub k : ℕ
  pub within : k ≤ n
  pub closes : Closes may d t k

-- slots move with the moment
record IsAligned (may : ℕ → ℕ → Bool) (d t n : ℕ) : Type 0 where
  row : (j : ℕ) → j ≤ n → may (t + j * d) d ≡ true
  moves : may (t + n * d + 1) d ≡ true

-- or stay
record IsCalm (may : ℕ → ℕ → Bool) (d t n : ℕ) : Type 0 where
  stays : (u v : ℕ) → IsSlot may d t n u → IsSlot may d (t + 1) n v → v ≤ u

-- none of the first slots is later by more than the moment is
pub record NoJump (may : ℕ → ℕ → Bool) (d t n : ℕ) : Type 0 where
  pub near : (m u v : ℕ) → m ≤ n → IsSlot may d t m u → IsSlot may d (t + 1) m v → v ≤ u + 1

module _ (plan : Plan) (class d : ℕ) (above : 0 < d) where
  abbrev may : ℕ → ℕ → Bool
  may = may_by plan class

  -- a first moment behind one that doesn't fit
  first_behind : (t s : ℕ) → may t d ≡ false → IsFirst may d t s → IsFirst may d (t + 1) s
  first_behind t s shut h =
      let from = h.from in
      record {
        from = elim (cases_lt t s) [
          | inl less ↦ omega (arith, less)
          | inr here ↦ (let e : s ≡ t = omega (arith, here, from) in absurd (both_ways _ shut (subst (λ k. may k d ≡ true) e h.fits)))
        ];
        fits = h.fits;
        least = λ m after below. h.least m (omega (arith, after)) below;
      }

  begin : (t : ℕ) → IsCritical may d t 0 ⊎ (IsAligned may d t 0 ⊎ IsCalm may d t 0)
  begin t = elim (cases_Bool (may t d)) [
    | inr shut ↦ inr (inr (record {
      stays = λ u v a b.
          (let same = one_first may d (t + 1) u v (first_behind t u shut a) b in omega (arith, same));
    }))
    | inl fits ↦
        let at : t + 0 * d ≡ t = omega arith in
        let row : (j : ℕ) → j ≤ 0 → may (t + j * d) d ≡ true = λ j le. subst (λ k. may k d ≡ true)
        (let e : t ≡ t + j * d = (let z : j ≡ 0 = omega (arith, le) in sym at ∙ ap (λ i. t + i * d) (sym z)) in e) fits in
        elim (cases_Bool (may (t + 0 * d + 1) d)) [
          | inl moves ↦ inr (inl (record { row = row; moves = moves }))
          | inr shut ↦ inl (record { k = 0; within = omega arith; closes = record { row = row; shut = shut } })
        ]
  ]

  -- the row from the next moment on
  moved_row : (t n : ℕ) → IsAligned may d t n → (j : ℕ) → j ≤ n → may (t + 1 + j * d) d ≡ true
  moved_row t n h j le = elim (cases_lt j n) [
    | inl less ↦
        let on : t + suc j * d ≡ t + j * d + d = grind arith in
        let at : t + j * d + 1 ≡ t + 1 + j * d = omega arith in
        subst (λ k. may k d ≡ true) at (next_fits plan class d (t + j * d) above (h.row j le)
        (subst (λ k. may k d ≡ true) on (h.row (suc j) (omega (arith, less)))))
    | inr last ↦
        let same : n ≡ j = omega (arith, last, le) in
        let at : t + n * d + 1 ≡ t + 1 + n * d = omega arith in
        subst (λ i. may (t + 1 + i * d) d ≡ true) same (subst (λ k. may k d ≡ true) at h.moves)
  ]

  behind_aligned : (t n : ℕ) → IsAligned may d t n → IsCritical may d t (suc n) ⊎ (IsAligned may d t (suc n) ⊎ IsCalm may d t (suc n))
  behind_aligned t n h = elim (cases_Bool (may (t + suc n * d) d)) [
    | inl fits ↦
        let row : (j : ℕ) → j ≤ suc n → may (t + j * d) d ≡ true = λ j le. elim (cases_lt j (suc n)) [
          | inl less ↦ h.row j (omega (arith, less))
          | inr last ↦ subst (λ i. may (t + i * d) d ≡ true) (let e : suc n ≡ j = omega (arith, last, le) in e) fits
        ] in
        elim (cases_Bool (may (t + suc n * d + 1) d)) [
          | inl moves ↦ inr (inl (record { row = row; moves = moves }))
          | inr shut ↦ inl (record { k = suc n; within = omega arith; closes = record { row = row; shut = shut } })
        ]
    | inr shut ↦ inr (inr (record { stays = λ u v a b. calm u v shut a b }))
  ]
    where
      calm : (u v : ℕ) → may (t + suc n * d) d ≡ false → IsSlot may d t (suc n) u → IsSlot may d (t + 1) (suc n) v → v ≤ u
      calm u v shut a b =
          let old = slot_last may d t n u a in
          let new = slot_last may d (t + 1) n v b in
          let one = one_slot may d t n old.0 (t + n * d) old.1 (one_behind_another plan class d n t (λ j le. h.row j le)) in
          let two = one_slot may d (t + 1) n new.0 (t + 1 + n * d) new.1
          (one_behind_another plan class d n (t + 1) (λ j le. moved_row t n h j le)) in
          let on : t + suc n * d ≡ t + n * d + d = grind arith in
          let at : old.0 + d ≡ t + suc n * d = omega (arith, one, on) in
          let to : new.0 + d ≡ t + suc n * d + 1 = omega (arith, two, on) in
          let first = first_behind (t + suc n * d) u shut (subst (λ k. IsFirst may d k u) at old.2) in
          let same = one_first may d (t + suc n * d + 1) u v first (subst (λ k. IsFirst may d k v) to new.2) in
          omega (arith, same)

  behind_calm : (t n : ℕ) → IsCalm may d t n → IsCalm may d t (suc n)
  behind_calm t n h = record {
    stays = λ u v a b.
        let old = slot_last may d t n u a in
        let new = slot_last may d (t + 1) n v b in
        let le = h.stays old.0 new.0 old.1 new.1 in
        let s = sooner may d (new.0 + d) (old.0 + d) u (omega (arith, le)) old.2 in
        let same = one_first may d (new.0 + d) s.0 v s.1 new.2 in
        let up = s.2 in
        omega (arith, same, up);
  }

  more_critical : (t n : ℕ) → IsCritical may d t n → IsCritical may d t (suc n)
  more_critical t n h = (let le = h.within in record { k = h.k; within = omega (arith, le); closes = h.closes })

  state : (t n : ℕ) → IsCritical may d t n ⊎ (IsAligned may d t n ⊎ IsCalm may d t n)
  state t zero = begin t
  state t (suc n) = go (state t n)
    where
      go : IsCritical may d t n ⊎ (IsAligned may d t n ⊎ IsCalm may d t n)
          → IsCritical may d t (suc n) ⊎ (IsAligned may d t (suc n) ⊎ IsCalm may d t (suc n))
      go (inl critical) = inl (more_critical t n critical)
      go (inr (inl aligned)) = behind_aligned t n aligned
      go (inr (inr calm)) = inr (inr (behind_calm t n calm))

  -- the slot behind n others, where it isn't critical
  near_by : (t n u v : ℕ) → IsAligned may d t n ⊎ IsCalm may d t n → IsSlot may d t n u → IsSlot may d (t + 1) n v → v ≤ u + 1
  near_by t n u v (inl h) a b =
      let one = one_slot may d t n u (t + n * d) a (one_behind_another plan class d n t (λ j le. h.row j le)) in
      let two = one_slot may d (t + 1) n v (t + 1 + n * d) b (one_behind_another plan class d n (t + 1) (λ j le. moved_row t n h j le)) in
      omega (arith, one, two)
  near_by t n u v (inr h) a b = (let le = h.stays u v a b in omega (arith, le))

  -- up to any slot: one before it is critical, or none jumps
  pub jumps : (t n : ℕ) → IsCritical may d t n ⊎ NoJump may d t n
  jumps t zero = go (state t 0)
    where
      go : IsCritical may d t 0 ⊎ (IsAligned may d t 0 ⊎ IsCalm may d t 0) → IsCritical may d t 0 ⊎ NoJump may d t 0
      go (inl critical) = inl critical
      go (inr rest) = inr (record {
        near = λ m u v le a b. (let z : m ≡ 0 = omega (arith, le) in near_by t 0 u v rest (subst (λ k. IsSlot may d t k u) z a)
            (subst (λ k. IsSlot may d (t + 1) k v) z b));
      })
  jumps t (suc n) = go (jumps t n) (state t (suc n))
    where
      go : IsCritical may d t n ⊎ NoJump may d t n → IsCritical may d t (suc n) ⊎ (IsAligned may d t (suc n) ⊎ IsCalm may d t (suc n))
          → IsCritical may d t (suc n) ⊎ NoJump may d t (suc n)
      go (inl critical) s = inl (more_critical t n critical)
      go (inr none) (inl critical) = inl critical
      go (inr none) (inr rest) = inr (record {
        near = λ m u v le a b. elim (cases_lt m (suc n)) [
          | inl less ↦ none.near m u v (omega (arith, less)) a b
          | inr last ↦
              let z : m ≡ suc n = omega (arith, last, le) in
              near_by t (suc n) u v rest (subst (λ k. IsSlot may d t k u) z a) (subst (λ k. IsSlot may d (t + 1) k v) z b)
        ];
      })

  -- ---- bounds go on from a moment to the next

  module _ (curve : ℕ → ℕ) (rises : (x y : ℕ) → x ≤ y → curve x ≤ curve y) (wait most : ℕ) (there : (t : ℕ)
      → (s : ℕ) × IsFirst may d t s) where
    soon_on : (t x : ℕ) → NoJump may d t (curve x - 1) → (s : ℕ) × IsSlot may d t (curve x - 1) s × (s ≤ t + x + wait)
        → (s : ℕ) × IsSlot may d (t + 1) (curve x - 1) s × (s ≤ t + 1 + x + wait)
    soon_on t x none h =
        let new = slot_exists may d there (t + 1) (curve x - 1) in
        let up = none.near (curve x - 1) h.0 new.0 (le_refl (curve x - 1)) h.1 new.1 in
        let bound = h.2 in
        (new.0, new.1, omega (arith, up, bound))

    few_on : (t x m s : ℕ) → NoJump may d t m → IsSlot may d (t + 1) m s → t + 1 + x ≤ s
        → ((r : ℕ) → IsSlot may d t m r → t + x ≤ r → curve x ≤ m + most) → curve x ≤ m + most
    few_on t x m s none slot after few =
        let old = slot_exists may d there t m in
        let up = none.near m old.0 s (le_refl m) old.1 slot in
        few old.0 old.1 (omega (arith, up, after))

    fewer : (t n m : ℕ) → m ≤ n → NoJump may d t n → NoJump may d t m
    fewer t n m le h = record { near = λ k u v less a b. h.near k u v (omega (arith, less, le)) a b }

    pub busy_on : (t : ℕ) → (b : IsBusyPeriod plan class d curve wait most t) → NoJump may d t (curve b.last)
        → IsBusyPeriod plan class d curve wait most (t + 1)
    busy_on t b none =
        let new = slot_exists may d there (t + 1) (curve b.last - 1) in
        let up = none.near (curve b.last - 1) b.slot new.0 (omega arith) b.is new.1 in
        let ends = b.ends in
        record {
          last = b.last;
          slot = new.0;
          is = new.1;
          ends = omega (arith, up, ends);
          soon = λ x le. (let r = rises x b.last le in soon_on t x (fewer t (curve b.last) (curve x - 1) (omega (arith, r)) none)
              (b.soon x le));
          few = λ x m s le slot after. (let r = rises x b.last le in elim (cases_lt m (curve b.last)) [
            | inl less ↦ few_on t x m s (fewer t (curve b.last) m (omega (arith, less)) none) slot after
                (λ q old first. b.few x m q le old first)
            | inr many ↦ omega (arith, many, r)
          ]);
        }

    pub for_ever_on : (t : ℕ) → AreBoundsFrom plan class d curve wait most t → ((n : ℕ) → NoJump may d t n)
        → AreBoundsFrom plan class d curve wait most (t + 1)
    for_ever_on t h none = record {
      soon = λ x. soon_on t x (none (curve x - 1)) (h.soon x);
      few = λ x m s slot after. few_on t x m s (none m) slot after (λ q old first. h.few x m q old first);
    }
