-- Moments from which the slots are alike, and what so holds from one that holds from the other.
use Rattle.std.proofs.Common.{◌≡◌, ◌<◌, ◌≤◌, ℕ, zero, suc, ◌+◌, ◌-◌, ◌*◌, Bool, true, Some, None, add-mul, inl, inr, sym, ap, ◌∙◌, subst, arith, le_refl}
use Rattle.std.proofs.lemmas.Bool.{cases_lt}
use Rattle.gates.specs.Gate.{Plan, mask_since}
use Rattle.gates.proofs.OpenLaws.{open_at, open_from}
use Rattle.abstract_port.specs.Served.{IsFirst}
use Rattle.delay_bounds.specs.ForEver.{Repeats}
use Rattle.delay_bounds.specs.Walk.{may_by}
use Rattle.any_traffic.specs.Slots.{IsSlot}
use Rattle.burst_bounds.specs.Good.{FitBefore, IsGood}
use Rattle.burst_bounds.specs.Reach.{IsIdleBy}
use Rattle.any_traffic.proofs.SlotLaws.{one_slot, slot_earlier, slot_later}
use Rattle.burst_bounds.proofs.SlotLaws.{slot_from}

-- the first slots from a moment on are those from another, so much apart
pub record AreAlike (may : ℕ → ℕ → Bool) (d n t u : ℕ) : Type 0 where
  pub there : (m a : ℕ) → m < n → IsSlot may d t m (t + a) → IsSlot may d u m (u + a)
  pub back : (m a : ℕ) → m < n → IsSlot may d u m (u + a) → IsSlot may d t m (t + a)

module _ (may : ℕ → ℕ → Bool) (d : ℕ) where
  pub turned : (n t u : ℕ) → AreAlike may d n t u → AreAlike may d n u t
  turned n t u h = record { there = h.back; back = h.there }

  pub joined : (n t u v : ℕ) → AreAlike may d n t u → AreAlike may d n u v → AreAlike may d n t v
  joined n t u v a b = record {
    there = λ m x less slot. b.there m x less (a.there m x less slot);
    back = λ m x less slot. a.back m x less
        (b.back m x less slot);
  }

  pub later_alike : (n t e : ℕ) → Repeats may e → AreAlike may d n t (t + e)
  later_alike n t e again = record {
    there = λ m a less slot. subst (IsSlot may d (t + e) m) (let at : t + a + e ≡ t + e + a = omega arith in at)
        (slot_later may d e t m (t + a) again slot);
    back = λ m a less slot. subst (IsSlot may d t m) (let at : t + e + a - e ≡ t + a = omega arith in at)
        (slot_earlier may d e t m (t + e + a) again slot).0;
  }

module _ (plan : Plan) (class d : ℕ) (curve : ℕ → ℕ) (rises : (x y : ℕ) → x ≤ y → curve x ≤ curve y) (some : (x : ℕ)
    → 0 < curve x) (wait most : ℕ) where
  abbrev may : ℕ → ℕ → Bool
  may = may_by plan class

  moved_soon : (n t u x : ℕ) → AreAlike may d n t u → curve x ≤ n → (s : ℕ) × IsSlot may d t (curve x - 1) s × (s ≤ t + x + wait)
      → (s : ℕ) × IsSlot may d u (curve x - 1) s × (s ≤ u + x + wait)
  moved_soon n t u x alike few h =
      let from = slot_from may d t (curve x - 1) h.0 h.1 in
      let at : h.0 ≡ t + (h.0 - t) = omega (arith, from) in
      let one = some x in
      let bound = h.2 in (
        u + (h.0 - t),
        alike.there (curve x - 1) (h.0 - t) (omega (arith, one, few)) (subst (IsSlot may d t (curve x - 1)) at h.1),
        omega
            (arith, bound, from),
      )

  moved_few : (n t u x m s : ℕ) → AreAlike may d n t u → m < n → IsSlot may d u m s → u + x ≤ s
      → ((r : ℕ) → IsSlot may d t m r → t + x ≤ r → curve x ≤ m + most) → curve x ≤ m + most
  moved_few n t u x m s alike less slot after few =
      let from = slot_from may d u m s slot in
      let at : s ≡ u + (s - u) = omega (arith, from) in
      few (t + (s - u)) (alike.back m (s - u) less (subst (IsSlot may d u m) at slot)) (omega (arith, after, from))

  pub idle_alike : (n t u : ℕ) → AreAlike may d n t u → IsIdleBy plan class d curve wait most t n
      → IsIdleBy plan class d curve wait most u n
  idle_alike n t u alike h =
      let b = h.time in
      let few = h.few in
      let one = some b.last in
      let from = slot_from may d t (curve b.last - 1) b.slot b.is in
      let at : b.slot ≡ t + (b.slot - t) = omega (arith, from) in
      let ends = b.ends in
      let within : (x : ℕ) → x ≤ b.last → curve x ≤ n = λ x le. (let up = rises x b.last le in omega (arith, up, few)) in
      record {
        time = record {
          last = b.last;
          slot = u + (b.slot - t);
          is = alike.there (curve b.last - 1) (b.slot - t) (omega (arith, one, few)) (subst (IsSlot may d t (curve b.last - 1)) at b.is);
          ends = omega (arith, ends, from);
          soon = λ x le. moved_soon n t u x alike (within x le) (b.soon x le);
          few = λ x m s le slot after. elim (cases_lt m n) [
            | inl less ↦ moved_few n t u x m s alike less slot after (λ r old there. b.few x m r le old there)
            | inr many ↦ (let w = within x le in omega (arith, w, many))
          ];
        };
        few = few;
      }

  pub good_alike : (t u : ℕ) → ((n : ℕ) → AreAlike may d n t u) → IsGood plan class d curve wait most t
      → IsGood plan class d curve wait most u
  good_alike t u alike (inl b) = inl (idle_alike (curve b.last) t u (alike (curve b.last))
      (record { time = b; few = le_refl (curve b.last) })).time
  good_alike t u alike (inr h) = inr (record {
    soon = λ x. moved_soon (curve x) t u x (alike (curve x)) (le_refl (curve x)) (h.soon x);
    few = λ x m s slot after. moved_few (suc m) t u x m s (alike (suc m)) (omega arith) slot after (λ r old there. h.few x m r old there);
  })

-- ---- frames one behind another in a window

module _ (plan : Plan) (class d : ℕ) where
  pub next_fits : (u : ℕ) → 0 < d → may_by plan class u d ≡ true → may_by plan class (u + d) d ≡ true → may_by plan class (u + 1) d ≡ true
  next_fits u above here behind = open_from (mask_since (Some plan) 0 None) class (u + 1) d (λ n from below. elim (cases_lt n (u + d)) [
    | inl before ↦ open_at (mask_since (Some plan) 0 None) class u d here n (omega (arith, from)) before
    | inr after ↦ open_at (mask_since (Some plan) 0 None) class (u + d) d behind n after (omega (arith, below, above))
  ])

  pub one_behind_another : (m t : ℕ) → ((j : ℕ) → j ≤ m → may_by plan class (t + j * d) d ≡ true)
      → IsSlot (may_by plan class) d t m (t + m * d)
  one_behind_another zero t each =
      let at : t + 0 * d ≡ t = omega arith in
      subst (IsFirst (may_by plan class) d t) (sym at)
      (record {
        from = le_refl t;
        fits = subst (λ k. may_by plan class k d ≡ true) at (each 0 (omega arith));
        least = λ k from below.
            absurd (omega (arith, from, below));
      })
  one_behind_another (suc m) t each =
      let at : t + 0 * d ≡ t = omega arith in
      let first : IsFirst (may_by plan class) d t t = record {
        from = le_refl t;
        fits = subst (λ k. may_by plan class k d ≡ true) at (each 0 (omega arith));
        least = λ k from below. absurd
            (omega (arith, from, below));
      } in
      let rest = one_behind_another m (t + d) (λ j le.
      (let e : t + suc j * d ≡ t + d + j * d = grind arith in subst (λ k. may_by plan class k d ≡ true) e
      (each (suc j) (omega (arith, le))))) in
      let last : t + d + m * d ≡ t + suc m * d = grind arith in
      (t, first, subst (IsSlot (may_by plan class) d (t + d) m) last rest)

  -- the first slots from two moments on are alike where from both frames can be sent one behind another
  pub rows_alike : (n t u : ℕ) → ((j : ℕ) → j < n → may_by plan class (t + j * d) d ≡ true)
      → ((j : ℕ) → j < n → may_by plan class (u + j * d) d ≡ true) → AreAlike (may_by plan class) d n t u
  rows_alike n t u a b = record {
    there = λ m x less slot. by t u m x less a b slot;
    back = λ m x less slot. by u t m x less b a slot;
  }
    where
      by : (v w m x : ℕ) → m < n → ((j : ℕ) → j < n → may_by plan class (v + j * d) d ≡ true)
          → ((j : ℕ) → j < n → may_by plan class (w + j * d) d ≡ true) → IsSlot (may_by plan class) d v m (v + x)
          → IsSlot (may_by plan class) d w m (w + x)
      by v w m x less a b slot =
          let same = one_slot (may_by plan class) d v m (v + x) (v + m * d) slot
          (one_behind_another m v (λ j le. a j (omega (arith, le, less)))) in
          subst (IsSlot (may_by plan class) d w m) (let e : w + m * d ≡ w + x = omega (arith, same) in e)
          (one_behind_another m w (λ j le. b j (omega (arith, le, less))))

  -- right behind the last moment from which k frames can be sent before the end of a window k - 1 can be
  pub row_before : (end k : ℕ) → 0 < d → FitBefore plan class d end k → (j : ℕ) → j + 1 < k
      → may_by plan class (end + 1 - k * d + j * d) d ≡ true
  row_before end k above fit j less =
      let i : ℕ = k - j in
      let far = fit i (omega (arith, less)) (omega arith) in
      let near = fit (i - 1) (omega (arith, less)) (omega arith) in
      let all = fit k (omega (arith, less)) (le_refl k) in
      let within = all.0 in
      let low = far.0 in
      let parts : k * d ≡ i * d + j * d = (let s : i + j ≡ k = omega (arith, less) in ap (λ m. m * d) (sym s) ∙ add-mul i j d) in
      let step : i * d ≡ (i - 1) * d + d = (let s : i ≡ (i - 1) + 1 = omega (arith, less) in ap (λ m. m * d) s ∙
      (add-mul (i - 1) 1 d ∙ (let o : (i - 1) * d + 1 * d ≡ (i - 1) * d + d = omega arith in o))) in
      let one : end - i * d + d ≡ end - (i - 1) * d = omega (arith, step, low) in
      let at : end - i * d + 1 ≡ end + 1 - k * d + j * d = omega (arith, parts, within, low) in
      subst (λ m. may_by plan class m d ≡ true) at
      (next_fits (end - i * d) above far.1 (subst (λ m. may_by plan class m d ≡ true) (sym one) near.1))

  -- So where the wire is idle before K - 1 frames are sent from the moment for K, it is so from the moment for each k that is more.
  pub later_alike_before : (end n k l : ℕ) → 0 < d → n < k → k ≤ l → FitBefore plan class d end l
      → AreAlike (may_by plan class) d n (end + 1 - k * d) (end + 1 - l * d)
  later_alike_before end n k l above few le fit =
      rows_alike n (end + 1 - k * d) (end + 1 - l * d)
      (λ j less. row_before end k above (λ i some within. fit i some (omega (arith, within, le))) j (omega (arith, less, few)))
      (λ j less. row_before end l above fit j (omega (arith, less, few, le)))
