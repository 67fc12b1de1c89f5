-- A late start is a slot of one busy time: counted from a moment on from which the wire is kept busy.
use Rattle.std.proofs.Common.{◌≡◌, ◌<◌, ◌≤◌, ℕ, zero, suc, ◌+◌, ◌-◌, max, Bool, ◌⊎◌, inl, inr, List, refl, subst, arith, le_refl}
use Rattle.std.proofs.lemmas.Bool.{cases_lt}
use Rattle.any_traffic.specs.PeriodicWindows.{AreSent, IsFreeFrom, IsLateStart, PeriodicFlow, can_by, must_before}
use Rattle.any_traffic.specs.Slots.{IsSlot}
use Rattle.any_traffic.proofs.PeriodicWindowLaws.{HavePeriod, must_more}
use Rattle.any_traffic.proofs.SlotLaws.{both_slots}

module _ (may : ℕ → ℕ → Bool) (d : ℕ) where
  -- what is sent at t starts at the slots from when the wire is free
  sent_slot : (t n free later : ℕ) → AreSent may d t (suc n) free later → (r : ℕ) × IsSlot may d (max t free) n r × (later ≡ r + d)
  sent_slot t zero free later h = (h.0, h.1, h.2)
  sent_slot t (suc n) free later h =
      let first = (h.1).from in
      let rest = sent_slot t n (h.0 + d) later h.2 in
      let same : max t (h.0 + d) ≡ h.0 + d = omega (arith, first) in
      (rest.0, (h.0, h.1, subst (λ u. IsSlot may d u n rest.0) same rest.1), rest.2)

  module _ (flows : List PeriodicFlow) (above : HavePeriod flows) where
    -- so many frames keep the wire busy from a moment on, up to another
    record IsBusyTo (t count free : ℕ) : Type 0 where
      pub from : ℕ
      pub more : ℕ
      pub slot : ℕ
      pub early : from ≤ t
      pub all : count ≡ must_before flows from + suc more
      pub is : IsSlot may d from more slot
      pub ends : free ≡ slot + d

    abbrev IsFreeBy : ℕ → ℕ → Type 0
    IsFreeBy t free = (free ≡ 0) ⊎ IsBusyTo t (must_before flows t) free

    -- behind so many others that come at t there is a slot of the busy time
    pub record IsBusySlot (t count s : ℕ) : Type 0 where
      pub from : ℕ
      pub more : ℕ
      pub early : from ≤ t
      pub all : count ≡ must_before flows from + suc more
      pub is : IsSlot may d from more s

    slot_from : (t free n s : ℕ) → IsFreeBy t free → IsSlot may d (max t free) n s → IsBusySlot t (must_before flows t + suc n) s
    slot_from t free n s b slot = elim (cases_lt t free) [
      | inr idle ↦ (let same : max t free ≡ t = omega (arith, idle) in
          record { from = t; more = n; early = le_refl t; all = refl; is = subst (λ u. IsSlot may d u n s) same slot })
      | inl busy ↦ by busy b
    ]
      where
        by : t < free → IsFreeBy t free → IsBusySlot t (must_before flows t + suc n) s
        by busy (inl none) = absurd (omega (arith, busy, none))
        by busy (inr w) =
            let ends = w.ends in
            let all = w.all in
            let same : max t free ≡ w.slot + d = omega (arith, busy, ends) in
            record {
              from = w.from;
              more = suc (w.more + n);
              early = w.early;
              all = omega (arith, all);
              is = both_slots may d w.from w.more n w.slot s w.is (subst (λ u. IsSlot may d u n s) same slot);
            }

    -- what is sent at the next moment
    free_next : (t was free n : ℕ) → must_before flows (suc t) ≡ must_before flows t + n → IsFreeBy t was → AreSent may d t n was free
        → IsFreeBy (suc t) free
    free_next t was free zero count (inl none) sent = inl (omega (arith, none, sent))
    free_next t was free zero count (inr w) sent =
        let early = w.early in
        let all = w.all in
        let ends = w.ends in
        inr (record {
          from = w.from;
          more = w.more;
          slot = w.slot;
          early = omega (arith, early);
          all = omega (arith, all, count);
          is = w.is;
          ends = omega (arith, ends, sent);
        })
    free_next t was free (suc n) count b sent =
        let last = sent_slot t n was free sent in
        let slot = slot_from t was n last.0 b last.1 in
        let early = slot.early in
        let all = slot.all in
        inr (record {
          from = slot.from;
          more = slot.more;
          slot = last.0;
          early = omega (arith, early);
          all = omega (arith, all, count);
          is = slot.is;
          ends = last.2;
        })

    free_by : (t free : ℕ) → IsFreeFrom may d flows t free → IsFreeBy t free
    free_by zero free f = inl f
    free_by (suc t) free f =
        let rise = must_more flows t (suc t) above (omega arith) in
        let n : ℕ = must_before flows (suc t) - must_before flows t in
        free_next t f.0 free n (omega (arith, rise)) (free_by t f.0 f.1) f.2

    -- a late start, where a frame may have come at that moment that needn't have come before
    pub late_slot : (t s : ℕ) → must_before flows t < can_by flows t → IsLateStart may d flows t s → IsBusySlot t (can_by flows t) s
    late_slot t s some h =
        let n : ℕ = can_by flows t - must_before flows t - 1 in
        let count : must_before flows t + suc n ≡ can_by flows t = omega (arith, some) in
        subst (λ c. IsBusySlot t c s) count (slot_from t h.0 n s (free_by t h.0 h.1) h.2)
