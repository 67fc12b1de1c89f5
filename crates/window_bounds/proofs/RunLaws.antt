-- One step of the late run.
use Rattle.std.proofs.Common.{◌≡◌, ◌<◌, ◌≤◌, ℕ, zero, suc, ◌+◌, ◌-◌, ◌^◌, max, Bool, inl, inr, List, [], ◌∷◌, map, refl, sym, ap, subst, arith, le_refl}
use Rattle.std.proofs.lemmas.Bool.{cases_lt}
use Rattle.std.proofs.lemmas.List.Sums.{sum_by-cons}
use Rattle.any_traffic.specs.PeriodicRoom.{IsLateFrame}
use Rattle.any_traffic.specs.PeriodicWindows.{AreSent, IsFreeFrom, PeriodicFlow, before, can_by, must_before}
use Rattle.any_traffic.specs.Slots.{IsSlot}
use Rattle.any_traffic.proofs.PeriodicWindowLaws.{HavePeriod, before_more}
use Rattle.any_traffic.proofs.SlotLaws.{both_slots}
use Rattle.burst_bounds.proofs.SlotLaws.{slot_from}
use Rattle.window_bounds.specs.Beats.{all_before, come_of, early_beat, late_beat}
use Rattle.window_bounds.specs.Flows.{flows_of, periodic_of}
use Rattle.window_bounds.specs.Run.{IsMost, IsRun}
use Rattle.window_bounds.specs.Slots.{HasSent, IsFreeBehind}
use Rattle.window_bounds.specs.declared.JitteredFlow.{JitteredFlow}
use Rattle.window_bounds.specs.declared.beats.Beat.{Beat}
use Rattle.window_bounds.specs.declared.late_run.Run.{Run}

-- ---- the counts of beats are those of flows

pub must_is : (flows : List JitteredFlow) (u : ℕ) → all_before (map late_beat flows) u ≡ must_before (flows_of flows) u
must_is [] u = refl
must_is (f ∷ flows) u =
    let rest = must_is flows u in
    let a = sum_by-cons (come_of u) (late_beat f) (map late_beat flows) in
    let b = sum_by-cons (λ (g : PeriodicFlow). before (g.offset + g.jitter) g.period u) (periodic_of f) (flows_of flows) in
    omega (arith, rest, a, b)

pub can_is : (flows : List JitteredFlow) (t : ℕ) → all_before (map early_beat flows) (t + 1) ≡ can_by (flows_of flows) t
can_is [] t = refl
can_is (f ∷ flows) t =
    let rest = can_is flows t in
    let a = sum_by-cons (come_of (t + 1)) (early_beat f) (map early_beat flows) in
    let b = sum_by-cons (λ (g : PeriodicFlow). before g.offset g.period (t + 1)) (periodic_of f) (flows_of flows) in
    omega (arith, rest, a, b)

-- those that must have come before the next moment may have come by this one
pub must_can : (flows : List PeriodicFlow) (t : ℕ) → HavePeriod flows → must_before flows (t + 1) ≤ can_by flows t
must_can [] t above = omega arith
must_can (f ∷ flows) t above =
    let here = before_more (f.offset + f.jitter) f.offset f.period (t + 1) (t + 1) (above 0 f refl)
    (let z : f.offset ≤ f.offset + f.jitter = omega arith in z) (le_refl (t + 1)) in
    let rest = must_can flows t (λ i g e. above (suc i) g e) in
    let a = sum_by-cons (λ (g : PeriodicFlow). before (g.offset + g.jitter) g.period (t + 1)) f flows in
    let b = sum_by-cons (λ (g : PeriodicFlow). before g.offset g.period (t + 1)) f flows in
    omega (arith, here, rest, a, b)

pub can_more : (flows : List PeriodicFlow) (t u : ℕ) → HavePeriod flows → t ≤ u → can_by flows t ≤ can_by flows u
can_more [] t u above le = omega arith
can_more (f ∷ flows) t u above le =
    let here = before_more f.offset f.offset f.period (t + 1) (u + 1) (above 0 f refl) (le_refl f.offset)
    (let z : t + 1 ≤ u + 1 = omega (arith, le) in z) in
    let rest = can_more flows t u (λ i g e. above (suc i) g e) le in
    let a = sum_by-cons (λ (g : PeriodicFlow). before g.offset g.period (t + 1)) f flows in
    let b = sum_by-cons (λ (g : PeriodicFlow). before g.offset g.period (u + 1)) f flows in
    omega (arith, here, rest, a, b)

-- ---- slots, and what is sent

module _ (may : ℕ → ℕ → Bool) (d : ℕ) where
  pub sent_at : (t k free r : ℕ) → IsSlot may d (max t free) k r → AreSent may d t (suc k) free (r + d)
  sent_at t zero free r h = (r, h, refl)
  sent_at t (suc k) free r h =
      let from = (h.1).from in
      let at : h.0 + d ≡ max t (h.0 + d) = omega (arith, from) in
      (h.0, h.1, sent_at t k (h.0 + d) r (subst (λ u. IsSlot may d u k r) at h.2))

  -- what is sent at t, where the wire is free from a moment on
  pub sent_by : (t n free later : ℕ) → 0 < n → IsFreeBehind may d (max t free) n later → AreSent may d t n free later
  sent_by t n free later some (inl none) = (let no_one = none.0 in absurd (omega (arith, some, no_one)))
  sent_by t n free later some (inr h) =
      subst (λ k. AreSent may d t k free later) (sym h.2)
      (subst (AreSent may d t (suc h.0) free) (sym h.4) (sent_at t h.0 free h.1 h.3))

  pub behind_both : (from m n free later : ℕ) → IsFreeBehind may d from m free → IsFreeBehind may d free n later
      → IsFreeBehind may d from (m + n) later
  behind_both from m n free later (inl none) h =
      let at : n ≡ m + n = (let z = none.0 in omega (arith, z)) in
      subst (λ k. IsFreeBehind may d from k later) at (subst (λ u. IsFreeBehind may d u n later) none.1 h)
  behind_both from m n free later (inr some) (inl none) =
      let at : m ≡ m + n = (let z = none.0 in omega (arith, z)) in
      subst (λ k. IsFreeBehind may d from k later) at (subst (IsFreeBehind may d from m) (sym none.1) (inr some))
  behind_both from m n free later (inr some) (inr h) =
      let at : suc (suc (some.0 + h.0)) ≡ m + n = (let x = some.2 in let y = h.2 in omega (arith, x, y)) in
      let first = subst (λ u. IsSlot may d u h.0 h.1) some.4 h.3 in
      subst (λ k. IsFreeBehind may d from k later) at
      (inr (suc (some.0 + h.0), h.1, refl, both_slots may d from some.0 h.0 some.1 h.1 some.3 first, h.4))

  -- the last of some
  pub last_slot : (from n free : ℕ) → 0 < n → IsFreeBehind may d from n free → IsSlot may d from (n - 1) (free - d) × (d ≤ free)
  last_slot from n free some (inl none) = (let z = none.0 in absurd (omega (arith, some, z)))
  last_slot from n free some (inr h) =
      let count = h.2 in
      let at : h.0 ≡ n - 1 = omega (arith, count) in
      let is = h.4 in
      let back : h.1 ≡ free - d = omega (arith, is) in
      (subst (λ k. IsSlot may d from k (free - d)) at (subst (IsSlot may d from h.0) back h.3), omega (arith, is))

  pub behind_from : (from n free : ℕ) → IsFreeBehind may d from n free → from ≤ free
  behind_from from n free (inl none) = (let z = none.1 in omega (arith, z))
  behind_from from n free (inr h) =
      let low = slot_from may d from h.0 h.1 h.3 in
      let is = h.4 in
      omega (arith, low, is)

-- ---- the late run

module _ (may : ℕ → ℕ → Bool) (d limit : ℕ) (flows : List JitteredFlow) (above : HavePeriod (flows_of flows)) (t : ℕ) (old : Run)
    (run : IsRun may d (flows_of flows) limit t old) (due : ℕ) (some : 0 < due)
    (count : must_before (flows_of flows) (t + 1) ≡ must_before (flows_of flows) t + due) where
  -- one that is sent then is a frame of the late run
  pub frame_at : (j s : ℕ) → j < due → IsSlot may d (max t old.free) j s → IsLateFrame may d (flows_of flows) (old.sent + j) s
  frame_at j s less slot =
      let sent = run.sent in
      let e : suc t ≡ t + 1 = omega arith in
      let same = ap (must_before (flows_of flows)) e in
      let at : j ≡ old.sent + j - must_before (flows_of flows) t = omega (arith, sent) in
      record {
        moment = t;
        free = old.free;
        from = omega (arith, sent);
        less = omega (arith, sent, count, same, less);
        is = run.free;
        slot = subst (λ k. IsSlot may d (max t old.free) k s) at slot;
      }

  module _ (begun new : Run) (same_sent : begun.sent ≡ old.sent) (same_most : begun.most ≡ old.most)
      (from : begun.free ≡ max t old.free) where
    abbrev early : List Beat
    early = map early_beat flows

    pub most_next : HasSent may d begun.free due limit early begun new → IsMost may d (flows_of flows) (old.sent + due) new.most
    most_next h =
        let grown = h.grown in
        record {
          within = λ k less. elim (cases_lt k old.sent) [
            | inl before ↦ (let w = (run.most).within k before in let few = w.2 in (w.0, w.1, omega (arith, few, grown, same_most)))
            | inr here ↦
                let at : old.sent + (k - old.sent) ≡ k = omega (arith, here) in
                let w = h.within (k - old.sent) (omega (arith, less, here)) in
                let can = can_is flows w.0 in
                let few = w.2 in
                let slot = subst (λ u. IsSlot may d u (k - old.sent) w.0) from w.1 in (
                  w.0,
                  subst (λ n. IsLateFrame may d (flows_of flows) n w.0) at (frame_at (k - old.sent) w.0 (omega (arith, less, here)) slot),
                  omega (arith, few, can, at, same_sent),
                )
          ];
          reached = elim h.reached [
            | inl kept ↦ elim (run.most).reached [
              | inl none ↦ inl (omega (arith, kept, none, same_most))
              | inr r ↦ (let is = r.3 in inr (r.0, r.1, r.2, omega (arith, is, kept, same_most)))
            ]
            | inr r ↦
                let can = can_is flows r.1 in
                let is = r.4 in
                let slot = subst (λ u. IsSlot may d u r.0 r.1) from r.3 in
                inr (old.sent + r.0, r.1, frame_at r.0 r.1 r.2 slot, omega (arith, is, can, same_sent))
          ];
        }

    -- those that may have come by t are no more than the limit
    pub few_can : HasSent may d begun.free due limit early begun new → can_by (flows_of flows) t ≤ limit
    few_can h =
        let w = h.within (due - 1) (omega (arith, some)) in
        let later = slot_from may d begun.free (due - 1) w.0 w.1 in
        let can = can_is flows w.0 in
        let more = can_more (flows_of flows) t w.0 above (omega (arith, later, from)) in
        let all = w.3 in
        omega (arith, can, more, all)

    pub run_next : HasSent may d begun.free due limit early begun new → IsFreeBehind may d begun.free due new.free → new.sent ≡ begun.sent + due
        → new.free ≤ 2 ^ 80 → new.most ≤ limit → IsRun may d (flows_of flows) limit (t + 1) new
    run_next h free sent soon small =
        let is = run.sent in
        let few = few_can h in
        let can = must_can (flows_of flows) t above in
        let e : suc t ≡ t + 1 = omega arith in
        let same = ap (must_before (flows_of flows)) e in
        let n : due ≡ must_before (flows_of flows) (suc t) - must_before (flows_of flows) t = omega (arith, count, same) in
        let behind = subst (λ u. IsFreeBehind may d u due new.free) from free in
        let sent_so = sent_by may d t due old.free new.free some behind in
        record {
          sent = omega (arith, sent, is, count, same_sent);
          few = omega (arith, sent, is, count, few, can, same_sent);
          free = subst (λ u. IsFreeFrom may d (flows_of flows) u new.free) e
              (old.free, run.free, subst (λ k. AreSent may d t k old.free new.free) n sent_so);
          soon = soon;
          most = subst (λ k. IsMost may d (flows_of flows) k new.most) (let z : old.sent + due ≡ new.sent = omega (arith, sent, same_sent) in z)
              (most_next h);
          small = small;
        }
