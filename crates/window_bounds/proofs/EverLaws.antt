-- What is known of the frames of the late run up to where it is as it was holds for ever.
use Rattle.std.proofs.Common.{◌≡◌, ◌<◌, ◌≤◌, ◌⊎◌, ℕ, zero, suc, ◌+◌, ◌-◌, ◌*◌, max, Bool, inl, inr, List, [], ◌∷◌, slice_get, Some, refl, sym, ap, ◌∙◌, subst, arith, le_refl, mul-suc}
use Rattle.std.proofs.lemmas.Bool.{cases_lt}
use Rattle.std.proofs.lemmas.List.Sums.{sum_by-cons}
use Rattle.std.proofs.lemmas.Option.{same_Some}
use Rattle.delay_bounds.proofs.WaitLaws.{one_first}
use Rattle.any_traffic.specs.LateForEver.{LateRecurs}
use Rattle.any_traffic.specs.PeriodicRoom.{AreFewLate, HaveStarted, IsLateFrame}
use Rattle.any_traffic.specs.PeriodicWindows.{AreSent, IsFreeFrom, IsLateStart, PeriodicFlow, before, can_by, must_before, window_of}
use Rattle.any_traffic.specs.Slots.{IsSlot}
use Rattle.any_traffic.proofs.ListLaws.{none_here}
use Rattle.any_traffic.proofs.LateForEverLaws.{Again, again, free_on, one_free}
use Rattle.any_traffic.proofs.PeriodicWindowLaws.{HavePeriod, before_is, before_of, must_more}
use Rattle.any_traffic.proofs.SlotLaws.{slot_later}
use Rattle.burst_bounds.proofs.SlotLaws.{slot_from, slots_rise}
use Rattle.window_bounds.specs.Least.{IsReached}
use Rattle.window_bounds.specs.Run.{AreNoted, IsMost}
use Rattle.window_bounds.proofs.BeatLaws.{before_none}
use Rattle.window_bounds.proofs.RunLaws.{can_more}

-- ---- before moment 0 none has come

none_at_zero : (flows : List PeriodicFlow) → HavePeriod flows → must_before flows 0 ≡ 0
none_at_zero [] above = refl
none_at_zero (f ∷ flows) above =
    let here = before_none (f.offset + f.jitter) f.period 0 (above 0 f refl) (omega arith) in
    let rest = none_at_zero flows (λ i g e. above (suc i) g e) in
    let a = sum_by-cons (λ (g : PeriodicFlow). before (g.offset + g.jitter) g.period 0) f flows in
    omega (arith, here, rest, a)

-- a later moment by a period of one has one more at least
more_by : (flows : List PeriodicFlow) (u v : ℕ) → HavePeriod flows → (f : PeriodicFlow) → slice_get flows 0 ≡ Some f
    → f.offset + f.jitter ≤ u → u + f.period ≤ v → must_before flows u < must_before flows v
more_by [] u v above f e begun le = absurd (none_here 0 f e)
more_by (g ∷ flows) u v above f e begun le =
    let same = same_Some g f e in
    let o : ℕ = g.offset + g.jitter in
    let first = ap (λ (x : PeriodicFlow). x.offset + x.jitter) same in
    let turned = ap (λ (x : PeriodicFlow). x.period) same in
    let b : ℕ = before o g.period u in
    let come : b < before o g.period v = before_of o g.period b v (above 0 g refl) (by b refl (omega (arith, first, begun)) (omega (arith, turned, le))) in
    let rest = must_more flows u v (λ i h x. above (suc i) h x) (omega (arith, le)) in
    let x = sum_by-cons (λ (h : PeriodicFlow). before (h.offset + h.jitter) h.period u) g flows in
    let y = sum_by-cons (λ (h : PeriodicFlow). before (h.offset + h.jitter) h.period v) g flows in
    omega (arith, come, rest, x, y)
  where
    by : (n : ℕ) → before (g.offset + g.jitter) g.period u ≡ n → g.offset + g.jitter ≤ u → u + g.period ≤ v
        → g.offset + g.jitter + g.period * n < v
    by zero is low far = (let z : g.period * 0 ≡ 0 = omega arith in let some = above 0 g refl in omega (arith, z, low, far, some))
    by (suc n) is low far =
        let last = before_is (g.offset + g.jitter) g.period n u (above 0 g refl) (omega (arith, is)) in
        let parts : g.period * suc n ≡ g.period * n + g.period = mul-suc g.period n in
        omega (arith, last, parts, far)

module _ (may : ℕ → ℕ → Bool) (d : ℕ) where
  -- ---- the wire is free from no earlier moment later

  module _ (above : 0 < d) where
    sent_grows : (t n free later : ℕ) → AreSent may d t n free later → free + n ≤ later
    sent_grows t zero free later same = omega (arith, same)
    sent_grows t (suc n) free later h =
        let rest = sent_grows t n (h.0 + d) later h.2 in
        let from = (h.1).from in
        omega (arith, rest, from, above)

    -- what starts there ends by then
    sent_after : (t n free later j s : ℕ) → j < n → AreSent may d t n free later → IsSlot may d (max t free) j s → s < later
    sent_after t zero free later j s less h slot = absurd (omega (arith, less))
    sent_after t (suc n) free later zero s less h slot =
        let same = one_first may d (max t free) h.0 s h.1 slot in
        let rest = sent_grows t n (h.0 + d) later h.2 in
        omega (arith, same, rest, above)
    sent_after t (suc n) free later (suc j) s less h slot =
        let same = one_first may d (max t free) slot.0 h.0 slot.1 h.1 in
        let from = (h.1).from in
        let at : slot.0 + d ≡ max t (h.0 + d) = omega (arith, same, from) in
        sent_after t n (h.0 + d) later j s (omega (arith, less)) h.2 (subst (λ u. IsSlot may d u j s) at slot.2)

    slot_grows : (t n s : ℕ) → IsSlot may d t n s → t + n ≤ s
    slot_grows t zero s h = (let from = h.from in omega (arith, from))
    slot_grows t (suc n) s h =
        let rest = slot_grows (h.0 + d) n s h.2 in
        let from = (h.1).from in
        omega (arith, rest, from, above)

    module _ (flows : List PeriodicFlow) (periods : HavePeriod flows) where
      free_back : (u n y : ℕ) → IsFreeFrom may d flows (u + n) y → (x : ℕ) × IsFreeFrom may d flows u x × (x ≤ y)
      free_back u zero y h =
          let e : u + 0 ≡ u = omega arith in
          (y, subst (λ t. IsFreeFrom may d flows t y) e h, omega arith)
      free_back u (suc n) y h =
          let e : u + suc n ≡ suc (u + n) = omega arith in
          let g = subst (λ t. IsFreeFrom may d flows t y) e h in
          let r = free_back u n g.0 g.1 in
          let low = r.2 in
          let up = sent_grows (u + n) (must_before flows (suc (u + n)) - must_before flows (u + n)) g.0 y g.2 in
          (r.0, r.1, omega (arith, low, up))

      -- it has taken a picosecond for each frame at least
      free_low : (t free : ℕ) → IsFreeFrom may d flows t free → must_before flows t ≤ free
      free_low zero free h = (let none = none_at_zero flows periods in omega (arith, none))
      free_low (suc t) free h =
          let old = free_low t h.0 h.1 in
          let up = sent_grows t (must_before flows (suc t) - must_before flows t) h.0 free h.2 in
          omega (arith, old, up)

      late_low : (k s : ℕ) → IsLateFrame may d flows k s → k ≤ s
      late_low k s h =
          let low = free_low h.moment h.free h.is in
          let up = slot_grows (max h.moment h.free) (k - must_before flows h.moment) s h.slot in
          let from = h.from in
          omega (arith, low, up, from)

      -- later ones start no sooner
      late_rise : (k j s r : ℕ) → k ≤ j → IsLateFrame may d flows k s → IsLateFrame may d flows j r → s ≤ r
      late_rise k j s r le a b =
          let first = a.from in
          let last = b.less in
          elim (cases_lt b.moment a.moment) [
            | inl early ↦
                let more = must_more flows (suc b.moment) a.moment periods early in
                absurd (omega (arith, more, first, last, le))
            | inr order ↦ elim (cases_lt a.moment b.moment) [
              | inl before ↦
                  let at : suc a.moment + (b.moment - suc a.moment) ≡ b.moment = omega (arith, before) in
                  let x = free_back (suc a.moment) (b.moment - suc a.moment) b.free
                  (subst (λ t. IsFreeFrom may d flows t b.free) (sym at) b.is) in
                  let g = x.1 in
                  let same = one_free may d flows a.moment g.0 a.free g.1 a.is in
                  let less = a.less in
                  let ends = sent_after a.moment (must_before flows (suc a.moment) - must_before flows a.moment) a.free x.0
                  (k - must_before flows a.moment) s (omega (arith, first, less))
                  (subst (λ w. AreSent may d a.moment (must_before flows (suc a.moment) - must_before flows a.moment) w x.0) same g.2) a.slot in
                  let low = x.2 in
                  let from = slot_from may d (max b.moment b.free) (j - must_before flows b.moment) r b.slot in
                  omega (arith, ends, low, from)
              | inr back ↦
                  let e : b.moment ≡ a.moment = omega (arith, order, back) in
                  let is = subst (λ t. IsFreeFrom may d flows t b.free) e b.is in
                  let same = one_free may d flows a.moment b.free a.free is a.is in
                  let u : max b.moment b.free ≡ max a.moment a.free = omega (arith, e, same) in
                  let n = ap (λ t. j - must_before flows t) e in
                  let slot = subst (λ m. IsSlot may d (max a.moment a.free) m r) n
                  (subst (λ w. IsSlot may d w (j - must_before flows b.moment) r) u b.slot) in
                  slots_rise may d (max a.moment a.free) (k - must_before flows a.moment) (j - must_before flows a.moment) s r
                  (omega (arith, le)) a.slot slot
            ]
          ]

      -- ---- for ever

      module _ (from every most : ℕ) (r : LateRecurs may d flows from every) (f : PeriodicFlow) (first : slice_get flows 0 ≡ Some f)
          (seen : IsMost may d flows (must_before flows (from + every)) most) where
        on : Again flows from every
        on = again flows from every periods r.whole

        some_more : 0 < on.more
        some_more =
            let w = r.whole 0 f first in
            let must = on.must from (le_refl from) in
            let lasts = r.above in
            let is = w.1.1 in
            let up = more_by flows from (from + every) periods f first w.0 (long w.1.0 is lasts) in
            omega (arith, must, up)
          where
            long : (n : ℕ) → every ≡ f.period * n → 0 < every → from + f.period ≤ from + every
            long zero is lasts = (let z : f.period * 0 ≡ 0 = omega arith in absurd (omega (arith, is, lasts, z)))
            long (suc n) is lasts = (let parts : f.period * suc n ≡ f.period * n + f.period = mul-suc f.period n in omega (arith, is, parts))

        frame_again : (k s : ℕ) → must_before flows from ≤ k → IsLateFrame may d flows k s
            → IsLateFrame may d flows (k + on.more) (s + every) × (can_by flows (s + every) ≡ can_by flows s + on.more)
        frame_again k s enough l =
            let less = l.less in
            let low = l.from in
            let le : from ≤ l.moment = elim (cases_lt l.moment from) [
              | inr fits ↦ fits
              | inl early ↦ (let more = must_more flows (suc l.moment) from periods early in absurd (omega (arith, more, less, enough)))
            ] in
            let must = on.must l.moment le in
            let next = on.must (suc l.moment) (omega (arith, le)) in
            let at : suc l.moment + every ≡ suc (l.moment + every) = omega arith in
            let there = ap (must_before flows) at in
            let w = free_on may d flows from every periods r l.moment l.free le l.is in
            let count : k - must_before flows l.moment ≡ k + on.more - must_before flows (l.moment + every) = omega (arith, must) in
            let start = slot_from may d (max l.moment l.free) (k - must_before flows l.moment) s l.slot in (
              record {
                moment = l.moment + every;
                free = w.0;
                from = omega (arith, must, low);
                less = omega (arith, next, there, less);
                is = w.1;
                slot = subst (λ n. IsSlot may d (max (l.moment + every) w.0) n (s + every)) count
                    (subst (λ u. IsSlot may d u (k - must_before flows l.moment) (s + every)) (sym w.2)
                    (slot_later may d every (max l.moment l.free) (k - must_before flows l.moment) s r.gates l.slot));
              },
              on.can s (omega (arith, le, start)),
            )

        -- each frame starts with no more than that waiting
        late_all : (fuel k : ℕ) → k < fuel → (s : ℕ) × IsLateFrame may d flows k s × (can_by flows s ≤ k + most)
        late_all zero k less = absurd (omega (arith, less))
        late_all (suc fuel) k less = elim (cases_lt k (must_before flows (from + every))) [
          | inl before ↦ seen.within k before
          | inr after ↦
              let must = on.must from (le_refl from) in
              let some = some_more in
              let w = late_all fuel (k - on.more) (omega (arith, less, some, after, must)) in
              let x = frame_again (k - on.more) w.0 (omega (arith, after, must)) w.1 in
              let e : k - on.more + on.more ≡ k = omega (arith, after, must) in
              let few = w.2 in
              let come = x.1 in
              (w.0 + every, subst (λ n. IsLateFrame may d flows n (w.0 + every)) e x.0, omega (arith, few, come, e))
        ]

        -- the first of those that have not started before t
        abbrev IsStanding : ℕ → Type 0
        IsStanding t = (k s : ℕ) × HaveStarted may d flows k t × IsLateFrame may d flows k s × (can_by flows s ≤ k + most) × (t ≤ s)

        standing : (t n : ℕ) → HaveStarted may d flows n t ⊎ IsStanding t
        standing t zero = inl (inl refl)
        standing t (suc n) = elim (standing t n) [
          | inr found ↦ inr found
          | inl gone ↦
              let w = late_all (suc n) n (omega arith) in
              elim (cases_lt w.0 t) [
                | inl early ↦
                    let e : n ≡ suc n - 1 = omega arith in
                    inl (inr (w.0, subst (λ k. IsLateFrame may d flows k w.0) e w.1, early))
                | inr late ↦ inr (n, w.0, gone, w.1, w.2, late)
              ]
        ]

        pub few_ever : (t : ℕ) → AreFewLate may d flows most t
        few_ever t = by (standing t (suc t))
          where
            by : HaveStarted may d flows (suc t) t ⊎ IsStanding t → AreFewLate may d flows most t
            by (inl (inl none)) = absurd (omega (arith, none))
            by (inl (inr gone)) =
                let low = late_low (suc t - 1) gone.0 gone.1 in
                let early = gone.2 in
                absurd (omega (arith, low, early))
            by (inr x) =
                let more = can_more flows t x.1 periods x.5 in
                let few = x.4 in
                (x.0, omega (arith, more, few), x.2)

        pub fewest_ever : (m : ℕ) → ((t : ℕ) → AreFewLate may d flows m t) → most ≤ m
        fewest_ever m few = by seen.reached
          where
            by : (most ≡ 0) ⊎ ((k s : ℕ) × IsLateFrame may d flows k s × (can_by flows s ≡ k + most)) → most ≤ m
            by (inl none) = omega (arith, none)
            by (inr x) =
                let w = few x.1 in
                let all = w.1 in
                let is = x.3 in
                elim w.2 [
                  | inl none ↦ omega (arith, all, is, none)
                  | inr gone ↦ elim (cases_lt (w.0 - 1) x.0) [
                    | inl fewer ↦ omega (arith, all, is, fewer)
                    | inr more ↦
                        let up = late_rise x.0 (w.0 - 1) x.1 gone.0 more x.2 gone.1 in
                        let early = gone.2 in
                        absurd (omega (arith, up, early))
                  ]
                ]

        pub reached_ever : (waits : List ℕ) → AreNoted may d flows (from + every) waits → (i wait : ℕ) (flow : PeriodicFlow)
            → slice_get flows i ≡ Some flow → slice_get waits i ≡ Some wait → IsReached may d flows flow wait
        reached_ever waits noted i wait flow place told = by (noted.reached i wait flow place told)
          where
            by : (wait ≡ 0) ⊎ IsReached may d flows flow wait → IsReached may d flows flow wait
            by (inr is) = is
            by (inl none) =
                let begun = (r.whole i flow place).0 in
                let lasts = r.above in
                let z : flow.period * 0 ≡ 0 = omega arith in
                let w = noted.within i 0 wait flow place told (omega (arith, begun, lasts, z)) in
                let low = slot_from may d (max (window_of flow 0).latest w.1.0)
                (can_by flows (window_of flow 0).latest - must_before flows (window_of flow 0).latest - 1) w.0 w.1.2 in
                let up = w.2 in
                let e : w.0 ≡ (window_of flow 0).earliest + wait = omega (arith, low, up, none) in
                (0, subst (IsLateStart may d flows (window_of flow 0).latest) e w.1)
