-- Of the frames of periodic flows few wait, and none is dropped.
use Rattle.std.proofs.Common.{◌≡◌, ◌<◌, ◌≤◌, ℕ, zero, suc, ◌+◌, ◌-◌, max, Bool, inl, inr, List, [], ◌∷◌, length, slice_get, Some, refl, sym, ap, ◌∙◌, subst, arith, le_refl}
use Rattle.std.proofs.lemmas.Bool.{cases_lt}
use Rattle.wire_time.specs.Wire.{occupancy_of}
use Rattle.wire_time.specs.declared.Frame.{Frame}
use Rattle.gates.specs.Gate.{Plan}
use Rattle.gates.specs.History.{Accepted, open_through}
use Rattle.abstract_port.specs.declared.Start.{Start}
use Rattle.abstract_port.specs.AbstractPort.{AbstractPort, new_port}
use Rattle.abstract_port.specs.Served.{AreServed}
use Rattle.abstract_port.specs.Traffic.{Came, offered_in, queued_in}
use Rattle.abstract_port.proofs.ServiceLaws.{new_holds, served_law}
use Rattle.delay_bounds.specs.Walk.{may_by}
use Rattle.any_traffic.specs.PeriodicRoom.{AreFewLate, HaveStarted, IsLateFrame, LateStartsRecur, PeriodicRoomLaw, RoomEnoughLaw}
use Rattle.any_traffic.specs.PeriodicWindows.{ArePeriodic, ComeByFlows, PeriodicFlow, must_before}
use Rattle.any_traffic.specs.Slots.{IsSlot}
use Rattle.any_traffic.proofs.Busy.{all_come, all_counted, waiting_by}
use Rattle.any_traffic.proofs.LateForEverLaws.{Again, again, free_on}
use Rattle.any_traffic.proofs.FlowFrames.{chosen, chosen_come}
use Rattle.any_traffic.proofs.ListLaws.{one_at, one_before}
use Rattle.any_traffic.proofs.Offered.{all_since, all_taken, are_part, are_rising}
use Rattle.any_traffic.proofs.PartLaws.{ArePart, part_at, part_pair, rising_pair}
use Rattle.any_traffic.proofs.PeriodicWindowLaws.{HavePeriod, as_many, must_more, slots_past}
use Rattle.any_traffic.proofs.SlotLaws.{slot_before, slot_later}
use Rattle.any_traffic.proofs.TrafficLaws.{by_plan}

-- ---- few wait

module _ (may : ℕ → ℕ → Bool) (d : ℕ) (flows : List PeriodicFlow) (above : HavePeriod flows) where
  -- one of the late run starts no sooner than the slot from p on behind as many as come between
  late_frame_past : (p k s c : ℕ) → IsLateFrame may d flows k s → must_before flows p + c ≤ k → (r : ℕ) × IsSlot may d p c r × (r ≤ s)
  late_frame_past p k s c l enough =
      let from = l.from in
      let less = l.less in
      let le : p ≤ l.moment = elim (cases_lt l.moment p) [
        | inr fits ↦ fits
        | inl early ↦ (let more = must_more flows (suc l.moment) p above early in absurd (omega (arith, more, less, enough)))
      ] in
      let more = must_more flows p l.moment above le in
      let a = slots_past may d flows above p l.moment (k - must_before flows l.moment) l.free s le l.is l.slot in
      let n : ℕ = must_before flows l.moment - must_before flows p + (k - must_before flows l.moment) in
      let parts : n ≡ c + (n - c) = omega (arith, from, more, enough) in
      let b = slot_before may d p c (n - c) n a.0 parts a.1 in
      let first = b.2 in
      let second = a.2 in
      (b.0, b.1, omega (arith, first, second))

-- what is known of frames of flows that came in a run
record AreFlowFrames (ps change : ℕ) (flows : List PeriodicFlow) (came : List Came) : Type 0 where
  numbers : List (ℕ × ℕ)
  come : ComeByFlows ps change flows numbers came
  since : (k : ℕ) (f : Came) → slice_get came k ≡ Some f → change ≤ f.moment
  order : (k n : ℕ) (f g : Came) → slice_get came k ≡ Some f → slice_get came (k + n) ≡ Some g → f.moment ≤ g.moment

part_frames : (ps change : ℕ) (flows : List PeriodicFlow) (xs ys : List Came) → ArePart xs ys → AreFlowFrames ps change flows ys
    → AreFlowFrames ps change flows xs
part_frames ps change flows xs ys p l = record {
  numbers = chosen xs ys p l.numbers;
  come = chosen_come ps change flows xs ys p l.numbers l.come;
  since = λ k f e. (let r = part_at xs ys k f p e in l.since r.0 f r.1);
  order = λ k n f g e h. (let r = part_pair xs ys k n f g p e h in l.order r.place r.more f g r.first r.second);
}

module _ (ps class d most : ℕ) (a : Accepted) (plan : Plan) (is : a.plan ≡ Some plan) (above : 0 < plan.cycle) (flows : List PeriodicFlow)
    (these : ArePeriodic d flows)
    (few : (t : ℕ) → AreFewLate (may_by plan class) d flows most t) where
  abbrev periods : HavePeriod flows
  periods = λ i f e. (these i f e).0

  few_wait : (now : ℕ) (came : List Came) (starts : List Start) (wire : ℕ) (waits : List Frame) → AreFlowFrames ps a.change flows came
      → AreServed (open_through (a ∷ []) class) ps class 0 now came starts wire waits → length waits ≤ most
  few_wait now came starts wire waits l served = by (length waits) refl
    where
      short : (k : ℕ) (f : Came) → slice_get came k ≡ Some f → occupancy_of ps f.frame.len ≤ d
      short k f e =
          let x = (l.come).each k f e in
          let need = x.7 in
          let bound = (these x.0 x.2 x.4).1 in
          omega (arith, need, bound)

      last : (j : ℕ) (f : Came) → slice_get came (length starts + j) ≡ Some f → suc j ≤ most
      last j f e =
          let g = one_before came (length starts) (length starts + j) f (omega arith) e in
          let b = by_plan ps class d a plan is above came short l.since (length starts) now
          (waiting_by (a ∷ []) ps class d came short now starts wire waits served g.0 g.1) in
          let o = b.frame in
          let p : ℕ = o.moment - a.change in
          let t : ℕ = now - a.change in
          let sum = b.sum in
          let since = b.since in
          let at : length starts + j ≡ b.place + (b.more + j) = omega (arith, sum) in
          let there = sym (ap (slice_get came) at) ∙ e in
          let come = all_come (open_through (a ∷ []) class) ps class 0 now came starts wire waits served (length starts + j) f e in
          let many = as_many ps a.change flows l.numbers came periods l.come l.order b.place
          (b.more + j) t o f b.first there since (omega (arith, come, since)) in
          let w = few t in
          let all = w.1 in
          elim w.2 [
            | inl none ↦ omega (arith, many, all, none)
            | inr x ↦ elim (cases_lt (must_before flows p + b.more) w.0) [
              | inr fits ↦ omega (arith, many, all, fits)
              | inl more ↦
                  let r = late_frame_past (may_by plan class) d flows periods p (w.0 - 1) x.0 b.more x.1 (omega (arith, more)) in
                  let late = b.by r.0 r.1 in
                  let first = r.2 in
                  let before = x.2 in
                  absurd (omega (arith, late, first, before))
            ]
          ]

      by : (n : ℕ) → length waits ≡ n → length waits ≤ most
      by zero count = omega (arith, count)
      by (suc j) count =
          let all = all_counted (open_through (a ∷ []) class) ps class 0 now came starts wire waits served in
          let f = one_at came (length starts + j) (omega (arith, all, count)) in
          let some = last j f.0 f.1 in
          omega (arith, some, count)

pub periodic_room_law : PeriodicRoomLaw
periodic_room_law ps mtu room class d most a plan events flows numbers r these c few =
    let p : AbstractPort = new_port ps mtu room in
    let new = new_holds ps mtu room class a (r.one).rate (r.one).large (r.one).listed in
    let served = served_law ps mtu room class a events (r.one).rate (r.one).large (r.one).listed r.apart (r.one).only in
    let rising = are_rising class events p (r.one).large in
    let offered : AreFlowFrames ps a.change flows (offered_in class events p) = record {
      numbers = numbers;
      come = c;
      since = all_since ps class a (r.one).listed events p [] [] new r.apart (r.one).only;
      order = λ k n f g e h. rising_pair 0 (offered_in class events p) k n f g rising e h;
    } in
    let queued = part_frames ps a.change flows (queued_in class events p) (offered_in class events p)
    (are_part class events p (r.one).large) offered in (
      few_wait ps class d most a plan (r.one).is (r.one).above flows these few _ _ _ _ _ queued served.served,
      λ enough. all_taken ps class a (r.one).listed room most (AreFlowFrames ps a.change flows) (part_frames ps a.change flows) enough
          (λ now came starts wire waits l s. few_wait ps class d most a plan (r.one).is
          (r.one).above flows these few now came starts wire waits l s)
          events p [] [] refl new r.apart (r.one).only offered,
    )

-- ---- for ever

module _ (may : ℕ → ℕ → Bool) (d : ℕ) (flows : List PeriodicFlow) (from every most : ℕ) (these : ArePeriodic d flows)
    (r : LateStartsRecur may d flows from every) where
  abbrev all_periods : HavePeriod flows
  all_periods = λ i f e. (these i f e).0

  on : Again flows from every
  on = again flows from every all_periods (r.recurs).whole

  same_more : on.more ≡ r.more
  same_more = (let one = on.must from (le_refl from) in let two = r.is in omega (arith, one, two))

  frame_again : (k s : ℕ) → must_before flows from ≤ k → IsLateFrame may d flows k s → IsLateFrame may d flows (k + r.more) (s + every)
  frame_again k s enough l =
      let less = l.less in
      let first = l.from in
      let le : from ≤ l.moment = elim (cases_lt l.moment from) [
        | inr fits ↦ fits
        | inl early ↦ (let more = must_more flows (suc l.moment) from all_periods early in absurd (omega (arith, more, less, enough)))
      ] in
      let same = same_more in
      let must = on.must l.moment le in
      let next = on.must (suc l.moment) (omega (arith, le)) in
      let at : suc l.moment + every ≡ suc (l.moment + every) = omega arith in
      let there = ap (must_before flows) at in
      let w = free_on may d flows from every all_periods r.recurs l.moment l.free le l.is in
      let count : k - must_before flows l.moment ≡ k + r.more - must_before flows (l.moment + every) = omega (arith, must, same) in
      record {
        moment = l.moment + every;
        free = w.0;
        from = omega (arith, must, same, first);
        less = omega (arith, next, there, same, less);
        is = w.1;
        slot = subst (λ n. IsSlot may d (max (l.moment + every) w.0) n (s + every)) count
            (subst (λ u. IsSlot may d u (k - must_before flows l.moment) (s + every)) (sym w.2)
            (slot_later may d every (max l.moment l.free) (k - must_before flows l.moment) s (r.recurs).gates l.slot));
      }

  few_again : (t : ℕ) → from ≤ t → AreFewLate may d flows most t → AreFewLate may d flows most (t + every)
  few_again t le w =
      let can = on.can t le in
      let same = same_more in
      let all = w.1 in
      (w.0 + r.more, omega (arith, can, same, all), by w.2)
    where
      by : HaveStarted may d flows w.0 t → HaveStarted may d flows (w.0 + r.more) (t + every)
      by (inl none) =
          let at : r.more ≡ w.0 + r.more = omega (arith, none) in
          subst (λ n. HaveStarted may d flows n (t + every)) at (sooner r.gone)
        where
          sooner : HaveStarted may d flows r.more (from + every) → HaveStarted may d flows r.more (t + every)
          sooner (inl nothing) = inl nothing
          sooner (inr x) = (let before = x.2 in inr (x.0, x.1, omega (arith, before, le)))
      by (inr x) = go w.0 refl x
        where
          go : (n : ℕ) → w.0 ≡ n → (s : ℕ) × IsLateFrame may d flows (w.0 - 1) s × (s < t)
              → HaveStarted may d flows (w.0 + r.more) (t + every)
          go zero e x =
              let at : r.more ≡ w.0 + r.more = omega (arith, e) in
              subst (λ n. HaveStarted may d flows n (t + every)) at (sooner r.gone)
            where
              sooner : HaveStarted may d flows r.more (from + every) → HaveStarted may d flows r.more (t + every)
              sooner (inl nothing) = inl nothing
              sooner (inr y) = (let before = y.2 in inr (y.0, y.1, omega (arith, before, le)))
          go (suc n) e x =
              let before = x.2 in
              let at : w.0 - 1 + r.more ≡ w.0 + r.more - 1 = omega (arith, e) in
              elim (cases_lt (w.0 - 1) (must_before flows from)) [
                | inr late ↦ inr (
                  x.0 + every,
                  subst (λ k. IsLateFrame may d flows k (x.0 + every)) at
                      (frame_again (w.0 - 1) x.0 late x.1),
                  omega (arith, before),
                )
                | inl early ↦
                    let y = r.starts (w.0 - 1) x.0 early x.1 in
                    let less : y.0 < t + every = elim y.2
                    [ inl both ↦ (let after = both.1 in omega (arith, after, le)) | inr so ↦ omega (arith, so, before) ] in
                    inr (y.0, subst (λ k. IsLateFrame may d flows k y.0) at y.1, less)
              ]

pub room_enough_law : RoomEnoughLaw
room_enough_law may d flows from every most these r upto t = all (suc t) t (let z : t < suc t = omega arith in z)
  where
    all : (fuel t : ℕ) → t < fuel → AreFewLate may d flows most t
    all zero t less = absurd (omega (arith, less))
    all (suc fuel) t less = elim (cases_lt t (from + every)) [
      | inl before ↦ upto t before
      | inr after ↦
          let above = (r.recurs).above in
          let at : t - every + every ≡ t = omega (arith, after) in
          subst (AreFewLate may d flows most) at
          (few_again may d flows from every most these r (t - every) (omega (arith, after))
          (all fuel (t - every) (omega (arith, less, after, above))))
    ]
