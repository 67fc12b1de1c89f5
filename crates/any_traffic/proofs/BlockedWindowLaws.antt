-- Frames of periodic flows in a class that shares its windows with lower classes start no later than in the late run.
use Rattle.std.proofs.Common.{◌≡◌, ◌<◌, ◌≤◌, ℕ, zero, suc, ◌+◌, ◌-◌, ◌*◌, max, Bool, ◌⊎◌, inl, inr, List, [], ◌∷◌, length, slice_get, Option, Some, None, refl, sym, ap, ◌∙◌, subst, arith, le_refl}
use Rattle.std.proofs.Math.Nat.{mul-le-mul_right}
use Rattle.std.proofs.lemmas.Bool.{cases_lt}
use Rattle.std.proofs.lemmas.Option.{same_Some, slice_get_within}
use Rattle.wire_time.proofs.WireLaws.{occupancy_pos}
use Rattle.abstract_port.specs.declared.Start.{Start}
use Rattle.abstract_port.specs.AbstractPort.{AbstractPort, new_port, queue_of}
use Rattle.abstract_port.specs.Answers.{answers_of, port_after}
use Rattle.abstract_port.specs.Laws.{starts_in}
use Rattle.abstract_port.specs.Traffic.{Came, queued_in, starts_of_class}
use Rattle.delay_bounds.specs.Walk.{may_by}
use Rattle.any_traffic.specs.ArrivalCurve.{ConformTo}
use Rattle.any_traffic.specs.ArrivalWindows.{StartsWithin}
use Rattle.any_traffic.specs.BlockedWindows.{AreBlocked, BlockedWindowLaw, IsBlockedLate, IsBlockedStart, IsGradual, IsLastBefore}
use Rattle.any_traffic.specs.PeriodicWindows.{PeriodicFlow, can_by, must_before, window_of}
use Rattle.any_traffic.specs.SharedSlots.{IsSharedSlot, slots_of}
use Rattle.any_traffic.proofs.BlockedSlots.{IsGate, IsReached, first_reached, first_sooner, next_reached, next_sooner, plan_gate, shared_before}
use Rattle.any_traffic.proofs.ListLaws.{none_here, one_before}
use Rattle.any_traffic.proofs.Offered.{queued_order}
use Rattle.any_traffic.proofs.PeriodicWindowLaws.{HavePeriod, as_many, must_more, the_frame}
use Rattle.any_traffic.proofs.RunParts.{sound_of}
use Rattle.any_traffic.proofs.SharedSlots.{AreSound, cover_of, slots_one}
use Rattle.any_traffic.proofs.SharedWaits.{IsUp, at_now, at_start, begun_from, main, waits_from}
use Rattle.any_traffic.proofs.StartLaws.{since_at}
use Rattle.any_traffic.proofs.Sharing.{SharedHolds, shared_run}

-- ---- the late run takes as many slots at least

module _ (may : ℕ → ℕ → Bool) (own pitch : ℕ) (blocking : ℕ → ℕ) (gate : IsGate may) (gradual : IsGradual blocking) (some : 0 < own) where
  -- the last start, if there is one, is no sooner than what blocked its window
  abbrev pub IsLast : Option ℕ → Type 0
  IsLast None = Unit {0}
  IsLast (Some r) = IsReached may own pitch blocking gate gradual r

  later_one : (s x y : ℕ) → s ≡ max x y → IsReached may own pitch blocking gate gradual x → IsReached may own pitch blocking gate gradual y
      → IsReached may own pitch blocking gate gradual s
  later_one s x y is a b = elim (cases_lt x y) [
    | inl less ↦ (let same : y ≡ s = omega (arith, is, less) in subst (IsReached may own pitch blocking gate gradual) same b)
    | inr more ↦ (let same : x ≡ s = omega (arith, is, more) in subst (IsReached may own pitch blocking gate gradual) same a)
  ]

  start_reached : (last : Option ℕ) (t s : ℕ) → IsLast last → IsBlockedStart may own pitch blocking last t s
      → IsReached may own pitch blocking gate gradual s
  start_reached None t s l h = first_reached may own pitch blocking gate gradual t s some h
  start_reached (Some r) t s l h =
      later_one s h.0 h.1 (let is = h.4 in let z : s ≡ max h.0 h.1 = omega (arith, is) in z)
      (first_reached may own pitch blocking gate gradual t h.0 some h.2)
      (next_reached may own pitch blocking gate gradual r h.1 some l h.3)

  sent_reached : (t n : ℕ) (last later : Option ℕ) → IsLast last → AreBlocked may own pitch blocking t n last later → IsLast later
  sent_reached t zero last later l same = subst IsLast (sym same) l
  sent_reached t (suc n) last later l sent = sent_reached t n (Some sent.0) later (start_reached last t sent.0 l sent.1) sent.2

  all_reached : (flows : List PeriodicFlow) (t : ℕ) (last : Option ℕ) → IsLastBefore may own pitch blocking flows t last → IsLast last
  all_reached flows zero last same = subst IsLast (sym same) tt
  all_reached flows (suc t) last h = sent_reached t (must_before flows (suc t) - must_before flows t) h.0 last
      (all_reached flows t h.0 h.1) h.2

  -- behind so many frames from p on the last start is no sooner than the last of as many slots
  abbrev pub IsPast : (p c : ℕ) → Option ℕ → Type 0
  IsPast p c last = (c ≡ 0) ⊎ ((b r s : ℕ) × (c ≡ suc b) × IsSharedSlot may own pitch blocking p b r × (last ≡ Some s) × (r ≤ s))

  one_past : (p t c : ℕ) (last : Option ℕ) (s : ℕ) → p ≤ t → IsLast last → IsPast p c last → IsBlockedStart may own pitch blocking last t s
      → IsPast p (suc c) (Some s)
  one_past p t c None s le l (inl none) h =
      let a = first_sooner may own pitch blocking gate gradual p t s le h in
      inr (0, a.0, s, omega (arith, none), a.1, refl, a.2)
  one_past p t c None s le l (inr w) h = absurd (let z : None ≡ Some w.2 = w.5 in cc)
  one_past p t c (Some r) s le l (inl none) h =
      let a = first_sooner may own pitch blocking gate gradual p t h.0 le h.2 in
      let by = a.2 in
      let is = h.4 in
      inr (0, a.0, s, omega (arith, none), a.1, refl, omega (arith, by, is))
  one_past p t c (Some r) s le l (inr w) h =
      let same = same_Some r w.2 w.5 in
      let before = w.6 in
      let count = w.3 in
      let a = next_sooner may own pitch blocking gate gradual w.1 r h.1 (omega (arith, same, before)) l some h.3 in
      let by = a.2 in
      let is = h.4 in
      inr (suc w.0, a.0, s, omega (arith, count), (w.1, w.4, a.1), refl, omega (arith, by, is))

  sent_past : (p t n c : ℕ) (last later : Option ℕ) → p ≤ t → IsLast last → IsPast p c last
      → AreBlocked may own pitch blocking t n last later → IsPast p (c + n) later
  sent_past p t zero c last later le l past same =
      let at : c ≡ c + 0 = omega arith in
      subst (λ k. IsPast p k later) at (subst (IsPast p c) (sym same) past)
  sent_past p t (suc n) c last later le l past sent =
      let at : suc c + n ≡ c + suc n = omega arith in
      subst (λ k. IsPast p k later) at
      (sent_past p t n (suc c) (Some sent.0) later le (start_reached last t sent.0 l sent.1)
      (one_past p t c last sent.0 le l past sent.1) sent.2)

  module _ (flows : List PeriodicFlow) (above : HavePeriod flows) where
    last_past : (p j : ℕ) (last : Option ℕ) → IsLastBefore may own pitch blocking flows (p + j) last
        → IsPast p (must_before flows (p + j) - must_before flows p) last
    last_past p zero last f = (let at : p + 0 ≡ p = omega arith in let same = ap (must_before flows) at in inl (omega (arith, same)))
    last_past p (suc j) last f =
        let at : p + suc j ≡ suc (p + j) = omega arith in
        let g = subst (λ t. IsLastBefore may own pitch blocking flows t last) at f in
        let was = last_past p j g.0 g.1 in
        let first = must_more flows p (p + j) above (omega arith) in
        let next = must_more flows (p + j) (suc (p + j)) above (omega arith) in
        let count : must_before flows (p + j) - must_before flows p + (must_before flows (suc (p + j)) - must_before flows (p + j))
        ≡ must_before flows (suc (p + j)) - must_before flows p = omega (arith, first, next) in
        subst (λ t. IsPast p (must_before flows t - must_before flows p) last) (sym at)
        (subst (λ c. IsPast p c last) count
        (sent_past p (p + j) (must_before flows (suc (p + j)) - must_before flows (p + j))
        (must_before flows (p + j) - must_before flows p) g.0 last
        (omega arith) (all_reached flows (p + j) g.0 g.1) was g.2))

    -- where so many may have come from p on the late start is no sooner than the slot behind the others
    pub blocked_past : (p t s c : ℕ) → p ≤ t → IsBlockedLate may own pitch blocking flows t s → suc c ≤ can_by flows t - must_before flows p
        → (r : ℕ) × IsSharedSlot may own pitch blocking p c r × (r ≤ s)
    blocked_past p t s c le h many =
        let at : p + (t - p) ≡ t = omega (arith, le) in
        let past = subst (λ u. IsPast p (must_before flows u - must_before flows p) h.0) at
        (last_past p (t - p) h.0 (subst (λ u. IsLastBefore may own pitch blocking flows u h.0) (sym at) h.1)) in
        by (sent_past p t (can_by flows t - must_before flows t) (must_before flows t - must_before flows p) h.0 (Some s) le
        (all_reached flows t h.0 h.1) past h.2)
      where
        by : IsPast p (must_before flows t - must_before flows p + (can_by flows t - must_before flows t)) (Some s)
            → (r : ℕ) × IsSharedSlot may own pitch blocking p c r × (r ≤ s)
        by (inl none) = absurd (let more = must_more flows p t above le in omega (arith, none, many, more))
        by (inr w) =
            let count = w.3 in
            let same = same_Some s w.2 w.5 in
            let before = w.6 in
            let more = must_more flows p t above le in
            let parts : w.0 ≡ c + (w.0 - c) = omega (arith, count, many, more) in
            let b = shared_before may own pitch blocking gate gradual p c (w.0 - c) w.1
            (subst (λ n. IsSharedSlot may own pitch blocking p n w.1) parts w.4) in
            let first = b.2 in
            (b.0, b.1, omega (arith, first, before, same))

-- ---- the frames of a run

pub blocked_window_law : BlockedWindowLaw
blocked_window_law ps mtu room c pitch need blocking a plan events flows numbers sharing wide gradual r short these come k i n s f flow e number
    place late =
    by held.phase
  where
    p : AbstractPort
    p = new_port ps mtu room

    came : List Came
    came = queued_in c events p

    all : List Start
    all = starts_in (answers_of events p)

    mine : List Start
    mine = starts_of_class c all

    now : ℕ
    now = (port_after events p).now

    pos : 0 < ps
    pos = (let rate = (r.one).rate in omega (arith, rate))

    held : SharedHolds c a ps (r.one).listed pos (port_after events p) came all
    held = shared_run c a ps (r.one).listed pos mtu room events (r.one).large r.scheduled (r.one).only

    above : HavePeriod flows
    above = λ j g at. (these j g at).0

    order : (j m : ℕ) (g h : Came) → slice_get came j ≡ Some g → slice_get came (j + m) ≡ Some h → g.moment ≤ h.moment
    order = queued_order c events p (r.one).large

    -- any number of frames may come at any time
    keep : ConformTo ps (need c) (λ x. length came) came
    keep = record {
      short = λ j g at. (let x = come.each j g at in let one = x.7 in let bound = (these x.0 x.2 x.4).1 in omega (arith, one, bound));
      few = λ j m g h at there. (let within = slice_get_within came (j + m) h there in omega (arith, within));
    }

    t : ℕ
    t = (window_of flow n).latest

    f_by : f.moment ≤ a.change + t
    f_by = (the_frame ps a.change flows numbers came come k i n f flow e number place).0.1

    some : 0 < need c
    some =
        let one = keep.short k f e in
        let more = occupancy_pos ps (f.frame).len pos in
        omega (arith, one, more)

    some_pitch : 0 < pitch
    some_pitch = (let need = some in omega (arith, need, wide))

    -- each frame covers one slot
    one_each : (n : ℕ) → slots_of (need c) pitch * n + 0 ≤ n
    one_each n =
        let all = mul-le-mul_right n (slots_one (need c) pitch some_pitch wide) in
        let one : 1 * n ≡ n = grind arith in
        omega (arith, all, one)

    in_force : (port_after events p).history ≡ a ∷ [] → StartsWithin ps mtu room c events a.change k s
    in_force full = (
      λ x y. by_late k 0 x.at f (let z : k + 0 ≡ k = omega arith in z) e
          (begun_from (a ∷ []) ps c (need c) all came keep.short now held.wire (queue_of (port_after events p) c) held.served k f x e y)
          ((at_start ps a pos all now c plan (r.one).is (r.one).above need blocking pitch (λ x. length came)
          (λ i j y. 0) [] sharing.blocked some_pitch sharing.among sound few came held.wire
          (queue_of (port_after events p) c) held.served held.since order keep k x y).later),
      λ past. elim (cases_lt k (length mine)) [
        | inl less ↦ less
        | inr more ↦
            let m : ℕ = length mine in
            let g = one_before came m k f more e in
            let parts : m + (k - m) ≡ k = omega (arith, more) in
            let not_yet = by_late m (k - m) now g.0 parts g.1
            (waits_from (a ∷ []) ps c (need c) all came keep.short now held.wire (queue_of (port_after events p) c) held.served m g.0 g.1
            (le_refl m))
            ((at_now ps a pos all now c plan (r.one).is (r.one).above need blocking pitch (λ x. length came)
            (λ i j y. 0) [] sharing.blocked some_pitch sharing.among sound few came held.wire
            (queue_of (port_after events p) c) held.served held.since order keep m (le_refl m)).later) in
            absurd (omega (arith, not_yet, past))
      ],
    )
      where
        sound : AreSound (a ∷ []) need all
        sound = sound_of ps mtu room a events need (r.one).rate (r.one).large full held.long short

        few : (j l : ℕ) → slice_get (let none : List ℕ = [] in none) j ≡ Some l → (u v : ℕ) → cover_of pitch l u (v + 1) all ≤ 0
        few j l at u v = absurd (none_here j l at)

        by_late : (j m moment : ℕ) (g : Came) → j + m ≡ k → slice_get came j ≡ Some g
            → (b : IsUp ps a pos all now c plan (r.one).is (r.one).above need blocking pitch (λ x. length came)
            (λ i j y. 0) [] sharing.blocked some_pitch sharing.among sound few came held.wire
            (queue_of (port_after events p) c) held.served held.since order keep j moment)
            → ((l : ℕ) (z : Start) → slice_get mine l ≡ Some z → j ≤ l → moment ≤ z.at) → moment ≤ a.change + s
        by_late j m moment g is at b later =
            let o = b.frame in
            let q : ℕ = o.moment - a.change in
            let within = b.within in
            let since = since_at a.change came b.place o held.since b.first in
            let parts : k ≡ b.place + (k - b.place) = omega (arith, within, is) in
            let there = sym (ap (slice_get came) parts) ∙ e in
            let to = order b.place (k - b.place) o f b.first there in
            let upto = f_by in
            let many = as_many ps a.change flows numbers came above come order b.place
            (k - b.place) t o f b.first there since f_by in
            let far = blocked_past (may_by plan c) (need c) pitch blocking (plan_gate plan c) gradual some flows above q t s (k - b.place)
            (omega (arith, to, upto, since)) late many in
            let count : k - b.place ≡ j - b.place + m = omega (arith, within, is) in
            let near = shared_before (may_by plan c) (need c) pitch blocking (plan_gate plan c) gradual q (j - b.place) m far.0
            (subst (λ x. IsSharedSlot (may_by plan c) (need c) pitch blocking q x far.0) count far.1) in
            let early = main ps a pos all now c plan (r.one).is (r.one).above need blocking pitch (λ x. length came)
            (λ i j y. 0) [] sharing.blocked some_pitch
            sharing.among sound few came held.wire
            (queue_of (port_after events p) c) held.served held.since order keep j moment g at b later
            (j - b.place) near.0 near.1 (one_each (j - b.place)) in
            let first = near.2 in
            let second = far.2 in
            omega (arith, early, first, second)

    by : ((port_after events p).history ≡ a ∷ []) ⊎ (((port_after events p).history ≡ []) × (came ≡ []))
        → StartsWithin ps mtu room c events a.change k s
    by (inl full) = in_force full
    by (inr none) = absurd (none_here k f (sym (ap (λ xs. slice_get xs k) none.1) ∙ e))
