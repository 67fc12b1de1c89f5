-- Frames of periodic flows with jitter start no later than in the late run.
use Rattle.std.proofs.Common.{◌≡◌, ◌<◌, ◌≤◌, ℕ, zero, suc, ◌+◌, ◌-◌, ◌*◌, max, Bool, ◌⊎◌, inl, inr, List, [], ◌∷◌, length, get_or, slice_get, Some, refl, sym, ap, ◌∙◌, subst, arith, le_refl, mul_comm, add-mul}
use Rattle.std.specs.Prelude.{sum_by}
use Rattle.std.proofs.Math.Nat.{le-div_iff_mul-le}
use Rattle.std.proofs.lemmas.Bool.{cases_lt}
use Rattle.std.proofs.lemmas.List.Sums.{sum_by-cons}
use Rattle.std.proofs.lemmas.Option.{get_or_from_slice_get, same_Some, slice_get_within}
use Rattle.wire_time.specs.Wire.{occupancy_of}
use Rattle.gates.specs.Gate.{Plan}
use Rattle.abstract_port.specs.AbstractPort.{AbstractPort, new_port}
use Rattle.abstract_port.specs.Served.{IsFirst}
use Rattle.abstract_port.specs.Traffic.{Came, queued_in}
use Rattle.delay_bounds.specs.Walk.{may_by}
use Rattle.any_traffic.specs.ArrivalWindows.{IsIn}
use Rattle.any_traffic.specs.Runs.{end_of_run, started}
use Rattle.any_traffic.specs.Slots.{IsSlot, IsBySlot}
use Rattle.any_traffic.specs.PeriodicWindows.{AreSent, ComeByFlows, IsFreeFrom, IsLateStart, PeriodicFlow, PeriodicWindowLaw, before, can_by, must_before, window_of}
use Rattle.any_traffic.proofs.Counting.{no_more_pairs, total_list}
use Rattle.any_traffic.proofs.ListLaws.{one_before}
use Rattle.any_traffic.proofs.Offered.{queued_order}
use Rattle.any_traffic.proofs.SlotLaws.{both_slots, slot_before, slot_sooner, sooner}
use Rattle.any_traffic.proofs.TrafficLaws.{slot_law}

-- ---- how many come before a moment

pub before_is : (o t n u : ℕ) → 0 < t → n < before o t u → o + t * n < u
before_is o t n u above less =
    let all : (n + 1) * t ≤ u - o + (t - 1) = (le-div_iff_mul-le above).0 (let z : n + 1 ≤ before o t u = omega (arith, less) in z) in
    let parts : (n + 1) * t ≡ n * t + 1 * t = add-mul n 1 t in
    let turned = mul_comm n t in
    omega (arith, all, parts, turned, above)

pub before_of : (o t n u : ℕ) → 0 < t → o + t * n < u → n < before o t u
before_of o t n u above less =
    let parts : (n + 1) * t ≡ n * t + 1 * t = add-mul n 1 t in
    let turned = mul_comm n t in
    let all : n + 1 ≤ before o t u = (le-div_iff_mul-le above).1
    (let z : (n + 1) * t ≤ u - o + (t - 1) = omega (arith, less, parts, turned, above) in z) in
    omega (arith, all)

-- no fewer where they come no later, by a later moment
pub before_more : (o p t u v : ℕ) → 0 < t → p ≤ o → u ≤ v → before o t u ≤ before p t v
before_more o p t u v above sooner later = by (before o t u) refl
  where
    by : (n : ℕ) → before o t u ≡ n → n ≤ before p t v
    by zero e = omega arith
    by (suc n) e =
        let last = before_is o t n u above (omega (arith, e)) in
        before_of p t n v above (omega (arith, last, sooner, later))

-- ---- of all flows

abbrev pub HavePeriod : List PeriodicFlow → Type 0
HavePeriod flows = (i : ℕ) (flow : PeriodicFlow) → slice_get flows i ≡ Some flow → 0 < flow.period

pub must_more : (flows : List PeriodicFlow) (u v : ℕ) → HavePeriod flows → u ≤ v → must_before flows u ≤ must_before flows v
must_more [] u v above le = omega arith
must_more (flow ∷ flows) u v above le =
    let here = before_more (flow.offset + flow.jitter) (flow.offset + flow.jitter) flow.period u v (above 0 flow refl)
    (le_refl (flow.offset + flow.jitter)) le in
    let rest = must_more flows u v (λ i f e. above (suc i) f e) le in
    let a = sum_by-cons (λ (f : PeriodicFlow). before (f.offset + f.jitter) f.period u) flow flows in
    let b = sum_by-cons (λ (f : PeriodicFlow). before (f.offset + f.jitter) f.period v) flow flows in
    omega (arith, here, rest, a, b)

-- of one flow, as many as may have come by t less those that must have come before p
abbrev pub wide_of : (p t : ℕ) → PeriodicFlow → ℕ
wide_of p t flow = before flow.offset flow.period (t + 1) - before (flow.offset + flow.jitter) flow.period p

pub all_wide : (flows : List PeriodicFlow) (p t : ℕ) → HavePeriod flows → p ≤ t
    → sum_by (wide_of p t) flows + must_before flows p ≡ can_by flows t
all_wide [] p t above le = refl
all_wide (flow ∷ flows) p t above le =
    let here = before_more (flow.offset + flow.jitter) flow.offset flow.period p (t + 1) (above 0 flow refl)
    (let z : flow.offset ≤ flow.offset + flow.jitter = omega arith in z) (let z : p ≤ t + 1 = omega (arith, le) in z) in
    let rest = all_wide flows p t (λ i f e. above (suc i) f e) le in
    let a = sum_by-cons (wide_of p t) flow flows in
    let b = sum_by-cons (λ (f : PeriodicFlow). before (f.offset + f.jitter) f.period p) flow flows in
    let c = sum_by-cons (λ (f : PeriodicFlow). before f.offset f.period (t + 1)) flow flows in
    omega (arith, here, rest, a, b, c)

-- ---- the late run takes as many slots at least

module _ (may : ℕ → ℕ → Bool) (d : ℕ) where
  -- behind so many frames from p on the wire is free no sooner than behind as many slots
  abbrev pub IsPast : (p c free : ℕ) → Type 0
  IsPast p c free = (c ≡ 0) ⊎ ((b : ℕ) × (r : ℕ) × (c ≡ suc b) × IsSlot may d p b r × (r + d ≤ free))

  one_past : (p t c free s : ℕ) → p ≤ t → IsPast p c free → IsFirst may d (max t free) s → IsPast p (suc c) (s + d)
  one_past p t c free s le (inl none) h =
      let a = sooner may d p (max t free) s (omega (arith, le)) h in
      let before = a.2 in
      inr (0, a.0, omega (arith, none), a.1, omega (arith, before))
  one_past p t c free s le (inr w) h =
      let from = w.4 in
      let count = w.2 in
      let a = sooner may d (w.1 + d) (max t free) s (omega (arith, from)) h in
      let before = a.2 in
      let at : suc (w.0 + 0) ≡ suc w.0 = omega arith in
      inr (
        suc w.0,
        a.0,
        omega (arith, count),
        subst (λ k. IsSlot may d p k a.0) at (both_slots may d p w.0 0 w.1 a.0 w.3 a.1),
        omega
            (arith, before),
      )

  sent_past : (p t n c free later : ℕ) → p ≤ t → IsPast p c free → AreSent may d t n free later → IsPast p (c + n) later
  sent_past p t zero c free later le past same =
      let at : c ≡ c + 0 = omega arith in
      subst (λ k. IsPast p k later) at (subst (IsPast p c) (sym same) past)
  sent_past p t (suc n) c free later le past sent =
      let at : suc c + n ≡ c + suc n = omega arith in
      subst (λ k. IsPast p k later) at (sent_past p t n (suc c) (sent.0 + d) later le (one_past p t c free sent.0 le past sent.1) sent.2)

  module _ (flows : List PeriodicFlow) (above : HavePeriod flows) where
    free_past : (p j free : ℕ) → IsFreeFrom may d flows (p + j) free → IsPast p (must_before flows (p + j) - must_before flows p) free
    free_past p zero free f = (let at : p + 0 ≡ p = omega arith in let same = ap (must_before flows) at in inl (omega (arith, same)))
    free_past p (suc j) free f =
        let at : p + suc j ≡ suc (p + j) = omega arith in
        let g = subst (λ t. IsFreeFrom may d flows t free) at f in
        let was = free_past p j g.0 g.1 in
        let first = must_more flows p (p + j) above (omega arith) in
        let last = must_more flows (p + j) (suc (p + j)) above (omega arith) in
        let count : must_before flows (p + j) - must_before flows p +
        (must_before flows (suc (p + j)) - must_before flows (p + j)) ≡ must_before flows (suc (p + j)) - must_before flows p = omega
        (arith, first, last) in
        subst (λ t. IsPast p (must_before flows t - must_before flows p) free) (sym at)
        (subst (λ c. IsPast p c free) count
        (sent_past p (p + j) (must_before flows (suc (p + j)) - must_before flows (p + j))
        (must_before flows (p + j) - must_before flows p) g.0 free (omega arith) was g.2))

    -- what starts behind so many others at t is no sooner than the slot behind them and those that come from p on before t
    pub slots_past : (p t j free s : ℕ) → p ≤ t → IsFreeFrom may d flows t free → IsSlot may d (max t free) j s
        → (r : ℕ) × IsSlot may d p (must_before flows t - must_before flows p + j) r × (r ≤ s)
    slots_past p t j free s le f slot =
        let at : p + (t - p) ≡ t = omega (arith, le) in
        by (subst (λ u. IsPast p (must_before flows u - must_before flows p) free) at
        (free_past p (t - p) free (subst (λ u. IsFreeFrom may d flows u free) (sym at) f)))
      where
        by : IsPast p (must_before flows t - must_before flows p) free
            → (r : ℕ) × IsSlot may d p (must_before flows t - must_before flows p + j) r × (r ≤ s)
        by (inl none) =
            let b = slot_sooner may d p (max t free) j s (omega (arith, le)) slot in
            let count : j ≡ must_before flows t - must_before flows p + j = omega (arith, none) in
            (b.0, subst (λ n. IsSlot may d p n b.0) count b.1, b.2)
        by (inr w) =
            let is = w.2 in
            let from = w.4 in
            let b = slot_sooner may d (w.1 + d) (max t free) j s (omega (arith, from)) slot in
            let count : suc (w.0 + j) ≡ must_before flows t - must_before flows p + j = omega (arith, is) in
            (b.0, subst (λ n. IsSlot may d p n b.0) count (both_slots may d p w.0 j w.1 b.0 w.3 b.1), b.2)

    -- where so many may have come from p on the late start is no sooner than the slot behind the others
    pub late_past : (p t s c : ℕ) → p ≤ t → IsLateStart may d flows t s → suc c ≤ can_by flows t - must_before flows p
        → (r : ℕ) × IsSlot may d p c r × (r ≤ s)
    late_past p t s c le h some =
        let m : ℕ = can_by flows t - must_before flows t - 1 in
        let a = slots_past p t m h.0 s le h.1 h.2 in
        let more = must_more flows p t above le in
        let n : ℕ = must_before flows t - must_before flows p + m in
        let parts : n ≡ c + (n - c) = omega (arith, some, more) in
        let b = slot_before may d p c (n - c) n a.0 parts a.1 in
        let first = b.2 in
        let second = a.2 in
        (b.0, b.1, omega (arith, first, second))

-- ---- the frames of a run

no_flow : PeriodicFlow
no_flow = record { offset = 0; period = 0; jitter = 0; shortest = 0; longest = 0 }

module _ (ps change : ℕ) (flows : List PeriodicFlow) (numbers : List (ℕ × ℕ)) (came : List Came)
    (above : HavePeriod flows) (c : ComeByFlows ps change flows numbers came)
    (order : (k n : ℕ) (f g : Came) → slice_get came k ≡ Some f → slice_get came (k + n) ≡ Some g → f.moment ≤ g.moment) where
  abbrev low : ℕ → ℕ → ℕ
  low p i = (λ (flow : PeriodicFlow). before (flow.offset + flow.jitter) flow.period p) (get_or flows i no_flow)

  abbrev wide : ℕ → ℕ → ℕ → ℕ
  wide p t i = wide_of p t (get_or flows i no_flow)

  -- so many may have come from when the first of them came
  pub as_many : (j n t : ℕ) (g f : Came) → slice_get came j ≡ Some g → slice_get came (j + n) ≡ Some f → change ≤ g.moment
      → f.moment ≤ change + t
      → suc n ≤ can_by flows t - must_before flows (g.moment - change)
  as_many j n t g f first at since by =
      let to = order j n g f first at in
      let le : g.moment - change ≤ t = omega (arith, to, by, since) in
      let few = no_more_pairs place number (length flows) (low p) (wide p t) (suc n) within apart in
      let all = total_list (wide_of p t) no_flow flows in
      let parts = all_wide flows p t above le in
      omega (arith, few, all, parts)
    where
      p : ℕ
      p = g.moment - change

      pair : ℕ → ℕ × ℕ
      pair k = get_or numbers (j + k) (0, 0)

      place : ℕ → ℕ
      place k = (pair k).0

      number : ℕ → ℕ
      number k = (pair k).1

      frame : (k : ℕ) → k < suc n → (h : Came) × (slice_get came (j + k) ≡ Some h)
      frame k less = one_before came (j + k) (j + n) f (omega (arith, less)) at

      is_pair : (k : ℕ) (x : ℕ × ℕ) → slice_get numbers (j + k) ≡ Some x → pair k ≡ x
      is_pair k x e = get_or_from_slice_get numbers (j + k) x (0, 0) e

      within : (k : ℕ) → k < suc n
          → (place k < length flows) × (low p (place k) ≤ number k) × (number k < low p (place k) + wide p t (place k))
      within k less =
          let h = frame k less in
          let e = c.each (j + k) h.0 h.1 in
          let i = e.0 in
          let m = e.1 in
          let flow = e.2 in
          let is = is_pair k (i, m) e.3 in
          let in_it = slice_get_within flows i flow e.4 in
          let here = get_or_from_slice_get flows i flow no_flow e.4 in
          let early = e.5.0 in
          let late = e.5.1 in
          let from = order j k g h.0 first h.1 in
          let parts : j + n ≡ j + k + (n - k) = omega (arith, less) in
          let to = order (j + k) (n - k) h.0 f h.1 (sym (ap (slice_get came) parts) ∙ at) in
          let period = above i flow e.4 in
          let can : m < before flow.offset flow.period (t + 1) = before_of flow.offset flow.period m (t + 1) period
          (omega (arith, early, to, by)) in
          let must : before (flow.offset + flow.jitter) flow.period p ≤ m = elim
          (cases_lt m (before (flow.offset + flow.jitter) flow.period p)) [
            | inr fits ↦ fits
            | inl gone ↦ (let was = before_is (flow.offset + flow.jitter) flow.period m p period gone in absurd
                (omega (arith, was, late, from, since)))
          ] in
          subst (λ (x : ℕ × ℕ). (x.0 < length flows) × (low p x.0 ≤ x.1) × (x.1 < low p x.0 + wide p t x.0)) (sym is)
          (subst (λ (y : PeriodicFlow). (i < length flows) × (before (y.offset + y.jitter) y.period p ≤ m) ×
          (m < before (y.offset + y.jitter) y.period p + wide_of p t y)) (sym here)
          (in_it, must, omega (arith, can, must)))

      apart : (x y : ℕ) → x < suc n → y < suc n → place x ≡ place y → number x ≡ number y → x ≡ y
      apart x y lx ly same_place same_number =
          let h = frame x lx in
          let i = frame y ly in
          let a = c.each (j + x) h.0 h.1 in
          let b = c.each (j + y) i.0 i.1 in
          let mine = is_pair x (a.0, a.1) a.3 in
          let other = is_pair y (b.0, b.1) b.3 in
          let places : b.0 ≡ a.0 = sym (ap (λ (z : ℕ × ℕ). z.0) other) ∙ (sym same_place ∙ ap (λ (z : ℕ × ℕ). z.0) mine) in
          let numbers_same : b.1 ≡ a.1 = sym (ap (λ (z : ℕ × ℕ). z.1) other) ∙ (sym same_number ∙ ap (λ (z : ℕ × ℕ). z.1) mine) in
          let both : (b.0, b.1) ≡ (a.0, a.1) = cc in
          let one = c.own (j + x) (j + y) (a.0, a.1) a.3 (b.3 ∙ ap Some both) in
          omega (arith, one)

  -- what is by a slot of the frame or of one before it is by the late start
  pub by_late : (d : ℕ) (plan : Plan) (class k m n moment t s : ℕ) (f : Came) → m + n ≡ k → IsBySlot plan class d change came m moment
      → slice_get came k ≡ Some f
      → f.moment ≤ change + t
      → IsLateStart (may_by plan class) d flows t s → moment ≤ change + s
  by_late d plan class k m n moment t s f is b e by h =
      let g = b.frame in
      let sum = b.sum in
      let since = b.since in
      let at : k ≡ b.place + (b.more + n) = omega (arith, is, sum) in
      let there = sym (ap (slice_get came) at) ∙ e in
      let many = as_many b.place (b.more + n) t g f b.first there since by in
      let to = order b.place (b.more + n) g f b.first there in
      let r = late_past (may_by plan class) d flows above (g.moment - change) t s (b.more + n) (omega (arith, to, by, since)) h many in
      let q = slot_before (may_by plan class) d (g.moment - change) b.more n (b.more + n) r.0 refl r.1 in
      let late = b.by q.0 q.1 in
      let first = q.2 in
      let second = r.2 in
      omega (arith, late, first, second)

-- a frame of a number is in its window
pub the_frame : (ps change : ℕ) (flows : List PeriodicFlow) (numbers : List (ℕ × ℕ)) (came : List Came)
    → ComeByFlows ps change flows numbers came
    → (k i n : ℕ) (f : Came) (flow : PeriodicFlow) → slice_get came k ≡ Some f → slice_get numbers k ≡ Some (i, n)
    → slice_get flows i ≡ Some flow
    → IsIn change (window_of flow n) f.moment × (flow.shortest ≤ occupancy_of ps f.frame.len) × (occupancy_of ps f.frame.len ≤ flow.longest)
the_frame ps change flows numbers came c k i n f flow e number place =
    let own = c.each k f e in
    let same : (own.0, own.1) ≡ (i, n) = same_Some (own.0, own.1) (i, n) (sym own.3 ∙ number) in
    let same_place : own.0 ≡ i = ap (λ (x : ℕ × ℕ). x.0) same in
    let same_number : own.1 ≡ n = ap (λ (x : ℕ × ℕ). x.1) same in
    let same_flow : own.2 ≡ flow = same_Some own.2 flow (sym own.4 ∙ (ap (slice_get flows) same_place ∙ place)) in
    subst (λ (x : PeriodicFlow). IsIn change (window_of x n) f.moment × (x.shortest ≤ occupancy_of ps f.frame.len) ×
    (occupancy_of ps f.frame.len ≤ x.longest)) same_flow
    (subst (λ m. IsIn change (window_of own.2 m) f.moment) same_number own.5, own.6, own.7)

pub periodic_window_law : PeriodicWindowLaw
periodic_window_law ps mtu room class d a plan events flows numbers r these c k i n s f flow e number place last =
    let p : AbstractPort = new_port ps mtu room in
    let came : List Came = queued_in class events p in
    let above : HavePeriod flows = λ j g at. (these j g at).0 in
    let short : (j : ℕ) (g : Came) → slice_get came j ≡ Some g → occupancy_of ps g.frame.len ≤ d = λ j g at.
    (let x = c.each j g at in
    let need = x.7 in
    let bound = (these x.0 x.2 x.4).1 in
    omega (arith, need, bound)) in
    let slots = slot_law ps mtu room class d a plan events r short in
    let order = queued_order class events p (r.one).large in
    let late = (the_frame ps a.change flows numbers came c k i n f flow e number place).0.1 in
    let t : ℕ = (window_of flow n).latest in (
      λ x y. by_late ps a.change flows numbers came above c order d plan class k k 0 x.at t s f (let z : k + 0 ≡ k = omega arith in z)
          (slots.starts k f x e y) e late last,
      λ past. elim (cases_lt k (length (started ps mtu room class events))) [
        | inl less ↦ less
        | inr more ↦
            let m : ℕ = length (started ps mtu room class events) in
            let g = one_before came m k f more e in
            let parts : m + (k - m) ≡ k = omega (arith, more) in
            let not_yet = by_late ps a.change flows numbers came above c order d plan class k m (k - m)
            (end_of_run ps mtu room events) t s f parts (slots.waits g.0 g.1) e late last in
            absurd (omega (arith, not_yet, past))
      ],
    )
