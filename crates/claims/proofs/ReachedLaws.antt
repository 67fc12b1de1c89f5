-- In a run that delays it the most a frame starts at its late start exactly.
use Rattle.std.proofs.Common.{◌≡◌, ◌<◌, ◌≤◌, ℕ, zero, suc, ◌+◌, ◌-◌, ◌*◌, max, Bool, inl, inr, List, [], ◌∷◌, length, get_or, slice_get, Some, refl, sym, ap, ◌∙◌, subst, arith}
use Rattle.std.proofs.lemmas.Bool.{cases_lt}
use Rattle.std.proofs.lemmas.Option.{get_or_from_slice_get, same_Some}
use Rattle.wire_time.specs.Wire.{occupancy_of}
use Rattle.wire_time.specs.declared.Frame.{Frame}
use Rattle.gates.specs.Gate.{Plan}
use Rattle.gates.specs.History.{Accepted, open_through}
use Rattle.abstract_port.specs.declared.Event.{Event}
use Rattle.abstract_port.specs.declared.Start.{Start}
use Rattle.abstract_port.specs.AbstractPort.{new_port}
use Rattle.abstract_port.specs.Served.{AreServed, IsFirst}
use Rattle.abstract_port.specs.Traffic.{Came}
use Rattle.abstract_port.proofs.ServiceLaws.{served_law}
use Rattle.delay_bounds.specs.Walk.{may_by}
use Rattle.delay_bounds.proofs.GateLaws.{same_gates}
use Rattle.any_traffic.specs.PeriodicWindows.{PeriodicFlow, before, can_by, must_before, window_of}
use Rattle.any_traffic.specs.Runs.{IsApartRun, queued, started}
use Rattle.any_traffic.specs.Slots.{IsSlot}
use Rattle.any_traffic.proofs.Counting.{total_list}
use Rattle.any_traffic.proofs.ListLaws.{none_here, one_at, one_before}
use Rattle.any_traffic.proofs.Offered.{queued_order}
use Rattle.any_traffic.proofs.PeriodicWindowLaws.{HavePeriod, all_wide, as_many, before_is, before_of, periodic_window_law, wide_of}
use Rattle.any_traffic.proofs.SlotLaws.{one_slot, slot_since, sooner}
use Rattle.claims.specs.WindowsReached.{GreatestReachedLaw, IsDelayedMost, WindowsReachedLaw}
use Rattle.claims.proofs.LateStarts.{late_slot}
use Rattle.claims.proofs.PairCounts.{no_fewer_pairs}

-- ---- frames of one length start no sooner than the slots

module _ (may : ℕ → ℕ → Bool) (ps class d now : ℕ) where
  abbrev AreEach : List Came → Type 0
  AreEach came = (k : ℕ) (f : Came) → slice_get came k ≡ Some f → occupancy_of ps f.frame.len ≡ d

  -- from a moment on, where the wire is free no sooner, or the first one comes no sooner
  from_on : (t free : ℕ) (came : List Came) (starts : List Start) (wire : ℕ) (waiting : List Frame)
      → AreServed may ps class free now came starts wire waiting → AreEach came
      → ((f : Came) → slice_get came 0 ≡ Some f → t ≤ max f.moment free)
      → (n : ℕ) (x : Start) → slice_get starts n ≡ Some x → (r : ℕ) × IsSlot may d t n r × (r ≤ x.at)
  from_on t free came [] wire waiting served even from n x e = absurd (none_here n x e)
  from_on t free [] (y ∷ starts) wire waiting served even from n x e = absurd served
  from_on t free (f ∷ came) (y ∷ starts) wire waiting served even from n x e =
      let need = even 0 f refl in
      let is = served.0 in
      let first = sooner may d t (max f.moment free) y.at (from f refl) (subst (λ k. IsFirst may k (max f.moment free) y.at) need is.first) in
      by n first (λ later r m g. from_on later y.«end» came starts wire waiting served.1 (λ k g e. even (suc k) g e) r m x g)
      (ap (λ (z : Start). z.«end») is.is ∙ ap (λ k. y.at + k) need) e
    where
      by : (n : ℕ) → (r : ℕ) × IsFirst may d t r × (r ≤ y.at)
          → ((later : ℕ) → ((g : Came) → slice_get came 0 ≡ Some g → later ≤ max g.moment y.«end») → (m : ℕ) → slice_get starts m ≡ Some x
          → (r : ℕ) × IsSlot may d later m r × (r ≤ x.at))
          → y.«end» ≡ y.at + d → slice_get (y ∷ starts) n ≡ Some x → (r : ℕ) × IsSlot may d t n r × (r ≤ x.at)
      by zero first on end e = (first.0, first.1, subst (λ (z : Start). first.0 ≤ z.at) (same_Some y x e) first.2)
      by (suc m) first on end e =
          let before = first.2 in
          let rest = on (first.0 + d) (λ g h. omega (arith, before, end)) m e in
          (rest.0, (first.0, first.1, rest.1), rest.2)

  -- behind others
  from_place : (t : ℕ) (j free : ℕ) (came : List Came) (starts : List Start) (wire : ℕ) (waiting : List Frame)
      → AreServed may ps class free now came starts wire waiting → AreEach came
      → ((f : Came) → slice_get came j ≡ Some f → t ≤ f.moment)
      → (n : ℕ) (x : Start) → slice_get starts (j + n) ≡ Some x → (r : ℕ) × IsSlot may d t n r × (r ≤ x.at)
  from_place t zero free came starts wire waiting served even from n x e =
      let at : 0 + n ≡ n = omega arith in
      from_on t free came starts wire waiting served even (λ f h. (let first = from f h in omega (arith, first))) n x
      (ap (slice_get starts) (sym at) ∙ e)
  from_place t (suc j) free came [] wire waiting served even from n x e = absurd (none_here (suc j + n) x e)
  from_place t (suc j) free [] (y ∷ starts) wire waiting served even from n x e = absurd served
  from_place t (suc j) free (f ∷ came) (y ∷ starts) wire waiting served even from n x e =
      let at : suc j + n ≡ suc (j + n) = omega arith in
      from_place t j y.«end» came starts wire waiting served.1 (λ k g h. even (suc k) g h) from n x
      (ap (slice_get (y ∷ starts)) (sym at) ∙ e)

-- ---- as many come from a moment on as the late run has

no_flow : PeriodicFlow
no_flow = record { offset = 0; period = 0; jitter = 0; shortest = 0; longest = 0 }

module _ (ps change d : ℕ) (flows : List PeriodicFlow) (numbers : List (ℕ × ℕ)) (came : List Came) (above : HavePeriod flows)
    (order : (k n : ℕ) (f g : Came) → slice_get came k ≡ Some f → slice_get came (k + n) ≡ Some g → f.moment ≤ g.moment)
    (k last : ℕ) (most : IsDelayedMost ps change d flows numbers came k last) where
  abbrev low : ℕ → ℕ → ℕ
  low p i = (λ (flow : PeriodicFlow). before (flow.offset + flow.jitter) flow.period p) (get_or flows i no_flow)

  abbrev wide : ℕ → ℕ → ℕ
  wide p i = wide_of p last (get_or flows i no_flow)

  -- each of those that may have come by then, and needn't have come before another moment, comes from that on
  record IsThere (p i n : ℕ) : Type 0 where
    pub place : ℕ
    pub frame : Came
    pub pair : slice_get numbers place ≡ Some (i, n)
    pub is : slice_get came place ≡ Some frame
    pub within : place ≤ k
    pub since : change + p ≤ frame.moment

  there : (p i n : ℕ) → p ≤ last → i < length flows → low p i ≤ n → n < low p i + wide p i → IsThere p i n
  there p i n le inside from below =
      let flow = one_at flows i inside in
      let same = get_or_from_slice_get flows i flow.0 no_flow flow.1 in
      by flow.0 flow.1 (subst (λ (y : PeriodicFlow). before (y.offset + y.jitter) y.period p ≤ n) same from)
      (subst (λ (y : PeriodicFlow). n < before (y.offset + y.jitter) y.period p + wide_of p last y) same below)
    where
      by : (flow : PeriodicFlow) → slice_get flows i ≡ Some flow → before (flow.offset + flow.jitter) flow.period p ≤ n
          → n < before (flow.offset + flow.jitter) flow.period p + wide_of p last flow → IsThere p i n
      by flow e from below =
          let period = above i flow e in
          let come = before_is flow.offset flow.period n (last + 1) period (omega (arith, from, below)) in
          let late : p ≤ flow.offset + flow.jitter + flow.period * n = elim (cases_lt (flow.offset + flow.jitter + flow.period * n) p) [
            | inr fits ↦ fits
            | inl gone ↦ (let was = before_of (flow.offset + flow.jitter) flow.period n p period gone in absurd (omega (arith, was, from)))
          ] in
          let r = most.all i n flow e (omega (arith, come)) in
          let moment = r.5 in
          record { place = r.0; frame = r.1; pair = r.2; is = r.3; within = r.4; since = omega (arith, moment, late, le) }

  abbrev pair_at : ℕ → ℕ → ℕ × ℕ
  pair_at j m = get_or numbers (j + m) (0, 0)

  -- so many places are enough for them, where they stand from one on
  places_for : (p j n : ℕ) → p ≤ last → k < j + n → ((m : ℕ) (f : Came) → slice_get came m ≡ Some f → change + p ≤ f.moment → j ≤ m)
      → can_by flows last ≤ must_before flows p + n
  places_for p j n le upto from =
      let few = no_fewer_pairs (λ m. (pair_at j m).0) (λ m. (pair_at j m).1) (length flows) (low p) (wide p) n
      (λ i v inside low_v below.
      let t = there p i v le inside low_v below in
      let after = from t.place t.frame t.is t.since in
      let within = t.within in
      let at : j + (t.place - j) ≡ t.place = omega (arith, after) in
      let is : pair_at j (t.place - j) ≡ (i, v) = ap (λ m. get_or numbers m (0, 0)) at ∙ get_or_from_slice_get numbers t.place (i, v) (0, 0) t.pair in
      (t.place - j, omega (arith, after, within, upto), ap (λ (x : ℕ × ℕ). x.0) is, ap (λ (x : ℕ × ℕ). x.1) is)) in
      let all = total_list (wide_of p last) no_flow flows in
      let parts = all_wide flows p last above le in
      omega (arith, few, all, parts)

  -- so the frame so many places before it comes from that moment on
  comes_since : (p c : ℕ) (g : Came) → p ≤ last → can_by flows last ≡ must_before flows p + suc c → slice_get came (k - c) ≡ Some g
      → (c ≤ k) × (change + p ≤ g.moment)
  comes_since p c g le count is =
      let all = places_for p 0 (suc k) le (omega arith) (λ m f e since. omega arith) in
      let within : c ≤ k = omega (arith, all, count) in
      elim (cases_lt g.moment (change + p)) [
        | inr since ↦ (within, since)
        | inl sooner ↦
            let few = places_for p (suc (k - c)) c le (omega (arith, within)) (λ m f e since. behind m f e since sooner) in
            absurd (omega (arith, few, count))
      ]
    where
      behind : (m : ℕ) (f : Came) → slice_get came m ≡ Some f → change + p ≤ f.moment → g.moment < change + p → suc (k - c) ≤ m
      behind m f e since sooner = elim (cases_lt (k - c) m) [
        | inl after ↦ after
        | inr before ↦
            let at : m + (k - c - m) ≡ k - c = omega (arith, before) in
            let to = order m (k - c - m) f g e (ap (slice_get came) at ∙ is) in
            absurd (omega (arith, to, since, sooner))
      ]

-- ---- in a run

equal : (m n : ℕ) → m ≤ n → n ≤ m → m ≡ n
equal m n le ge = omega arith

-- the frame behind so many others that come from a moment on starts no sooner than their slot
no_sooner : (ps mtu room class d : ℕ) (a : Accepted) (plan : Plan) (events : List Event) → IsApartRun ps mtu room class events a plan
    → ((j : ℕ) (f : Came) → slice_get (queued ps mtu room class events) j ≡ Some f → occupancy_of ps f.frame.len ≡ d)
    → (p j n s : ℕ) (g : Came) (x : Start) → slice_get (queued ps mtu room class events) j ≡ Some g → a.change + p ≤ g.moment
    → slice_get (started ps mtu room class events) (j + n) ≡ Some x → IsSlot (may_by plan class) d p n s → a.change + s ≤ x.at
no_sooner ps mtu room class d a plan events r even p j n s g x is since start slot =
    let served = served_law ps mtu room class a events (r.one).rate (r.one).large (r.one).listed r.apart (r.one).only in
    let low = from_place (open_through (a ∷ []) class) ps class d _ (a.change + p) j 0 _ _ _ _ served.served even
    (λ h at. subst (λ (z : Came). a.change + p ≤ z.moment) (same_Some g h (sym is ∙ at)) since) n x start in
    let mine = slot_since a class d p n s
    (subst (λ may. IsSlot may d p n s) (sym (same_gates a plan (r.one).is (r.one).above class)) slot) in
    subst (λ m. m ≤ x.at) (one_slot (open_through (a ∷ []) class) d (a.change + p) n low.0 (a.change + s) low.1 mine) low.2

pub windows_reached_law : WindowsReachedLaw
windows_reached_law ps mtu room class d a plan events flows numbers r these c k i n s f flow e number place most last =
    let by = periodic_window_law ps mtu room class d a plan events flows numbers r these c k i n s f flow e number place last in
    (λ x y. equal x.at (a.change + s) (by.0 x y) (early x y), by.1)
  where
    came : List Came
    came = queued ps mtu room class events

    above : HavePeriod flows
    above j g at = (these j g at).0

    order : (k n : ℕ) (f g : Came) → slice_get came k ≡ Some f → slice_get came (k + n) ≡ Some g → f.moment ≤ g.moment
    order = queued_order class events (new_port ps mtu room) (r.one).large

    t : ℕ
    t = (window_of flow n).latest

    -- it comes at its latest moment
    moment : f.moment ≡ a.change + t
    moment =
        let mine = most.all i n flow place (omega arith) in
        let same_place : mine.0 ≡ k = c.own mine.0 k (i, n) mine.2 number in
        let same_frame : mine.1 ≡ f = same_Some mine.1 f (sym mine.3 ∙ (ap (slice_get came) same_place ∙ e)) in
        let is = mine.5 in
        let same = ap (λ (g : Came). g.moment) same_frame in
        omega (arith, is, same)

    -- so it may have come then, and need not have come before
    some : must_before flows t < can_by flows t
    some =
        let at = moment in
        let back : f.moment - a.change ≡ t = omega (arith, at) in
        let none : k + 0 ≡ k = omega arith in
        let one = as_many ps a.change flows numbers came above c order k 0 t f f e (ap (slice_get came) none ∙ e) (omega (arith, at))
        (omega (arith, at)) in
        let same = ap (must_before flows) back in
        omega (arith, one, same)

    early : (x : Start) → slice_get (started ps mtu room class events) k ≡ Some x → a.change + s ≤ x.at
    early x y =
        let busy = late_slot (may_by plan class) d flows above t s some last in
        let g = one_before came (k - busy.more) k f (omega arith) e in
        let since = comes_since ps a.change d flows numbers came above order k t most busy.from busy.more g.0 busy.early busy.all g.1 in
        let within = since.0 in
        let parts : k - busy.more + busy.more ≡ k = omega (arith, within) in
        no_sooner ps mtu room class d a plan events r most.even busy.from (k - busy.more) busy.more s g.0 x g.1 since.1
        (ap (slice_get (started ps mtu room class events)) parts ∙ y) busy.is

pub greatest_reached_law : GreatestReachedLaw
greatest_reached_law plan class d most flows bounds these least i flow b place bound =
    let one = least.reached i flow b place bound in (
      one.0,
      λ ps mtu room a events numbers k f r c e number delayed.
          windows_reached_law ps mtu room class d a plan events flows numbers r these c k i one.0 ((window_of flow one.0).earliest + b.greatest)
          f flow e number place delayed one.1,
    )
