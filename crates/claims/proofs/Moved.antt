-- Bounds of windows don't change where all flows begin whole cycles later: until then nothing comes.
use Rattle.std.proofs.Common.{◌≡◌, ◌<◌, ◌≤◌, inl, inr, ℕ, zero, suc, ◌+◌, ◌-◌, ◌*◌, ◌/◌, max, Bool, List, [], ◌∷◌, map, Some, slice_get, refl, sym, ap, ◌∙◌, subst, arith}
use Rattle.std.proofs.lemmas.Bool.{cases_lt}
use Rattle.std.proofs.lemmas.List.{length-map}
use Rattle.std.proofs.lemmas.List.Sums.{sum_by-cons}
use Rattle.std.proofs.lemmas.Option.{same_Some}
use Rattle.abstract_port.specs.Served.{IsFirst}
use Rattle.delay_bounds.specs.ForEver.{Repeats}
use Rattle.delay_bounds.specs.declared.Bound.{Bound}
use Rattle.any_traffic.specs.LateForEver.{LateRecurs}
use Rattle.any_traffic.specs.PeriodicRoom.{AreFewLate, HaveStarted, IsLateFrame}
use Rattle.any_traffic.specs.PeriodicWindows.{ArePeriodic, AreSent, IsFreeFrom, IsLateStart, PeriodicFlow, before, can_by, must_before, window_of}
use Rattle.any_traffic.specs.Slots.{IsSlot}
use Rattle.any_traffic.proofs.ListLaws.{none_here}
use Rattle.any_traffic.proofs.PeriodicWindowLaws.{HavePeriod, before_is}
use Rattle.any_traffic.proofs.SlotLaws.{first_earlier, first_later, slot_earlier, slot_later}
use Rattle.window_bounds.specs.Least.{AreLeast, IsLeastWait, IsReached, greatest_of}

-- a flow that begins so much later
abbrev pub moved : ℕ → PeriodicFlow → PeriodicFlow
moved k flow = record {
  offset = flow.offset + k;
  period = flow.period;
  jitter = flow.jitter;
  shortest = flow.shortest;
  longest = flow.longest;
}

abbrev pub all_moved : ℕ → List PeriodicFlow → List PeriodicFlow
all_moved k flows = map (moved k) flows

-- which one it is
unmoved : (k : ℕ) (flows : List PeriodicFlow) (i : ℕ) (x : PeriodicFlow) → slice_get (all_moved k flows) i ≡ Some x
    → (flow : PeriodicFlow) × (slice_get flows i ≡ Some flow) × (moved k flow ≡ x)
unmoved k [] i x e = absurd (none_here i x e)
unmoved k (flow ∷ flows) zero x e = (flow, refl, same_Some (moved k flow) x e)
unmoved k (flow ∷ flows) (suc i) x e = unmoved k flows i x e

pub moved_periodic : (d k : ℕ) (flows : List PeriodicFlow) → ArePeriodic d flows → ArePeriodic d (all_moved k flows)
moved_periodic d k flows these i x e =
    let u = unmoved k flows i x e in
    subst (λ (y : PeriodicFlow). (0 < y.period) × (y.longest ≤ d)) u.2 (these i u.0 u.1)

-- ---- how many come

before_moved : (o p t k : ℕ) → before (o + k) p (t + k) ≡ before o p t
before_moved o p t k = (let same : t + k - (o + k) ≡ t - o = omega arith in ap (λ x. (x + (p - 1)) / p) same)

before_none : (o p t k : ℕ) → 0 < p → t ≤ k → before (o + k) p t ≡ 0
before_none o p t k above le = by (before (o + k) p t) refl
  where
    by : (n : ℕ) → before (o + k) p t ≡ n → before (o + k) p t ≡ 0
    by zero e = e
    by (suc n) e = (let come = before_is (o + k) p n t above (omega (arith, e)) in absurd (omega (arith, come, le)))

must_moved : (flows : List PeriodicFlow) (t k : ℕ) → must_before (all_moved k flows) (t + k) ≡ must_before flows t
must_moved [] t k = refl
must_moved (flow ∷ flows) t k =
    let at : flow.offset + k + flow.jitter ≡ flow.offset + flow.jitter + k = omega arith in
    let here : before (flow.offset + k + flow.jitter) flow.period (t + k) ≡ before (flow.offset + flow.jitter) flow.period t
    = ap (λ o. before o flow.period (t + k)) at ∙ before_moved (flow.offset + flow.jitter) flow.period t k in
    let rest = must_moved flows t k in
    let a = sum_by-cons (λ (f : PeriodicFlow). before (f.offset + f.jitter) f.period (t + k)) (moved k flow) (all_moved k flows) in
    let b = sum_by-cons (λ (f : PeriodicFlow). before (f.offset + f.jitter) f.period t) flow flows in
    omega (arith, here, rest, a, b)

must_none : (flows : List PeriodicFlow) (t k : ℕ) → HavePeriod flows → t ≤ k → must_before (all_moved k flows) t ≡ 0
must_none [] t k above le = refl
must_none (flow ∷ flows) t k above le =
    let at : flow.offset + k + flow.jitter ≡ flow.offset + flow.jitter + k = omega arith in
    let here : before (flow.offset + k + flow.jitter) flow.period t ≡ 0
    = ap (λ o. before o flow.period t) at ∙ before_none (flow.offset + flow.jitter) flow.period t k (above 0 flow refl) le in
    let rest = must_none flows t k (λ i f e. above (suc i) f e) le in
    let a = sum_by-cons (λ (f : PeriodicFlow). before (f.offset + f.jitter) f.period t) (moved k flow) (all_moved k flows) in
    omega (arith, here, rest, a)

can_moved : (flows : List PeriodicFlow) (t k : ℕ) → can_by (all_moved k flows) (t + k) ≡ can_by flows t
can_moved [] t k = refl
can_moved (flow ∷ flows) t k =
    let at : t + k + 1 ≡ t + 1 + k = omega arith in
    let here : before (flow.offset + k) flow.period (t + k + 1) ≡ before flow.offset flow.period (t + 1)
    = ap (before (flow.offset + k) flow.period) at ∙ before_moved flow.offset flow.period (t + 1) k in
    let rest = can_moved flows t k in
    let a = sum_by-cons (λ (f : PeriodicFlow). before f.offset f.period (t + k + 1)) (moved k flow) (all_moved k flows) in
    let b = sum_by-cons (λ (f : PeriodicFlow). before f.offset f.period (t + 1)) flow flows in
    omega (arith, here, rest, a, b)

can_none : (flows : List PeriodicFlow) (t k : ℕ) → HavePeriod flows → t < k → can_by (all_moved k flows) t ≡ 0
can_none [] t k above less = refl
can_none (flow ∷ flows) t k above less =
    let here = before_none flow.offset flow.period (t + 1) k (above 0 flow refl) (omega (arith, less)) in
    let rest = can_none flows t k (λ i f e. above (suc i) f e) less in
    let a = sum_by-cons (λ (f : PeriodicFlow). before f.offset f.period (t + 1)) (moved k flow) (all_moved k flows) in
    omega (arith, here, rest, a)

-- ---- the late run

module _ (may : ℕ → ℕ → Bool) (d k : ℕ) (repeats : Repeats may k) where
  sent_later : (t n free x other : ℕ) → max (t + k) other ≡ max t free + k → AreSent may d t n free x
      → (y : ℕ) × AreSent may d (t + k) n other y × (max (t + k) y ≡ max t x + k)
  sent_later t zero free x other alike same = (other, refl, (let is = same in omega (arith, alike, is)))
  sent_later t (suc n) free x other alike sent =
      let start = subst (λ m. IsFirst may d m (sent.0 + k)) (sym alike) (first_later may d k (max t free) sent.0 repeats sent.1) in
      let on : max (t + k) (sent.0 + k + d) ≡ max t (sent.0 + d) + k = omega arith in
      let rest = sent_later t n (sent.0 + d) x (sent.0 + k + d) on sent.2 in
      (rest.0, (sent.0 + k, start, rest.1), rest.2)

  sent_earlier : (t n free y other : ℕ) → max (t + k) other ≡ max t free + k → AreSent may d (t + k) n other y
      → (x : ℕ) × AreSent may d t n free x × (max (t + k) y ≡ max t x + k)
  sent_earlier t zero free y other alike same = (free, refl, (let is = same in omega (arith, alike, is)))
  sent_earlier t (suc n) free y other alike sent =
      let start = first_earlier may d k (max t free) sent.0 repeats (subst (λ m. IsFirst may d m sent.0) alike sent.1) in
      let le = start.1 in
      let on : max (t + k) (sent.0 + d) ≡ max t (sent.0 - k + d) + k = omega (arith, le) in
      let rest = sent_earlier t n (sent.0 - k + d) y (sent.0 + d) on sent.2 in
      (rest.0, (sent.0 - k, start.0, rest.1), rest.2)

  module _ (flows : List PeriodicFlow) (above : HavePeriod flows) where
    abbrev later : List PeriodicFlow
    later = all_moved k flows

    -- nothing is sent until then
    free_none : (t : ℕ) → t ≤ k → IsFreeFrom may d later t 0
    free_none zero le = refl
    free_none (suc t) le =
        let none = must_none flows (suc t) k above le in
        let count : 0 ≡ must_before later (suc t) - must_before later t = omega (arith, none) in
        (0, free_none t (omega (arith, le)), subst (λ n. AreSent may d t n 0 0) count refl)

    none_free : (t y : ℕ) → t ≤ k → IsFreeFrom may d later t y → y ≡ 0
    none_free zero y le f = f
    none_free (suc t) y le f =
        let none = must_none flows (suc t) k above le in
        let count : must_before later (suc t) - must_before later t ≡ 0 = omega (arith, none) in
        let sent : y ≡ f.0 = subst (λ n. AreSent may d t n f.0 y) count f.2 in
        let was = none_free t f.0 (omega (arith, le)) f.1 in
        omega (arith, sent, was)

    counts : (t : ℕ) → must_before later (suc (t + k)) - must_before later (t + k) ≡ must_before flows (suc t) - must_before flows t
    counts t =
        let at : suc (t + k) ≡ suc t + k = omega arith in
        let next : must_before later (suc (t + k)) ≡ must_before flows (suc t) = ap (must_before later) at ∙ must_moved flows (suc t) k in
        let here = must_moved flows t k in
        omega (arith, next, here)

    free_later : (t x : ℕ) → IsFreeFrom may d flows t x → (y : ℕ) × IsFreeFrom may d later (t + k) y × (max (t + k) y ≡ max t x + k)
    free_later zero x f =
        let at : k ≡ 0 + k = omega arith in
        (0, subst (λ t. IsFreeFrom may d later t 0) at (free_none k (omega arith)), (let none : x ≡ 0 = f in omega (arith, none)))
    free_later (suc t) x f =
        let was = free_later t f.0 f.1 in
        let sent = sent_later t (must_before flows (suc t) - must_before flows t) f.0 x was.0 was.2 f.2 in
        let at : suc (t + k) ≡ suc t + k = omega arith in
        let alike = sent.2 in (
          sent.0,
          subst (λ m. IsFreeFrom may d later m sent.0) at
              (was.0, was.1, subst (λ n. AreSent may d (t + k) n was.0 sent.0) (sym (counts t)) sent.1),
          omega (arith, alike),
        )

    free_earlier : (t y : ℕ) → IsFreeFrom may d later (t + k) y → (x : ℕ) × IsFreeFrom may d flows t x × (max (t + k) y ≡ max t x + k)
    free_earlier zero y f =
        let none = none_free (0 + k) y (omega arith) f in
        (0, refl, omega (arith, none))
    free_earlier (suc t) y f =
        let at : suc t + k ≡ suc (t + k) = omega arith in
        let g = subst (λ m. IsFreeFrom may d later m y) at f in
        let was = free_earlier t g.0 g.1 in
        let sent = sent_earlier t (must_before flows (suc t) - must_before flows t) was.0 y g.0 was.2
        (subst (λ n. AreSent may d (t + k) n g.0 y) (counts t) g.2) in
        let alike = sent.2 in
        (sent.0, (was.0, was.1, sent.1), omega (arith, alike))

    -- ---- late starts

    late_later : (t s : ℕ) → IsLateStart may d flows t s → IsLateStart may d later (t + k) (s + k)
    late_later t s h =
        let free = free_later t h.0 h.1 in
        let can = can_moved flows t k in
        let must = must_moved flows t k in
        let count : can_by flows t - must_before flows t - 1 ≡ can_by later (t + k) - must_before later (t + k) - 1
        = omega (arith, can, must) in
        let slot = slot_later may d k (max t h.0) (can_by flows t - must_before flows t - 1) s repeats h.2 in (
          free.0,
          free.1,
          subst (λ n. IsSlot may d (max (t + k) free.0) n (s + k)) count
              (subst (λ m. IsSlot may d m (can_by flows t - must_before flows t - 1) (s + k)) (sym free.2) slot),
        )

    frame_later : (n s : ℕ) → IsLateFrame may d flows n s → IsLateFrame may d later n (s + k)
    frame_later n s h =
        let m : ℕ = h.moment in
        let free = free_later m h.free h.is in
        let here = must_moved flows m k in
        let at : suc (m + k) ≡ suc m + k = omega arith in
        let next : must_before later (suc (m + k)) ≡ must_before flows (suc m) = ap (must_before later) at ∙ must_moved flows (suc m) k in
        let from = h.from in
        let less = h.less in
        let count : n - must_before flows m ≡ n - must_before later (m + k) = omega (arith, here) in
        let slot = slot_later may d k (max m h.free) (n - must_before flows m) s repeats h.slot in
        record {
          moment = m + k;
          free = free.0;
          from = omega (arith, from, here);
          less = omega (arith, less, next);
          is = free.1;
          slot = subst (λ c. IsSlot may d (max (m + k) free.0) c (s + k)) count
              (subst (λ t. IsSlot may d t (n - must_before flows m) (s + k)) (sym free.2) slot);
        }

    frame_earlier : (n s : ℕ) → IsLateFrame may d later n s → IsLateFrame may d flows n (s - k) × (k ≤ s)
    frame_earlier n s h =
        let less = h.less in
        let from = h.from in
        let begun : k ≤ h.moment = elim (cases_lt h.moment k) [
          | inl early ↦ (let none = must_none flows (suc h.moment) k above (omega (arith, early)) in absurd (omega (arith, less, none)))
          | inr fits ↦ fits
        ] in
        let m : ℕ = h.moment - k in
        let at : h.moment ≡ m + k = omega (arith, begun) in
        let free = free_earlier m h.free (subst (λ t. IsFreeFrom may d later t h.free) at h.is) in
        let here : must_before later h.moment ≡ must_before flows m = ap (must_before later) at ∙ must_moved flows m k in
        let up : suc h.moment ≡ suc m + k = omega (arith, begun) in
        let next : must_before later (suc h.moment) ≡ must_before flows (suc m) = ap (must_before later) up ∙ must_moved flows (suc m) k in
        let count : n - must_before later h.moment ≡ n - must_before flows m = omega (arith, here) in
        let busy : max h.moment h.free ≡ max m free.0 + k = (let alike = free.2 in omega (arith, alike, begun)) in
        let slot = slot_earlier may d k (max m free.0) (n - must_before flows m) s repeats
        (subst (λ c. IsSlot may d (max m free.0 + k) c s) count (subst (λ t. IsSlot may d t (n - must_before later h.moment) s) busy h.slot)) in (
          record {
            moment = m;
            free = free.0;
            from = omega (arith, from, here);
            less = omega (arith, less, next);
            is = free.1;
            slot = slot.0;
          },
          slot.1,
        )

    -- ---- how many wait

    few_later : (most t : ℕ) → AreFewLate may d flows most t → AreFewLate may d later most (t + k)
    few_later most t h =
        let can = can_moved flows t k in
        let enough = h.1 in
        (h.0, omega (arith, can, enough), by h.2)
      where
        by : HaveStarted may d flows h.0 t → HaveStarted may d later h.0 (t + k)
        by (inl none) = inl none
        by (inr x) = (let less = x.2 in inr (x.0 + k, frame_later (h.0 - 1) x.0 x.1, omega (arith, less)))

    few_earlier : (most t : ℕ) → AreFewLate may d later most (t + k) → AreFewLate may d flows most t
    few_earlier most t h =
        let can = can_moved flows t k in
        let enough = h.1 in
        (h.0, omega (arith, can, enough), by h.2)
      where
        by : HaveStarted may d later h.0 (t + k) → HaveStarted may d flows h.0 t
        by (inl none) = inl none
        by (inr x) =
            let frame = frame_earlier (h.0 - 1) x.0 x.1 in
            let less = x.2 in
            let le = frame.1 in
            inr (x.0 - k, frame.0, omega (arith, less, le))

    few_at : (most : ℕ) → ((t : ℕ) → AreFewLate may d flows most t) → (t : ℕ) → AreFewLate may d later most t
    few_at most few t = elim (cases_lt t k) [
      | inl early ↦ (let none = can_none flows t k above early in (0, omega (arith, none), inl refl))
      | inr begun ↦
          let at : t - k + k ≡ t = omega (arith, begun) in
          subst (λ m. AreFewLate may d later most m) at (few_later most (t - k) (few (t - k)))
    ]

    recurs_later : (from every : ℕ) → LateRecurs may d flows from every → LateRecurs may d later (from + k) every
    recurs_later from every r =
        let old = free_later from r.old r.was in
        let new = free_later (from + every) r.new r.is in
        let at : from + every + k ≡ from + k + every = omega arith in
        let alike = r.alike in
        let one = old.2 in
        let two = new.2 in
        record {
          above = r.above;
          gates = r.gates;
          whole = λ i x e.
              let u = unmoved k flows i x e in
              let mine = r.whole i u.0 u.1 in
              let begun = mine.0 in
              subst (λ (y : PeriodicFlow). (y.offset + y.jitter ≤ from + k) × ((n : ℕ) × (every ≡ y.period * n))) u.2
              (omega (arith, begun), mine.1);
          old = old.0;
          new = new.0;
          was = old.1;
          is = subst (λ m. IsFreeFrom may d later m new.0) at new.1;
          alike = omega (arith, alike, one, two);
        }

-- ---- bounds

pub moved_least : (may : ℕ → ℕ → Bool) (d k : ℕ) (flows : List PeriodicFlow) (bounds : List Bound) (most : ℕ) → Repeats may k
    → ArePeriodic d flows → AreLeast may d flows bounds most → AreLeast may d (all_moved k flows) bounds most
moved_least may d k flows bounds most repeats these least = record {
  count = least.count ∙ sym (length-map flows (moved k));
  recurs = (let r = least.recurs in (r.0 + k, r.1, recurs_later may d k repeats flows above r.0 r.1 r.2));
  always = λ upto i n wait x e w less.
      let u = unmoved k flows i x e in
      subst (λ (y : PeriodicFlow). (s : ℕ) × IsLateStart may d (all_moved k flows) (window_of y n).latest s
      × (s ≤ (window_of y n).earliest + wait)) u.2 (late u.0 i n wait u.1 w);
  reached = λ i x b e w.
      let u = unmoved k flows i x e in
      subst (λ (y : PeriodicFlow). IsReached may d (all_moved k flows) y b.greatest) u.2 (reach u.0 b.greatest (least.reached i u.0 b u.1 w));
  least = λ i x b e w.
      let u = unmoved k flows i x e in
      subst (λ (y : PeriodicFlow). IsLeastWait may y b.least) u.2 (wait u.0 b.least (least.least i u.0 b u.1 w));
  few = few_at may d k repeats flows above most least.few;
  fewest = λ m few. least.fewest m (λ t. few_earlier may d k repeats flows above m t (few (t + k)));
}
  where
    above : HavePeriod flows
    above = λ i f e. (these i f e).0

    late : (flow : PeriodicFlow) (i n wait : ℕ) → slice_get flows i ≡ Some flow → slice_get (greatest_of bounds) i ≡ Some wait
        → (s : ℕ) × IsLateStart may d (all_moved k flows) (window_of (moved k flow) n).latest s
        × (s ≤ (window_of (moved k flow) n).earliest + wait)
    late flow i n wait e w =
        let latest : ℕ = (window_of flow n).latest in
        let r = least.always (suc latest) i n wait flow e w (let z : latest < suc latest = omega arith in z) in
        let bound = r.2 in
        let at : latest + k ≡ (window_of (moved k flow) n).latest = omega arith in (
          r.0 + k,
          subst (λ t. IsLateStart may d (all_moved k flows) t (r.0 + k)) at (late_later may d k repeats flows above latest r.0 r.1),
          omega (arith, bound),
        )

    reach : (flow : PeriodicFlow) (wait : ℕ) → IsReached may d flows flow wait → IsReached may d (all_moved k flows) (moved k flow) wait
    reach flow wait r =
        let n : ℕ = r.0 in
        let at : (window_of flow n).latest + k ≡ (window_of (moved k flow) n).latest = omega arith in
        let to : (window_of flow n).earliest + wait + k ≡ (window_of (moved k flow) n).earliest + wait = omega arith in (
          n,
          subst (λ t. IsLateStart may d (all_moved k flows) t ((window_of (moved k flow) n).earliest + wait)) at
              (subst (λ s. IsLateStart may d (all_moved k flows) ((window_of flow n).latest + k) s) to
              (late_later may d k repeats flows above (window_of flow n).latest ((window_of flow n).earliest + wait) r.1)),
        )

    wait : (flow : PeriodicFlow) (b : ℕ) → IsLeastWait may flow b → IsLeastWait may (moved k flow) b
    wait flow b l =
        let n : ℕ = l.reached.0 in
        let to : (window_of flow n).earliest + b + k ≡ (window_of (moved k flow) n).earliest + b = omega arith in
        let at : (window_of flow n).earliest + k ≡ (window_of (moved k flow) n).earliest = omega arith in
        record {
          always = λ v s first.
              let here : (window_of (moved k flow) v).earliest ≡ (window_of flow v).earliest + k = omega arith in
              let sooner = first_earlier may flow.shortest k (window_of flow v).earliest s repeats
              (subst (λ t. IsFirst may flow.shortest t s) here first) in
              let bound = l.always v (s - k) sooner.0 in
              let le = sooner.1 in
              omega (arith, bound, le);
          reached = (
            n,
            subst (λ t. IsFirst may flow.shortest t ((window_of (moved k flow) n).earliest + b)) at
                (subst (λ s. IsFirst may flow.shortest ((window_of flow n).earliest + k) s) to
                (first_later may flow.shortest k (window_of flow n).earliest ((window_of flow n).earliest + b) repeats l.reached.1)),
          );
        }
