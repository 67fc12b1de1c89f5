-- With no jitter and one length the late run is the exact walk.
use Rattle.std.proofs.Common.{◌≡◌, ◌<◌, ◌≤◌, ℕ, zero, suc, ◌+◌, ◌-◌, ◌*◌, max, Bool, inl, inr, List, [], ◌∷◌, length, map, get_or, set, slice_get, Some, refl, sym, ap, ◌∙◌, subst, arith, le_refl, mul-suc}
use Rattle.std.proofs.lemmas.Bool.{cases_lt}
use Rattle.std.proofs.lemmas.List.Sums.{sum_by-cons}
use Rattle.std.proofs.lemmas.Option.{same_Some}
use Rattle.gates.specs.Gate.{Plan, in_ps}
use Rattle.abstract_port.specs.Served.{IsFirst}
use Rattle.delay_bounds.specs.Bounds.{Track, told_by}
use Rattle.delay_bounds.specs.Claim.{IsFrame, earliest, flow_at, offsets_of}
use Rattle.delay_bounds.specs.Waits.{AreAllTold}
use Rattle.delay_bounds.specs.Walk.{after, begun, may_by}
use Rattle.delay_bounds.specs.declared.Flow.{Flow}
use Rattle.delay_bounds.specs.declared.Told.{Told}
use Rattle.delay_bounds.proofs.CourseLaws.{told_more}
use Rattle.delay_bounds.proofs.StepLaws.{after_nexts, after_none, after_step, coming_at, first_of, goes_ever, has_next, least_of, rises_once}
use Rattle.delay_bounds.proofs.Words.{after_on}
use Rattle.delay_bounds.proofs.WaitLaws.{IsStep, first_is, step_is}
use Rattle.any_traffic.specs.ExactWindows.{ExactLaw, as_periodic}
use Rattle.any_traffic.specs.PeriodicWindows.{AreSent, IsFreeFrom, IsLateStart, PeriodicFlow, before, can_by, must_before}
use Rattle.any_traffic.specs.Slots.{IsSlot}
use Rattle.any_traffic.proofs.ListLaws.{none_here}
use Rattle.any_traffic.proofs.PeriodicWindowLaws.{HavePeriod, before_is, before_of, must_more}

-- ---- how many have come of each flow

-- k frames of the flows have come, by a moment, when their next ones come at these
abbrev pub AreNext : List Flow → List ℕ → (k m : ℕ) → Type 0
AreNext [] [] k m = k ≡ 0
AreNext [] (x ∷ xs) k m = ⊥
AreNext (f ∷ flows) [] k m = ⊥
AreNext (f ∷ flows) (x ∷ xs) k m =
    (c : ℕ) × (rest : ℕ) × (k ≡ c + rest) × (x ≡ f.offset + f.period * c) × ((n : ℕ) → n < c → f.offset + f.period * n ≤ m)
    × AreNext flows xs rest m

pub none_come : (flows : List Flow) → AreNext flows (offsets_of flows) 0 0
none_come [] = refl
none_come (f ∷ flows) =
    let none : f.period * 0 ≡ 0 = omega arith in
    (0, 0, refl, omega (arith, none), λ n less. absurd (omega (arith, less)), none_come flows)

pub next_later : (flows : List Flow) (xs : List ℕ) (k m u : ℕ) → m ≤ u → AreNext flows xs k m → AreNext flows xs k u
next_later [] [] k m u le h = h
next_later [] (x ∷ xs) k m u le h = absurd h
next_later (f ∷ flows) [] k m u le h = absurd h
next_later (f ∷ flows) (x ∷ xs) k m u le h =
    (h.0, h.1, h.2, h.3, λ n less. (let by = h.4 n less in omega (arith, by, le)), next_later flows xs h.1 m u le h.5)

-- one more comes
pub one_comes : (flows : List Flow) (xs : List ℕ) (k m i : ℕ) → i < length xs → get_or xs i 0 ≤ m → AreNext flows xs k m
    → AreNext flows (set xs i (get_or xs i 0 + (flow_at flows i).period)) (suc k) m
one_comes [] [] k m i less le h = absurd (omega (arith, less))
one_comes [] (x ∷ xs) k m i less le h = absurd h
one_comes (f ∷ flows) [] k m i less le h = absurd h
one_comes (f ∷ flows) (x ∷ xs) k m zero less le h =
    let is = h.2 in
    let at = h.3 in
    let more : f.period * suc h.0 ≡ f.period * h.0 + f.period = mul-suc f.period h.0 in (
      suc h.0,
      h.1,
      omega (arith, is),
      omega (arith, at, more),
      λ n small. elim (cases_lt n h.0) [
        | inl before ↦ h.4 n before
        | inr last ↦ (let same : f.period * n ≡ f.period * h.0 = ap (λ j. f.period * j)
            (let z : n ≡ h.0 = omega (arith, last, small) in z) in omega (arith, same, at, le))
      ],
      h.5,
    )
one_comes (f ∷ flows) (x ∷ xs) k m (suc i) less le h =
    let is = h.2 in
    (h.0, suc h.1, omega (arith, is), h.3, h.4, one_comes flows xs h.1 m i (omega (arith, less)) le h.5)

pub as_long : (flows : List Flow) (xs : List ℕ) (k m : ℕ) → AreNext flows xs k m → length xs ≡ length flows
as_long [] [] k m h = refl
as_long [] (x ∷ xs) k m h = absurd h
as_long (f ∷ flows) [] k m h = absurd h
as_long (f ∷ flows) (x ∷ xs) k m h = ap suc (as_long flows xs h.1 m h.5)

-- ---- how many come before a moment

abbrev pub IsPeriodic : List Flow → ℕ → Type 0
IsPeriodic flows d = (i : ℕ) (flow : Flow) → slice_get flows i ≡ Some flow → (0 < flow.period) × (flow.need ≡ d)

module _ (d : ℕ) where
  -- no more than have come where the next ones are not before it
  no_more_before : (flows : List Flow) (xs : List ℕ) (k m u : ℕ) → IsPeriodic flows d → AreNext flows xs k m
      → ((i : ℕ) → i < length xs → u ≤ get_or xs i 0) → must_before (map as_periodic flows) u ≤ k
  no_more_before [] [] k m u these h from = omega arith
  no_more_before [] (x ∷ xs) k m u these h from = absurd h
  no_more_before (f ∷ flows) [] k m u these h from = absurd h
  no_more_before (f ∷ flows) (x ∷ xs) k m u these h from =
      let is = h.2 in
      let at = h.3 in
      let first = from 0 (omega arith) in
      let period = (these 0 f refl).0 in
      let rest = no_more_before flows xs h.1 m u (λ i g e. these (suc i) g e) h.5 (λ i less. from (suc i) (omega (arith, less))) in
      let mine : before (f.offset + 0) f.period u ≤ h.0 = elim (cases_lt h.0 (before (f.offset + 0) f.period u)) [
        | inr fits ↦ fits
        | inl more ↦ (let come = before_is (f.offset + 0) f.period h.0 u period more in absurd (omega (arith, come, at, first)))
      ] in
      let both = sum_by-cons (λ (g : PeriodicFlow). before (g.offset + g.jitter) g.period u) (as_periodic f) (map as_periodic flows) in
      omega (arith, is, rest, mine, both)

  -- and no fewer where they came before it
  no_fewer_before : (flows : List Flow) (xs : List ℕ) (k m u : ℕ) → IsPeriodic flows d → AreNext flows xs k m → m < u
      → k ≤ must_before (map as_periodic flows) u
  no_fewer_before [] [] k m u these h less = omega (arith, h)
  no_fewer_before [] (x ∷ xs) k m u these h less = absurd h
  no_fewer_before (f ∷ flows) [] k m u these h less = absurd h
  no_fewer_before (f ∷ flows) (x ∷ xs) k m u these h less =
      let is = h.2 in
      let period = (these 0 f refl).0 in
      let rest = no_fewer_before flows xs h.1 m u (λ i g e. these (suc i) g e) h.5 less in
      let mine = by h.0 h.4 period in
      let both = sum_by-cons (λ (g : PeriodicFlow). before (g.offset + g.jitter) g.period u) (as_periodic f) (map as_periodic flows) in
      omega (arith, is, rest, mine, both)
    where
      by : (c : ℕ) → ((n : ℕ) → n < c → f.offset + f.period * n ≤ m) → 0 < f.period → c ≤ before (f.offset + 0) f.period u
      by zero come period = omega arith
      by (suc c) come period = (let last = come c (omega arith) in let gone = before_of (f.offset + 0) f.period c u period
          (omega (arith, last, less)) in omega (arith, gone))

pub all_periods : (flows : List Flow) (d : ℕ) → IsPeriodic flows d → HavePeriod (map as_periodic flows)
all_periods [] d these i flow e = absurd (none_here i flow e)
all_periods (f ∷ flows) d these zero flow e = subst (λ (x : PeriodicFlow). 0 < x.period) (same_Some (as_periodic f) flow e)
    (these 0 f refl).0
all_periods (f ∷ flows) d these (suc i) flow e = all_periods flows d (λ j g h. these (suc j) g h) i flow e

-- with no jitter those that may have come by t are those that come before the next moment
all_can : (flows : List Flow) (t : ℕ) → can_by (map as_periodic flows) t ≡ must_before (map as_periodic flows) (suc t)
all_can [] t = refl
all_can (f ∷ flows) t =
    let rest = all_can flows t in
    let at : t + 1 ≡ suc t = omega arith in
    let none : f.offset ≡ f.offset + 0 = omega arith in
    let same : before f.offset f.period (t + 1) ≡ before (f.offset + 0) f.period (suc t) = ap (before f.offset f.period) at ∙ ap
    (λ o. before o f.period (suc t)) none in
    let a = sum_by-cons (λ (g : PeriodicFlow). before g.offset g.period (t + 1)) (as_periodic f) (map as_periodic flows) in
    let b = sum_by-cons (λ (g : PeriodicFlow). before (g.offset + g.jitter) g.period (suc t)) (as_periodic f) (map as_periodic flows) in
    omega (arith, rest, same, a, b)

-- ---- the walk

module _ (may : ℕ → ℕ → Bool) (cycle room : ℕ) (flows : List Flow) where
  -- in two parts
  after_split : (j n : ℕ) (s z : Track) → after may cycle room flows (j + n) s ≡ Some z
      → (y : Track) × (after may cycle room flows j s ≡ Some y) × (after may cycle room flows n y ≡ Some z)
  unfolding after
  after_split zero n s z h = (let at : n ≡ zero + n = omega arith in (s, refl, ap (λ i. after may cycle room flows i s) at ∙ h))
  after_split (suc j) n s z h =
      let at : suc (j + n) ≡ suc j + n = omega arith in
      let a = after_step may cycle room flows (j + n) s z (ap (λ i. after may cycle room flows i s) at ∙ h) in
      let b = after_split j n a.0.1 z a.2 in
      (b.0, ap (after_on (after may cycle room flows j)) a.1 ∙ b.1, b.2)

module _ (plan : Plan) (class room d : ℕ) (flows : List Flow) (these : IsPeriodic flows d) where
  abbrev may : ℕ → ℕ → Bool
  may = may_by plan class

  abbrev cycle : ℕ
  cycle = in_ps plan.cycle

  abbrev all : List PeriodicFlow
  all = map as_periodic flows

  abbrev start : Track
  start = begun (offsets_of flows)

  -- where the walk stands after k frames
  record IsAfter (k : ℕ) (z : Track) : Type 0 where
    last : ℕ
    come : AreNext flows z.nexts k last
    next : (e : ℕ × ℕ) → earliest z.nexts ≡ Some e → last ≤ e.0

  one_after : (k : ℕ) (s : Track) (e : ℕ × ℕ) (r : Told × Track) → IsAfter k s → earliest s.nexts ≡ Some e
      → IsStep may cycle room flows s e r → AreNext flows (r.1).nexts (suc k) e.0
  one_after k s e r w first is =
      let place = first_of s.nexts e first in
      let at = place.1 in
      let come = one_comes flows s.nexts k e.0 e.1 place.0 (omega (arith, at))
      (next_later flows s.nexts k w.last e.0 (w.next e first) w.come) in
      subst (λ xs. AreNext flows xs (suc k) e.0) (sym is.nexts)
      (subst (λ t. AreNext flows (set s.nexts e.1 (t + (flow_at flows e.1).period)) (suc k) e.0) at come)

  is_after : (k n : ℕ) (s z : Track) → IsAfter k s → after may cycle room flows n s ≡ Some z → IsAfter (k + n) z
  is_after k zero s z w h =
      let at : k ≡ k + 0 = omega arith in
      subst (λ j. IsAfter j z) at (subst (IsAfter k) (after_none may cycle room flows s z h) w)
  is_after k (suc n) s z w h =
      let stepped = after_step may cycle room flows n s z h in
      let next = has_next may cycle room flows s stepped.0 stepped.1 in
      let is = step_is may cycle room flows s next.0 stepped.0 next.1 stepped.1 in
      let at : suc k + n ≡ k + suc n = omega arith in
      subst (λ j. IsAfter j z) at
      (is_after (suc k) n stepped.0.1 z
      (record {
        last = next.0.0;
        come = one_after k s next.0 stepped.0 w next.1 is;
        next =
            λ e first. rises_once flows s.nexts next.0 e next.1 (sym (ap earliest is.nexts) ∙ first);
      }) stepped.2)

  at_start : IsAfter 0 start
  at_start = record { last = 0; come = none_come flows; next = λ e first. omega arith }

  -- as many come before the next moment at most, and by it at least one more
  few_before : (k : ℕ) (z : Track) (e : ℕ × ℕ) → IsAfter k z → earliest z.nexts ≡ Some e → must_before all e.0 ≤ k
  few_before k z e w first = no_more_before d flows z.nexts k w.last e.0 these w.come (λ i less. least_of flows z.nexts e first i less)

  some_by : (k u : ℕ) (s : Track) (e : ℕ × ℕ) (r : Told × Track) → IsAfter k s → earliest s.nexts ≡ Some e
      → IsStep may cycle room flows s e r → e.0 < u → suc k ≤ must_before all u
  some_by k u s e r w first is less = no_fewer_before d flows (r.1).nexts (suc k) e.0 u these (one_after k s e r w first is) less

  -- the frame behind so many others comes then
  at_moment : (k t : ℕ) (s : Track) (e : ℕ × ℕ) (r : Told × Track) → IsAfter k s → earliest s.nexts ≡ Some e
      → IsStep may cycle room flows s e r → must_before all t ≤ k → k < must_before all (suc t) → e.0 ≡ t
  at_moment k t s e r w first is from less =
      let few = few_before k s e w first in
      let low : e.0 ≤ t = elim (cases_lt t e.0) [
        | inr fits ↦ fits
        | inl after_it ↦ (let more = must_more all (suc t) e.0 (all_periods flows d these) after_it in absurd
            (omega (arith, more, few, less)))
      ] in
      let high : t ≤ e.0 = elim (cases_lt e.0 t) [
        | inr fits ↦ fits
        | inl early ↦ (let some = some_by k t s e r w first is early in absurd (omega (arith, some, from)))
      ] in
      omega (arith, low, high)

  need_at : (fs : List Flow) → IsPeriodic fs d → (i : ℕ) → i < length fs → (flow_at fs i).need ≡ d
  need_at [] h i less = absurd (omega (arith, less))
  need_at (f ∷ fs) h zero less = (h 0 f refl).1
  need_at (f ∷ fs) h (suc i) less = need_at fs (λ j g k. h (suc j) g k) i (omega (arith, less))

  -- it starts as one in the late run
  first_start : (k t : ℕ) (s : Track) (e : ℕ × ℕ) (r : Told × Track) → IsAfter k s → e.0 ≡ t → earliest s.nexts ≡ Some e
      → (is : IsStep may cycle room flows s e r)
      → IsFirst may d (max t s.free) is.at × ((r.1).free ≡ is.at + d)
  first_start k t s e r w at first is =
      let long = as_long flows s.nexts k w.last w.come in
      let inside = (first_of s.nexts e first).0 in
      let need = need_at flows these e.1 (omega (arith, long, inside)) in (
        subst (λ n. IsFirst may n (max t s.free) is.at) need
            (subst (λ u. IsFirst may (flow_at flows e.1).need (max u s.free) is.at) at
            (first_is may (flow_at flows e.1).need (max e.0 s.free) cycle is.at is.fit)),
        is.free ∙ ap (λ n. is.at + n) need,
      )

  -- one more frame
  one_on : (k : ℕ) (s : Track) (e : ℕ × ℕ) (r : Told × Track) → IsAfter k s → earliest s.nexts ≡ Some e → IsStep may cycle room flows s e r
      → IsAfter (suc k) r.1
  one_on k s e r w first is = record {
    last = e.0;
    come = one_after k s e r w first is;
    next = λ d second. rises_once flows s.nexts e d first
        (sym (ap earliest is.nexts) ∙ second);
  }

  -- n frames that come at t
  sent_of : (t n k : ℕ) (s z : Track) → IsAfter k s → after may cycle room flows n s ≡ Some z → must_before all t ≤ k
      → k + n ≤ must_before all (suc t)
      → AreSent may d t n s.free z.free
  sent_of t zero k s z w h from upto = ap (λ (x : Track). x.free) (sym (after_none may cycle room flows s z h))
  sent_of t (suc n) k s z w h from upto =
      let stepped = after_step may cycle room flows n s z h in
      let next = has_next may cycle room flows s stepped.0 stepped.1 in
      let is = step_is may cycle room flows s next.0 stepped.0 next.1 stepped.1 in
      let at = at_moment k t s next.0 stepped.0 w next.1 is from (omega (arith, upto)) in
      let one = first_start k t s next.0 stepped.0 w at next.1 is in
      let rest = sent_of t n (suc k) stepped.0.1 z (one_on k s next.0 stepped.0 w next.1 is) stepped.2 (omega (arith, from))
      (omega (arith, upto)) in
      (is.at, one.0, subst (λ f. AreSent may d t n f z.free) one.1 rest)

  -- and the one behind them
  slot_of : (t n k : ℕ) (s z : Track) (e : ℕ × ℕ) (r : Told × Track) → IsAfter k s → after may cycle room flows n s ≡ Some z
      → earliest z.nexts ≡ Some e
      → (is : IsStep may cycle room flows z e r) → must_before all t ≤ k → k + n < must_before all (suc t)
      → IsSlot may d (max t s.free) n is.at
  slot_of t zero k s z e r w h first is from less =
      let same = after_none may cycle room flows s z h in
      let v = subst (IsAfter k) same w in
      let one = first_start k t z e r v (at_moment k t z e r v first is from (omega (arith, less))) first is in
      subst (λ (x : Track). IsFirst may d (max t x.free) is.at) (sym same) one.0
  slot_of t (suc n) k s z e r w h first is from less =
      let stepped = after_step may cycle room flows n s z h in
      let next = has_next may cycle room flows s stepped.0 stepped.1 in
      let own = step_is may cycle room flows s next.0 stepped.0 next.1 stepped.1 in
      let at = at_moment k t s next.0 stepped.0 w next.1 own from (omega (arith, less)) in
      let one = first_start k t s next.0 stepped.0 w at next.1 own in
      let after_it = (one.0).from in
      let rest = slot_of t n (suc k) stepped.0.1 z e r (one_on k s next.0 stepped.0 w next.1 own) stepped.2 first is (omega (arith, from))
      (omega (arith, less)) in
      let free = one.1 in
      let most : max t (stepped.0.1).free ≡ own.at + d = omega (arith, free, after_it) in
      (own.at, one.0, subst (λ u. IsSlot may d u n is.at) most rest)

  -- where the wire is free from in the late run
  free_of : (t : ℕ) (z : Track) → after may cycle room flows (must_before all t) start ≡ Some z → IsFreeFrom may d all t z.free
  free_of zero z h =
      let none = no_more_before d flows (offsets_of flows) 0 0 0 these (none_come flows) (λ i less. omega arith) in
      let count : must_before all 0 ≡ 0 = omega (arith, none) in
      let same = after_none may cycle room flows start z (subst (λ n. after may cycle room flows n start ≡ Some z) count h) in
      ap (λ (x : Track). x.free) (sym same)
  free_of (suc t) z h =
      let more = must_more all t (suc t) (all_periods flows d these) (omega arith) in
      let parts : must_before all (suc t) ≡ must_before all t + (must_before all (suc t) - must_before all t) = omega (arith, more) in
      let y = after_split may cycle room flows (must_before all t) (must_before all (suc t) - must_before all t) start z
      (subst (λ n. after may cycle room flows n start ≡ Some z) parts h) in
      let none : 0 + must_before all t ≡ must_before all t = omega arith in
      let w = subst (λ n. IsAfter n y.0) none (is_after 0 (must_before all t) start y.0 at_start y.1) in (
        (y.0).free,
        free_of t y.0 y.1,
        sent_of t (must_before all (suc t) - must_before all t) (must_before all t) y.0 z w y.2 (le_refl (must_before all t))
            (omega (arith, more)),
      )

  module _ (tells : AreAllTold plan class room flows) (k place moment other later : ℕ) (t : Told)
      (frame : IsFrame flows k place moment) (next : IsFrame flows (k + 1) other later) (alone : moment < later)
      (tell : told_by plan class room flows k ≡ Some t) where
    -- what comes behind so many others
    coming_is : (n p m : ℕ) (z : Track) (e : ℕ × ℕ) → IsFrame flows n p m → after may cycle room flows n start ≡ Some z
        → earliest z.nexts ≡ Some e → e ≡ (m, p)
    coming_is n p m z e f h first =
        let nexts = after_nexts flows may cycle room n start z h in
        let there = coming_at flows n (offsets_of flows) e (ap earliest (sym nexts) ∙ first) in
        same_Some e (m, p) (sym there ∙ f)

    exact : IsLateStart may d all moment (moment + t.wait)
    exact =
        let g = goes_ever may cycle room flows k start tells in
        let z = g.0 in
        let r = g.2 in
        let e = has_next may cycle room flows z r g.3 in
        let is = step_is may cycle room flows z e.0 r e.1 g.3 in
        let here = coming_is k place moment z e.0 frame g.1 e.1 in
        let at : e.0.0 ≡ moment = ap (λ (x : ℕ × ℕ). x.0) here in
        let none : 0 + k ≡ k = omega arith in
        let w = subst (λ n. IsAfter n z) none (is_after 0 k start z at_start g.1) in
        let few = few_before k z e.0 w e.1 in
        let some = some_by k (suc moment) z e.0 r w e.1 is (omega (arith, at)) in
        let g2 = goes_ever may cycle room flows (suc k) start tells in
        let e2 = has_next may cycle room flows g2.0 g2.2 g2.3 in
        let plus : k + 1 ≡ suc k = omega arith in
        let there = coming_is (suc k) other later g2.0 e2.0 (subst (λ n. IsFrame flows n other later) plus next) g2.1 e2.1 in
        let at2 : e2.0.0 ≡ later = ap (λ (x : ℕ × ℕ). x.0) there in
        let none2 : 0 + suc k ≡ suc k = omega arith in
        let w2 = subst (λ n. IsAfter n g2.0) none2 (is_after 0 (suc k) start g2.0 at_start g2.1) in
        let few2 = few_before (suc k) g2.0 e2.0 w2 e2.1 in
        let up = must_more all (suc moment) e2.0.0 (all_periods flows d these) (omega (arith, at2, alone)) in
        let first = must_more all moment e.0.0 (all_periods flows d these) (omega (arith, at)) in
        let before_it : ℕ = must_before all moment in
        let parts : k ≡ before_it + (k - before_it) = omega (arith, few, first) in
        let y = after_split may cycle room flows before_it (k - before_it) start z
        (subst (λ n. after may cycle room flows n start ≡ Some z) parts g.1) in
        let zero_on : 0 + before_it ≡ before_it = omega arith in
        let v = subst (λ n. IsAfter n y.0) zero_on (is_after 0 before_it start y.0 at_start y.1) in
        let slot = slot_of moment (k - before_it) before_it y.0 z e.0 r v y.2 e.1 is (le_refl before_it) (omega (arith, parts, some)) in
        let can = all_can flows moment in
        let count : k - before_it ≡ can_by all moment - must_before all moment - 1 = omega (arith, can, some, few2, up, few, first) in
        let told_it = told_more may cycle room flows k start z r.1 r.0 g.1 g.3 in
        let same : r.0 ≡ t = same_Some r.0 t (sym told_it ∙ tell) in
        let wait : t.wait ≡ is.at - e.0.0 = ap (λ (x : Told). x.wait) (sym same) ∙ is.wait in
        let from = (first_is may (flow_at flows e.0.1).need (max e.0.0 z.free) cycle is.at is.fit).from in
        let ends : is.at ≡ moment + t.wait = omega (arith, wait, at, from) in (
          (y.0).free,
          free_of moment y.0 y.1,
          subst (λ n. IsSlot may d (max moment (y.0).free) n (moment + t.wait)) count
              (subst (IsSlot may d (max moment (y.0).free) (k - before_it)) ends slot),
        )

pub exact_law : ExactLaw
exact_law plan class room d k place moment other later flows t these tells frame next alone tell = exact plan class room d flows these tells
    k place moment other later t frame next alone tell
