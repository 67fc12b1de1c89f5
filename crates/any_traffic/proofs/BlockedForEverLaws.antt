-- The late run of a class that shares its windows with lower classes repeats.
use Rattle.std.proofs.Common.{◌≡◌, ◌<◌, ◌≤◌, ℕ, zero, suc, ◌+◌, ◌-◌, max, Bool, inl, inr, List, Option, Some, None, sym, ap, ◌∙◌, subst, arith}
use Rattle.std.specs.Option.{option_map}
use Rattle.std.proofs.lemmas.Bool.{cases_lt, both_ways}
use Rattle.delay_bounds.specs.ForEver.{Repeats}
use Rattle.delay_bounds.specs.Walk.{may_by}
use Rattle.any_traffic.specs.BlockedWindows.{AreBlocked, BlockedBoundsLaw, BlockedForEverLaw, BlockedRecurs, IsBlockedLate, IsBlockedStart, IsLastBefore}
use Rattle.any_traffic.specs.PeriodicWindows.{PeriodicFlow, can_by, must_before, window_of}
use Rattle.any_traffic.specs.SharedSlots.{IsFirstShared, IsNextShared, IsNextWindow}
use Rattle.any_traffic.proofs.BlockedWindowLaws.{blocked_window_law}
use Rattle.any_traffic.proofs.LateForEverLaws.{Again, again, late_enough}
use Rattle.any_traffic.proofs.PeriodicBounds.{stream_frame}
use Rattle.any_traffic.proofs.PeriodicWindowLaws.{HavePeriod}
use Rattle.any_traffic.proofs.SharedCycleLaws.{first_later, next_later}

module _ (may : ℕ → ℕ → Bool) (own pitch : ℕ) (blocking : ℕ → ℕ) where
  -- ---- there is one

  one_window : (t r s : ℕ) → IsNextWindow may own pitch blocking t r → IsNextWindow may own pitch blocking t s → r ≡ s
  one_window t r s v w =
      let same : v.opening ≡ w.opening = elim (cases_lt v.opening w.opening) [
        | inl early ↦ absurd (both_ways _ (w.least v.opening v.after early) v.opens)
        | inr late ↦ elim (cases_lt w.opening v.opening) [
          | inl early ↦ absurd (both_ways _ (v.least w.opening w.after early) w.opens)
          | inr no_later ↦ omega (arith, late, no_later)
        ]
      ] in
      v.begins ∙ (ap (λ o. o + blocking o) same ∙ sym w.begins)

  one_first : (t r s : ℕ) → IsFirstShared may own pitch blocking t r → IsFirstShared may own pitch blocking t s → r ≡ s
  one_first t r s (inl a) (inl b) = a.1 ∙ sym b.1
  one_first t r s (inl a) (inr b) = absurd (both_ways _ b.0 a.0)
  one_first t r s (inr a) (inl b) = absurd (both_ways _ a.0 b.0)
  one_first t r s (inr a) (inr b) = one_window t r s a.1 b.1

  one_next : (t r s : ℕ) → IsNextShared may own pitch blocking t r → IsNextShared may own pitch blocking t s → r ≡ s
  one_next t r s (inl a) (inl b) = a.1 ∙ sym b.1
  one_next t r s (inl a) (inr b) = absurd (both_ways _ b.0 a.0)
  one_next t r s (inr a) (inl b) = absurd (both_ways _ a.0 b.0)
  one_next t r s (inr a) (inr b) = one_window t r s a.1 b.1

  one_start : (last : Option ℕ) (t r s : ℕ) → IsBlockedStart may own pitch blocking last t r
      → IsBlockedStart may own pitch blocking last t s → r ≡ s
  one_start None t r s a b = one_first t r s a b
  one_start (Some l) t r s a b =
      let first = one_first t a.0 b.0 a.2 b.2 in
      let next = one_next l a.1 b.1 a.3 b.3 in
      a.4 ∙ (ap (λ x. max x a.1) first ∙ (ap (max b.0) next ∙ sym b.4))

  one_sent : (t n : ℕ) (last x y : Option ℕ) → AreBlocked may own pitch blocking t n last x → AreBlocked may own pitch blocking t n last y
      → x ≡ y
  one_sent t zero last x y a b = a ∙ sym b
  one_sent t (suc n) last x y a b =
      let same = one_start last t a.0 b.0 a.1 b.1 in
      one_sent t n (Some b.0) x y (subst (λ s. AreBlocked may own pitch blocking t n (Some s) x) same a.2) b.2

  one_last : (flows : List PeriodicFlow) (t : ℕ) (x y : Option ℕ) → IsLastBefore may own pitch blocking flows t x
      → IsLastBefore may own pitch blocking flows t y → x ≡ y
  one_last flows zero x y a b = a ∙ sym b
  one_last flows (suc t) x y a b =
      let same = one_last flows t a.0 b.0 a.1 b.1 in
      one_sent t (must_before flows (suc t) - must_before flows t) b.0 x y
      (subst (λ w. AreBlocked may own pitch blocking t (must_before flows (suc t) - must_before flows t) w x) same a.2) b.2

  -- ---- so much later

  module _ (e : ℕ) (repeats : Repeats may e) (blocked : (u : ℕ) → 0 < u → blocking (u + e) ≡ blocking u) where
    abbrev later : Option ℕ → Option ℕ
    later = option_map (λ s. s + e)

    start_later : (last : Option ℕ) (t s : ℕ) → 0 < t → IsBlockedStart may own pitch blocking last t s
        → IsBlockedStart may own pitch blocking (later last) (t + e) (s + e)
    start_later None t s some h = first_later may own pitch blocking e repeats blocked t s some h
    start_later (Some r) t s some h =
        let is = h.4 in (
          h.0 + e,
          h.1 + e,
          first_later may own pitch blocking e repeats blocked t h.0 some h.2,
          next_later may own pitch blocking e repeats blocked r h.1 h.3,
          omega (arith, is),
        )

    sent_later : (t n : ℕ) (last x : Option ℕ) → 0 < t → AreBlocked may own pitch blocking t n last x
        → AreBlocked may own pitch blocking (t + e) n (later last) (later x)
    sent_later t zero last x some same = ap later same
    sent_later t (suc n) last x some sent = (sent.0 + e, start_later last t sent.0 some sent.1, sent_later t n (Some sent.0) x some sent.2)

  module _ (flows : List PeriodicFlow) (from every : ℕ) (above : HavePeriod flows)
      (r : BlockedRecurs may own pitch blocking flows from every) where
    more : Again flows from every
    more = again flows from every above r.whole

    abbrev on : Option ℕ → Option ℕ
    on = option_map (λ s. s + every)

    last_again : (j : ℕ) (x : Option ℕ) → IsLastBefore may own pitch blocking flows (from + j) x
        → IsLastBefore may own pitch blocking flows (from + j + every) (on x)
    last_again zero x f =
        let at : from + 0 ≡ from = omega arith in
        let same = one_last flows from x (Some r.last) (subst (λ t. IsLastBefore may own pitch blocking flows t x) at f) r.was in
        subst (λ t. IsLastBefore may own pitch blocking flows (t + every) (on x)) (sym at)
        (subst (λ y. IsLastBefore may own pitch blocking flows (from + every) (on y)) (sym same) r.is)
    last_again (suc j) x f =
        let at : from + suc j ≡ suc (from + j) = omega arith in
        let g = subst (λ t. IsLastBefore may own pitch blocking flows t x) at f in
        let u : ℕ = from + j in
        let was = last_again j g.0 g.1 in
        let here = more.must u (omega arith) in
        let next = more.must (suc u) (omega arith) in
        let behind : suc u + every ≡ suc (u + every) = omega arith in
        let then = ap (must_before flows) behind in
        let begun = r.begun in
        let count : must_before flows (suc u) - must_before flows u ≡ must_before flows (suc (u + every)) - must_before flows
        (u + every) = omega (arith, here, next, then) in
        let sent = sent_later every r.gates r.blocked u (must_before flows (suc u) - must_before flows u) g.0 x
        (omega (arith, begun)) g.2 in
        subst (λ t. IsLastBefore may own pitch blocking flows t (on x)) (sym (ap (λ t. t + every) at ∙ behind))
        (on g.0, was, subst (λ c. AreBlocked may own pitch blocking (u + every) c (on g.0) (on x)) count sent)

    pub blocked_again : (t s : ℕ) → from ≤ t → IsBlockedLate may own pitch blocking flows t s
        → IsBlockedLate may own pitch blocking flows (t + every) (s + every)
    blocked_again t s le h =
        let at : from + (t - from) ≡ t = omega (arith, le) in
        let last = subst (λ u. IsLastBefore may own pitch blocking flows (u + every) (on h.0)) at
        (last_again (t - from) h.0 (subst (λ u. IsLastBefore may own pitch blocking flows u h.0) (sym at) h.1)) in
        let must = more.must t le in
        let can = more.can t le in
        let begun = r.begun in
        let count : can_by flows t - must_before flows t ≡ can_by flows (t + every) - must_before flows (t + every) = omega
        (arith, must, can) in
        let sent = sent_later every r.gates r.blocked t (can_by flows t - must_before flows t) h.0 (Some s)
        (omega (arith, begun, le)) h.2 in
        (on h.0, last, subst (λ c. AreBlocked may own pitch blocking (t + every) c (on h.0) (Some (s + every))) count sent)

pub blocked_for_ever_law : BlockedForEverLaw
blocked_for_ever_law may own pitch blocking flows from every these r t s le h = blocked_again may own pitch blocking flows from every
    (λ i f e. (these i f e).0) r t s le h

pub blocked_bounds_law : BlockedBoundsLaw
blocked_bounds_law ps mtu room class pitch need blocking a plan events flows numbers waits from every sharing wide gradual run short these come
    recurs bounded k i n wait f flow e number place time =
    let latest : ℕ = (window_of flow n).latest in
    let late = late_enough (IsBlockedLate (may_by plan class) (need class) pitch blocking flows)
    (need class) flows from every waits these recurs.whole recurs.above
    (blocked_for_ever_law (may_by plan class) (need class) pitch blocking flows from every these recurs) bounded
    (suc latest) i n wait flow place time
    (let z : latest < suc latest = omega arith in z) in
    stream_frame ps mtu room class a plan events flows numbers k i n wait late.0 f flow run come e number place late.2
    (blocked_window_law ps mtu room class pitch need blocking a plan events flows numbers sharing wide gradual run short these come k i n late.0
    f flow e number place late.1)
