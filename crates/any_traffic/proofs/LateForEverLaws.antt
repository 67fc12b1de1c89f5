-- The late run of periodic flows repeats.
use Rattle.std.proofs.Common.{◌≡◌, ◌<◌, ◌≤◌, ℕ, zero, suc, ◌+◌, ◌-◌, ◌*◌, max, Bool, inl, inr, List, [], ◌∷◌, refl, sym, ap, ◌∙◌, subst, arith, mul-add, mul-suc}
use Rattle.std.proofs.lemmas.Bool.{cases_lt}
use Rattle.std.proofs.lemmas.List.Sums.{sum_by-cons}
use Rattle.abstract_port.specs.Served.{IsFirst}
use Rattle.delay_bounds.proofs.WaitLaws.{one_first}
use Rattle.delay_bounds.specs.ForEver.{Repeats}
use Rattle.any_traffic.specs.LateForEver.{AreLateWithin, AreWhole, LateEnoughLaw, LateForEverLaw, LateRecurs}
use Rattle.any_traffic.specs.PeriodicWindows.{ArePeriodic, AreSent, IsFreeFrom, IsLateStart, PeriodicFlow, before, can_by, must_before, window_of}
use Rattle.any_traffic.proofs.PeriodicWindowLaws.{HavePeriod, before_is, before_of}
use Rattle.any_traffic.specs.Slots.{IsSlot}
use Rattle.any_traffic.proofs.SlotLaws.{first_later, slot_later}

-- ---- as many more come in whole periods

-- two numbers are the same where the same are below them
same_below : (a b : ℕ) → ((n : ℕ) → n < a → n < b) → ((n : ℕ) → n < b → n < a) → a ≡ b
same_below a b to back = (let one = below a b to in let two = below b a back in omega (arith, one, two))
  where
    below : (x y : ℕ) → ((n : ℕ) → n < x → n < y) → x ≤ y
    below zero y h = omega arith
    below (suc x) y h = (let last = h x (omega arith) in omega (arith, last))

before_later : (o t k u : ℕ) → 0 < t → o ≤ u → before o t (u + t * k) ≡ before o t u + k
before_later o t k u above begun = same_below (before o t (u + t * k)) (before o t u + k) to back
  where
    to : (n : ℕ) → n < before o t (u + t * k) → n < before o t u + k
    to n less = elim (cases_lt n k) [
      | inl few ↦ omega (arith, few)
      | inr more ↦
          let at : n ≡ k + (n - k) = omega (arith, more) in
          let parts : t * (k + (n - k)) ≡ t * k + t * (n - k) = mul-add t k (n - k) in
          let whole : t * n ≡ t * (k + (n - k)) = ap (λ m. t * m) at in
          let come = before_is o t n (u + t * k) above less in
          let gone = before_of o t (n - k) u above (omega (arith, come, parts, whole)) in
          omega (arith, gone, more)
    ]

    back : (n : ℕ) → n < before o t u + k → n < before o t (u + t * k)
    back n less = elim (cases_lt n k) [
      | inl few ↦
          let more : t * (n + (k - n)) ≡ t * n + t * (k - n) = mul-add t n (k - n) in
          let at : n + (k - n) ≡ k = omega (arith, few) in
          let whole : t * (n + (k - n)) ≡ t * k = ap (λ m. t * m) at in
          let some : 1 ≤ t * (k - n) = (let left : k - n ≡ suc (k - n - 1) = omega (arith, few) in let parts : t * suc (k - n - 1) ≡ t *
          (k - n - 1) + t = mul-suc t (k - n - 1) in let same : t * (k - n) ≡ t * suc (k - n - 1) = ap (λ m. t * m) left in omega
          (arith, parts, same, above)) in
          before_of o t n (u + t * k) above (omega (arith, more, whole, some, begun))
      | inr more ↦
          let at : n ≡ k + (n - k) = omega (arith, more) in
          let parts : t * (k + (n - k)) ≡ t * k + t * (n - k) = mul-add t k (n - k) in
          let whole : t * n ≡ t * (k + (n - k)) = ap (λ m. t * m) at in
          let come = before_is o t (n - k) u above (omega (arith, less, more)) in
          before_of o t n (u + t * k) above (omega (arith, come, parts, whole))
    ]

-- ---- of all flows

-- so many more come in that time
pub record Again (flows : List PeriodicFlow) (from every : ℕ) : Type 0 where
  pub more : ℕ
  pub must : (t : ℕ) → from ≤ t → must_before flows (t + every) ≡ must_before flows t + more
  pub can : (t : ℕ) → from ≤ t → can_by flows (t + every) ≡ can_by flows t + more

pub again : (flows : List PeriodicFlow) (from every : ℕ) → HavePeriod flows → AreWhole flows from every → Again flows from every
again [] from every above whole = record { more = 0; must = λ t le. refl; can = λ t le. refl }
again (flow ∷ flows) from every above whole =
    let rest = again flows from every (λ i f e. above (suc i) f e) (λ i f e. whole (suc i) f e) in
    let mine = whole 0 flow refl in
    let begun = mine.0 in
    let n : ℕ = mine.1.0 in
    let is = mine.1.1 in
    let period = above 0 flow refl in
    record {
      more = n + rest.more;
      must = λ t le.
          let same = ap (λ e. before (flow.offset + flow.jitter) flow.period (t + e)) is ∙ before_later
          (flow.offset + flow.jitter) flow.period n t period (omega (arith, begun, le)) in
          let others = rest.must t le in
          let a = sum_by-cons (λ (f : PeriodicFlow). before (f.offset + f.jitter) f.period (t + every)) flow flows in
          let b = sum_by-cons (λ (f : PeriodicFlow). before (f.offset + f.jitter) f.period t) flow flows in
          omega (arith, same, others, a, b);
      can = λ t le.
          let at : t + every + 1 ≡ t + 1 + every = omega arith in
          let same = ap (before flow.offset flow.period) at ∙
          (ap (λ e. before flow.offset flow.period (t + 1 + e)) is ∙ before_later flow.offset flow.period n (t + 1) period
          (omega (arith, begun, le))) in
          let others = rest.can t le in
          let a = sum_by-cons (λ (f : PeriodicFlow). before f.offset f.period (t + every + 1)) flow flows in
          let b = sum_by-cons (λ (f : PeriodicFlow). before f.offset f.period (t + 1)) flow flows in
          omega (arith, same, others, a, b);
    }

-- ---- the late run

module _ (may : ℕ → ℕ → Bool) (d : ℕ) where
  -- there is one
  pub one_sent : (t n free x y : ℕ) → AreSent may d t n free x → AreSent may d t n free y → x ≡ y
  one_sent t zero free x y a b = a ∙ sym b
  one_sent t (suc n) free x y a b =
      let same = one_first may d (max t free) a.0 b.0 a.1 b.1 in
      one_sent t n (b.0 + d) x y (subst (λ s. AreSent may d t n (s + d) x) same a.2) b.2

  pub one_free : (flows : List PeriodicFlow) (t x y : ℕ) → IsFreeFrom may d flows t x → IsFreeFrom may d flows t y → x ≡ y
  one_free flows zero x y a b = a ∙ sym b
  one_free flows (suc t) x y a b =
      let same = one_free flows t a.0 b.0 a.1 b.1 in
      one_sent t (must_before flows (suc t) - must_before flows t) b.0 x y
      (subst (λ w. AreSent may d t (must_before flows (suc t) - must_before flows t) w x) same a.2) b.2

  module _ (e : ℕ) (repeats : Repeats may e) where
    -- so much later
    sent_later : (t n free x : ℕ) → AreSent may d t n free x → AreSent may d (t + e) n (free + e) (x + e)
    sent_later t zero free x same = ap (λ k. k + e) same
    sent_later t (suc n) free x sent =
        let at : max t free + e ≡ max (t + e) (free + e) = omega arith in
        let on : sent.0 + d + e ≡ sent.0 + e + d = omega arith in (
          sent.0 + e,
          subst (λ k. IsFirst may d k (sent.0 + e)) at (first_later may d e (max t free) sent.0 repeats sent.1),
          subst (λ k. AreSent may d (t + e) n k (x + e)) on (sent_later t n (sent.0 + d) x sent.2),
        )

    -- where the wire is taken for as long
    sent_again : (t n free x other : ℕ) → max (t + e) other ≡ max t free + e → AreSent may d t n free x
        → (y : ℕ) × AreSent may d (t + e) n other y × (max (t + e) y ≡ max t x + e)
    sent_again t zero free x other alike same = (other, refl, (let is = same in omega (arith, alike, is)))
    sent_again t (suc n) free x other alike sent =
        let on : sent.0 + d + e ≡ sent.0 + e + d = omega arith in (
          x + e,
          (
            sent.0 + e,
            subst (λ k. IsFirst may d k (sent.0 + e)) (sym alike) (first_later may d e (max t free) sent.0 repeats sent.1),
            subst (λ k. AreSent may d (t + e) n k (x + e)) on (sent_later t n (sent.0 + d) x sent.2),
          ),
          omega arith,
        )

  module _ (flows : List PeriodicFlow) (from every : ℕ) (above : HavePeriod flows) (r : LateRecurs may d flows from every) where
    more : Again flows from every
    more = again flows from every above r.whole

    free_again : (j x : ℕ) → IsFreeFrom may d flows (from + j) x
        → (y : ℕ) × IsFreeFrom may d flows (from + j + every) y × (max (from + j + every) y ≡ max (from + j) x + every)
    free_again zero x f =
        let at : from + 0 ≡ from = omega arith in
        let same = one_free flows from x r.old (subst (λ t. IsFreeFrom may d flows t x) at f) r.was in
        let alike = r.alike in (
          r.new,
          subst (λ t. IsFreeFrom may d flows (t + every) r.new) (sym at) r.is,
          omega (arith, alike, same),
        )
    free_again (suc j) x f =
        let at : from + suc j ≡ suc (from + j) = omega arith in
        let g = subst (λ t. IsFreeFrom may d flows t x) at f in
        let u : ℕ = from + j in
        let was = free_again j g.0 g.1 in
        let here = more.must u (omega arith) in
        let next = more.must (suc u) (omega arith) in
        let on : suc u + every ≡ suc (u + every) = omega arith in
        let then = ap (must_before flows) on in
        let count : must_before flows (suc u) - must_before flows u ≡ must_before flows (suc (u + every)) - must_before flows
        (u + every) = omega (arith, here, next, then) in
        let w = sent_again every r.gates u (must_before flows (suc u) - must_before flows u) g.0 x was.0 was.2 g.2 in
        let alike = w.2 in (
          w.0,
          subst (λ t. IsFreeFrom may d flows t w.0) (sym (ap (λ t. t + every) at ∙ on))
              (was.0, was.1, subst (λ c. AreSent may d (u + every) c was.0 w.0) count w.1),
          omega (arith, alike),
        )

    pub free_on : (t x : ℕ) → from ≤ t → IsFreeFrom may d flows t x → (y : ℕ) × IsFreeFrom may d flows (t + every) y
        × (max (t + every) y ≡ max t x + every)
    free_on t x le f =
        let at : from + (t - from) ≡ t = omega (arith, le) in
        let w = free_again (t - from) x (subst (λ u. IsFreeFrom may d flows u x) (sym at) f) in
        (w.0, subst (λ u. IsFreeFrom may d flows (u + every) w.0) at w.1, subst (λ u. max (u + every) w.0 ≡ max u x + every) at w.2)

    pub late_again : (t s : ℕ) → from ≤ t → IsLateStart may d flows t s → IsLateStart may d flows (t + every) (s + every)
    late_again t s le h =
        let w = free_on t h.0 le h.1 in
        let must = more.must t le in
        let can = more.can t le in
        let count : can_by flows t - must_before flows t - 1 ≡ can_by flows (t + every) - must_before flows (t + every) - 1 = omega
        (arith, must, can) in (
          w.0,
          w.1,
          subst (λ k. IsSlot may d (max (t + every) w.0) k (s + every)) count
              (subst (λ k. IsSlot may d k (can_by flows t - must_before flows t - 1) (s + every)) (sym w.2)
              (slot_later may d every (max t h.0) (can_by flows t - must_before flows t - 1) s r.gates h.2)),
        )

pub late_for_ever_law : LateForEverLaw
late_for_ever_law may d flows from every these r t s le h = late_again may d flows from every (λ i f e. (these i f e).0) r t s le h

-- where each late start comes again, what holds up to then holds of all
pub late_enough : (Late : ℕ → ℕ → Type 0) (d : ℕ) (flows : List PeriodicFlow) (from every : ℕ) (waits : List ℕ)
    → ArePeriodic d flows → AreWhole flows from every → 0 < every → ((t s : ℕ) → from ≤ t → Late t s → Late (t + every) (s + every))
    → AreLateWithin Late flows waits (from + every) → (upto : ℕ) → AreLateWithin Late flows waits upto
late_enough Late d flows from every waits these wholes above again_late upto_then upto i n wait flow place time less = all (suc n) n
    (let z : n < suc n = omega arith in z)
  where
    all : (fuel n : ℕ) → n < fuel → (s : ℕ) × Late (window_of flow n).latest s × (s ≤ (window_of flow n).earliest + wait)
    all zero n less = absurd (omega (arith, less))
    all (suc fuel) n less = elim (cases_lt (window_of flow n).latest (from + every)) [
      | inl before ↦ upto_then i n wait flow place time before
      | inr after ↦
          let whole = wholes i flow place in
          let begun = whole.0 in
          let k : ℕ = whole.1.0 in
          let is = whole.1.1 in
          let enough : k ≤ n = no_less k n (omega (arith, after, begun, is)) in
          let some : 0 < k = positive k is in
          let w = all fuel (n - k) (omega (arith, less, some, enough)) in
          let bound = w.2 in
          let parts : flow.period * (n - k + k) ≡ flow.period * (n - k) + flow.period * k = mul-add flow.period (n - k) k in
          let at : n - k + k ≡ n = omega (arith, enough) in
          let turned : flow.period * (n - k + k) ≡ flow.period * n = ap (λ m. flow.period * m) at in
          let latest : (window_of flow (n - k)).latest + every ≡ (window_of flow n).latest = omega (arith, parts, turned, is) in
          let late = again_late (window_of flow (n - k)).latest w.0 (omega (arith, begun)) w.1 in
          (w.0 + every, subst (λ t. Late t (w.0 + every)) latest late, omega (arith, bound, parts, turned, is))
    ]
      where
        no_less : (k n : ℕ) → flow.period * k ≤ flow.period * n → k ≤ n
        no_less k n le = elim (cases_lt n k) [
          | inr ok ↦ ok
          | inl less ↦
              let at : k ≡ n + suc (k - n - 1) = omega (arith, less) in
              let parts : flow.period * (n + suc (k - n - 1)) ≡ flow.period * n + flow.period * suc (k - n - 1) = mul-add flow.period n
              (suc (k - n - 1)) in
              let whole : flow.period * k ≡ flow.period * (n + suc (k - n - 1)) = ap (λ m. flow.period * m) at in
              let more : flow.period * suc (k - n - 1) ≡ flow.period * (k - n - 1) + flow.period = mul-suc flow.period (k - n - 1) in
              let period = (these i flow place).0 in
              absurd (omega (arith, le, parts, whole, more, period))
        ]

        positive : (k : ℕ) → every ≡ flow.period * k → 0 < k
        positive zero is = absurd (omega (arith, above, is))
        positive (suc k) is = omega arith

pub late_enough_law : LateEnoughLaw
late_enough_law may d flows from every waits these r =
    late_enough (IsLateStart may d flows) d flows from every waits these r.whole r.above (late_for_ever_law may d flows from every these r)
