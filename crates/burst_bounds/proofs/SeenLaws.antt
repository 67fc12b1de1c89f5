-- What a look at one moment says of the bounds.
use Rattle.std.proofs.Common.{◌≡◌, ◌<◌, ◌≤◌, ℕ, zero, suc, ◌+◌, ◌-◌, Bool, List, length, get_or, Option, inl, inr, sym, ap, ◌∙◌, subst, arith, le_refl}
use Rattle.std.proofs.lemmas.Bool.{cases_lt}
use Rattle.gates.specs.Gate.{Plan}
use Rattle.delay_bounds.specs.Walk.{may_by}
use Rattle.any_traffic.specs.BusyPeriod.{IsBusyPeriod}
use Rattle.any_traffic.specs.Slots.{IsSlot}
use Rattle.burst_bounds.specs.Busy.{HasFrames, IsBusyUntil, IsLongest, IsMost}
use Rattle.burst_bounds.specs.Good.{IsGood}
use Rattle.burst_bounds.specs.Reach.{AreUnder, AreWithin, ComesAgain, ComesBack, IsReach, IsRead, IsSeen, MayComeAgain, frames_of}
use Rattle.burst_bounds.specs.Unbound.{IsBusyFor}
use Rattle.burst_bounds.specs.Walk.{AreArrivals, AreBoundsFrom, AreSlots}
use Rattle.burst_bounds.specs.declared.Bounds.{Bounds}
use Rattle.burst_bounds.specs.declared.repeats.Repeat.{Repeat}
use Rattle.burst_bounds.specs.declared.moments.Reach.{Reach}
use Rattle.burst_bounds.specs.declared.moments.Reach.TheVariants.{Idle, Again}
use Rattle.burst_bounds.proofs.BusyTimeLaws.{arrival_rises, come_within, few_by, idle_by, most_under, soon_by, wait_under}
use Rattle.any_traffic.proofs.SlotLaws.{both_slots, one_slot, slot_before, slot_later, slots_behind}
use Rattle.burst_bounds.proofs.SlotLaws.{slot_from, slots_rise}

-- ---- greater bounds hold, too

module _ (plan : Plan) (class d : ℕ) (curve : ℕ → ℕ) (w m v n : ℕ) (wait : w ≤ v) (most : m ≤ n) where
  pub busy_more : (t : ℕ) → IsBusyPeriod plan class d curve w m t → IsBusyPeriod plan class d curve v n t
  busy_more t b = record {
    last = b.last;
    slot = b.slot;
    is = b.is;
    ends = b.ends;
    soon = λ x le. (let s = b.soon x le in let bound = s.2 in (s.0, s.1, omega (arith, bound, wait)));
    few = λ x k s le slot after. (let f = b.few x k s le slot after in omega (arith, f, most));
  }

  ever_more : (t : ℕ) → AreBoundsFrom plan class d curve w m t → AreBoundsFrom plan class d curve v n t
  ever_more t h = record {
    soon = λ x. (let s = h.soon x in let bound = s.2 in (s.0, s.1, omega (arith, bound, wait)));
    few = λ x k s slot after. (let f = h.few x k s slot after in omega (arith, f, most));
  }

  pub good_more : (t : ℕ) → IsGood plan class d curve w m t → IsGood plan class d curve v n t
  good_more t (inl b) = inl (busy_more t b)
  good_more t (inr h) = inr (ever_more t h)

-- ---- where all comes again

module _ (plan : Plan) (class d : ℕ) (curve : ℕ → ℕ) (t : ℕ) (slots moments : List ℕ) (r : Repeat)
    (rows : AreSlots (may_by plan class) d t slots) (come : AreArrivals curve moments) (rises : (x y : ℕ) → x ≤ y
    → curve x ≤ curve y) (some : (x : ℕ) → 0 < curve x)
    (again : ComesAgain plan class curve r) (frames : ℕ) (back : ComesBack t slots moments r frames) where
  abbrev may : ℕ → ℕ → Bool
  may = may_by plan class

  abbrev a : ℕ
  a = get_or slots back.again 0

  abbrev y : ℕ
  y = get_or moments back.behind 0

  first : IsSlot may d t back.again a
  first = (let inside = back.first in rows.each back.again (omega (arith, inside)))

  second : IsSlot may d t (back.again + r.frames) (a + r.time)
  second = subst (IsSlot may d t (back.again + r.frames)) back.same (rows.each (back.again + r.frames) back.first)

  -- a slot from the first on comes again
  slot_again : (k s : ℕ) → back.again ≤ k → IsSlot may d t k s → IsSlot may d t (k + r.frames) (s + r.time)
  slot_again k s le slot = elim (cases_lt back.again k) [
    | inr here ↦
        let e : back.again ≡ k = omega (arith, here, le) in
        let same = one_slot may d t k a s (subst (λ i. IsSlot may d t i a) e first) slot in
        subst (λ i. IsSlot may d t (i + r.frames) (s + r.time)) e
        (subst (λ z. IsSlot may d t (back.again + r.frames) (z + r.time)) same second)
    | inl more ↦
        let l : ℕ = k - back.again - 1 in
        let at : suc (back.again + l) ≡ k = omega (arith, more) in
        let rest = slots_behind may d t back.again l a s first (subst (λ i. IsSlot may d t i s) (sym at) slot) in
        let moved = slot_later may d r.time (a + d) l s again.gates rest in
        let to : a + d + r.time ≡ a + r.time + d = omega arith in
        let all = both_slots may d t (back.again + r.frames) l (a + r.time) (s + r.time) second
        (subst (λ i. IsSlot may d i l (s + r.time)) to moved) in
        subst (λ i. IsSlot may d t i (s + r.time)) (let e : suc (back.again + r.frames + l) ≡ k + r.frames = omega (arith, at) in e) all
  ]

  -- where more come than are looked at, it is as one time before
  record IsAsBefore (x : ℕ) : Type 0 where
    earlier : r.time ≤ x
    behind : y ≤ x - r.time
    less : x - r.time < x
    more : back.behind < curve (x - r.time)
    fewer : curve x ≡ curve (x - r.time) + r.frames

  y_above : 0 < y
  y_above = (let from = slot_from may d t back.again a first in let later = back.later in omega (arith, from, later))

  none_first : curve 0 ≤ back.behind
  none_first = (come.each back.behind back.inside).least 0 y_above

  as_before : (x : ℕ) → frames < curve x → IsAsBefore x
  as_before x many =
      let sum = back.sum in
      let few = none_first in
      let whole = again.come 0 in
      let at : 0 + r.time ≡ r.time = omega arith in
      let up = ap curve at in
      elim (cases_lt r.time x) [
        | inr short ↦ (let le = rises x r.time short in absurd (omega (arith, le, up, whole, few, sum, many)))
        | inl over ↦
            let z : ℕ = x - r.time in
            let is : z + r.time ≡ x = omega (arith, over) in
            let parts : curve x ≡ curve z + r.frames = ap curve (sym is) ∙ again.come z in
            let more : back.behind < curve z = omega (arith, parts, sum, many) in
            let lasts = again.lasts in
            record {
              earlier = omega (arith, over);
              behind = come_within curve back.behind z y (come.each back.behind back.inside) more;
              less = omega (arith, over, lasts);
              more = more;
              fewer = parts;
            }
      ]

  module _ (wait most : ℕ) (longest : IsLongest t slots moments frames wait) (all : IsMost t slots moments frames most) where
    soon_ever : (n x : ℕ) → x < n → (s : ℕ) × IsSlot may d t (curve x - 1) s × (s ≤ t + x + wait)
    soon_ever zero x less = absurd (omega (arith, less))
    soon_ever (suc n) x less = elim (cases_lt frames (curve x)) [
      | inr within ↦ soon_by plan class d curve t slots moments rows come frames wait x longest back.slotted back.known (some x) within
      | inl many ↦
          let b = as_before x many in
          let down = b.less in
          let more = b.more in
          let fewer = b.fewer in
          let earlier = b.earlier in
          let order = back.order in
          let old = soon_ever n (x - r.time) (omega (arith, less, down)) in
          let next = slot_again (curve (x - r.time) - 1) old.0 (omega (arith, more, order)) old.1 in
          let at : curve (x - r.time) - 1 + r.frames ≡ curve x - 1 = omega (arith, fewer, more) in
          let bound = old.2 in
          (old.0 + r.time, subst (λ i. IsSlot may d t i (old.0 + r.time)) at next, omega (arith, bound, earlier))
    ]

    few_ever : (n x m s : ℕ) → x < n → IsSlot may d t m s → t + x ≤ s → curve x ≤ m + most
    few_ever zero x m s less slot after = absurd (omega (arith, less))
    few_ever (suc n) x m s less slot after = elim (cases_lt frames (curve x)) [
      | inr within ↦ few_by plan class d curve t slots moments rows come frames most x m s all back.slotted back.known within slot after
      | inl many ↦
          let b = as_before x many in
          let down = b.less in
          let fewer = b.fewer in
          let earlier = b.earlier in
          let behind = b.behind in
          let later = back.later in
          elim (cases_lt (back.again + r.frames) m) [
            | inr few ↦
                let up = slots_rise may d t m (back.again + r.frames) s (a + r.time) few slot second in
                absurd (omega (arith, up, later, behind, earlier, after))
            | inl over ↦
                let k : ℕ = m - r.frames in
                let sum : m ≡ k + r.frames = omega (arith, over) in
                let old = slot_before may d t k r.frames m s sum slot in
                let next = slot_again k old.0 (omega (arith, over)) old.1 in
                let same = one_slot may d t m (old.0 + r.time) s (subst (λ i. IsSlot may d t i (old.0 + r.time)) (sym sum) next) slot in
                let rest = few_ever n (x - r.time) k old.0 (omega (arith, less, down)) old.1 (omega (arith, same, after, earlier)) in
                omega (arith, rest, fewer, sum)
          ]
    ]

    pub for_ever : AreBoundsFrom plan class d curve wait most t
    for_ever = record {
      soon = λ x. soon_ever (suc x) x (le_refl (suc x));
      few = λ x m s slot after. few_ever (suc x) x m s (le_refl (suc x)) slot after;
    }

-- ---- one moment

module _ (plan : Plan) (class d : ℕ) (curve : ℕ
    → ℕ) (t : ℕ) (slots moments : List ℕ) (repeat : Option Repeat) (read : IsRead plan class d curve moments repeat)
    (rows : AreSlots (may_by plan class) d t slots) (old new : Bounds) where
  -- bounds of the frames that are looked at hold from the moment on
  pub reached : (reach : Reach) → IsSeen d t slots moments repeat reach → HasFrames old t slots moments (frames_of reach) new
      → IsReach plan class d curve new t reach
  unfolding busy_more
  reached (Idle n) seen has =
      let by = idle_by plan class d curve t slots moments rows read.come n has.wait has.most read.above read.some seen has.longest
      has.greatest in
      let w = has.wait_is in
      let m = has.most_is in
      record {
        time = busy_more plan class d curve has.wait has.most new.wait new.most (omega (arith, w)) (omega (arith, m)) t by.time;
        few = by.few;
      }
  reached (Again n) seen has =
      let r : Repeat = seen.0 in
      let again : ComesAgain plan class curve r = subst (MayComeAgain plan class curve) seen.1 read.again in
      let w = has.wait_is in
      let m = has.most_is in
      ever_more plan class d curve has.wait has.most new.wait new.most (omega (arith, w)) (omega (arith, m)) t
      (for_ever plan class d curve t slots moments r rows read.come read.rises read.some again n seen.2 has.wait has.most has.longest
      has.greatest)

  pub good_of : (reach : Reach) → IsReach plan class d curve new t reach → IsGood plan class d curve new.wait new.most t
  good_of (Idle n) h = inl h.time
  good_of (Again n) h = inr h

  seen_lengths : (reach : Reach) → IsSeen d t slots moments repeat reach
      → (frames_of reach ≤ length slots) × (frames_of reach ≤ length moments)
  seen_lengths (Idle n) seen = (let more = seen.follows in (seen.slotted, omega (arith, more)))
  seen_lengths (Again n) seen = ((seen.2).slotted, (seen.2).known)

  -- and none are less, where none were
  pub under : (reach : Reach) → IsSeen d t slots moments repeat reach → HasFrames old t slots moments (frames_of reach) new
      → AreUnder plan class d curve old → AreUnder plan class d curve new
  under reach seen has before w m bounds =
      let lens = seen_lengths reach seen in
      let b = before w m bounds in
      let bw = b.0 in
      let bm = b.1 in
      let wi = has.wait_is in
      let mi = has.most_is in
      let one = wait_under plan class d curve t slots moments rows read.come (frames_of reach) has.wait w m lens.0 lens.1 has.longest
      bounds in
      let two = most_under plan class d curve t slots moments rows read.come (frames_of reach) has.most w m lens.1 has.greatest bounds in
      (omega (arith, wi, one, bw), omega (arith, mi, two, bm))

  -- where no end is seen
  pub busy_for : IsBusyUntil d t slots moments → length moments ≤ length slots → IsBusyFor plan class d curve t (length moments - 1)
  busy_for busy many n x s less arrival slot =
      let listed : n < length slots = omega (arith, many, less) in
      let known : n + 1 < length moments = omega (arith, less) in
      let b = busy.busy n listed known in
      let here = (read.come).each (n + 1) known in
      let up = arrival_rises curve (n + 1) (n + 1) x (get_or moments (n + 1) 0) (le_refl (n + 1)) arrival here in
      let down = arrival_rises curve (n + 1) (n + 1) (get_or moments (n + 1) 0) x (le_refl (n + 1)) here arrival in
      let same = one_slot (may_by plan class) d t n s (get_or slots n 0) slot (rows.each n listed) in
      omega (arith, b, up, down, same)

-- bounds grow
pub grown : (old : Bounds) (from : ℕ) (slots moments : List ℕ) (frames : ℕ) (new : Bounds) → HasFrames old from slots moments frames new
    → AreWithin old new
grown old from slots moments frames new has = (let w = has.wait_is in let m = has.most_is in (omega (arith, w), omega (arith, m)))
