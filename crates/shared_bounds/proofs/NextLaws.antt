-- The next moment to look at.
use Rattle.std.proofs.Common.{◌≡◌, ◌<◌, ◌≤◌, ℕ, ◌+◌, ◌-◌, ◌*◌, true, false, inl, inr, Some, None, sym, ap, subst, arith}
use Rattle.std.proofs.lemmas.Bool.{cases_lt}
use Rattle.gates.specs.Gate.{mask_since}
use Rattle.gates.proofs.OpenLaws.{open_at, open_from, open_within}
use Rattle.delay_bounds.specs.Walk.{may_by}
use Rattle.shared_bounds.specs.Blocking.{open_for, was_open}
use Rattle.shared_bounds.specs.Near.{AreNear, IsLastIn, IsNear}
use Rattle.shared_bounds.specs.Place.{IsPlace, blocking_of, may_of, opening_of, own_of}
use Rattle.shared_bounds.specs.Slots.{IsNextOpening}
use Rattle.shared_bounds.specs.Traffic.{needs}
use Rattle.shared_bounds.specs.declared.place.SharedClass.{SharedClass}
use Rattle.shared_bounds.proofs.BlockingLaws.{ends_by, falls, gradual}
use Rattle.shared_bounds.proofs.NearLaws.{near_in, near_shut}
use Rattle.shared_bounds.proofs.OpenForLaws as opens_for

module _ (c : SharedClass) (place : IsPlace c) (t : ℕ) where
  abbrev mask : ℕ → ℕ
  mask = mask_since (Some c.schedule.now) 0 None

  abbrev rising : (u v : ℕ) → u ≤ v → u + blocking_of c u ≤ v + blocking_of c v
  rising = gradual c.schedule.now c.class (needs c.traffic.now)

  -- behind where the gate opens
  pub shut_near : (last o : ℕ) → may_of c t (blocking_of c t + own_of c) ≡ false → IsNextOpening (opening_of c) t o → AreNear c last t (o + 1)
  shut_near last o shut next = record {
    after = (let a = next.after in omega (arith, a));
    each = λ u from below n s h le. near_shut mask c.class (own_of c) c.pitch (blocking_of c) place.some rising t o shut next u n s from
        (omega (arith, below)) h;
  }

  -- the first slot of the window
  pub first_may : may_of c t (blocking_of c t + own_of c) ≡ true → may_of c (t + blocking_of c t) (own_of c) ≡ true
  first_may takes = open_within mask c.class t (blocking_of c t + own_of c) (t + blocking_of c t) (own_of c) takes (omega arith) (omega arith)

  -- some more in the same window
  pub later_whole : (first at n k : ℕ) → at ≡ first + n * c.pitch → at + k * c.pitch ≡ first + (n + k) * c.pitch
  later_whole first at n k is = (let parts : (n + k) * c.pitch ≡ n * c.pitch + k * c.pitch = grind arith in omega (arith, is, parts))

  pub later_stays : (first at d : ℕ) → first ≤ at → may_of c first (at - first + own_of c) ≡ true → may_of c at (d + own_of c) ≡ true
      → may_of c first (at + d - first + own_of c) ≡ true
  later_stays first at d le before then = open_from mask c.class first (at + d - first + own_of c) (λ n low high. elim (cases_lt n at) [
    | inl early ↦ open_at mask c.class first (at - first + own_of c) before n low (omega (arith, early, le))
    | inr late ↦ open_at mask c.class at (d + own_of c) then n late (omega (arith, high, le))
  ])

  -- the last one is open for as long as it needs, and longer
  pub last_may : (first last at : ℕ) → IsLastIn c first last at → may_of c at (own_of c) ≡ true
  last_may first last at h =
      let whole = h.whole in
      open_within mask c.class first (at - first + own_of c) at (own_of c) h.stays (omega (arith, whole)) (omega (arith, whole))

  pub last_first : (first last at : ℕ) → IsLastIn c first last at → first ≤ at
  last_first first last at h = (let whole = h.whole in omega (arith, whole))

  -- there is room
  pub has_room : (first last at limit all : ℕ) → IsLastIn c first last at → own_of c ≤ limit → all ≡ open_for (may_of c) at limit
      → own_of c ≤ all
  has_room first last at limit all h within is =
      let most = opens_for.most mask c.class at limit (own_of c) within (last_may first last at h) in
      omega (arith, most, is)

  module _ (end first last at limit room : ℕ) (takes : may_of c t (blocking_of c t + own_of c) ≡ true)
      (same : (m : ℕ) → t - 1 ≤ m → m < end → mask m ≡ mask (t - 1)) (first_is : first ≡ t + blocking_of c t) (h : IsLastIn c first last at)
      (room_is : own_of c + room ≡ open_for (may_of c) at limit) where
    stays : may_of c first (at - first + (own_of c + room)) ≡ true
    stays =
        let whole = h.whole in
        open_from mask c.class first (at - first + (own_of c + room)) (λ n low high. elim (cases_lt n at) [
          | inl before ↦ open_at mask c.class first (at - first + own_of c) h.stays n low (omega (arith, before, whole))
          | inr behind ↦ open_at mask c.class at (own_of c + room)
              (subst (λ d. may_of c at d ≡ true) (sym room_is) (opens_for.opened mask c.class at limit)) n behind (omega (arith, high, whole))
        ])

    near_to : (u : ℕ) → t ≤ u → u ≤ end → u + blocking_of c u ≤ first + room → IsNear c last t u
    near_to u from to ends n s slot le = near_in mask c.class (own_of c) c.pitch (blocking_of c) place.some rising t u first at h.more room last
        from takes first_is h.whole stays (falls c.schedule.now c.class (needs c.traffic.now) t end u same from to) ends h.last n s slot le

    -- where there is room up to the end of the entry
    pub all_near : end - t ≤ room → t ≤ end → AreNear c last t (end + 1)
    all_near wide later = record {
      after = omega (arith, later);
      each = λ u from below.
          let down = falls c.schedule.now c.class (needs c.traffic.now) t end u same from (omega (arith, below)) in
          near_to u from (omega (arith, below)) (omega (arith, down, first_is, wide, below, from));
    }

    -- and where a slot less fits before
    pub part_near : (reach next : ℕ) → 0 < reach → t < next → next ≤ end + 1
        → ((u : ℕ) → t < u → u < next → u + reach ≤ first + room + 1)
        → ((j : ℕ) → j < 8 → (j ≡ c.class → ⊥) → was_open c.schedule.now j t ≡ true
        → may_by c.schedule.now j t (first + room + 1 - t) ≡ true → needs c.traffic.now j ≤ reach)
        → AreNear c last t next
    part_near reach next some after within early most = record {
      after = after;
      each = λ u from below. elim (cases_lt t u) [
        | inr here ↦
            let is : u ≡ t = omega (arith, here, from) in
            let b = ap (blocking_of c) is in
            near_to u from (omega (arith, below, within)) (omega (arith, is, b, first_is))
        | inl later ↦
            let few = early u later below in
            near_to u from (omega (arith, below, within))
            (ends_by c.schedule.now c.class (needs c.traffic.now) t end (first + room) reach u same from (omega (arith, below, within))
            (omega (arith, few, some)) most few)
      ];
    }
