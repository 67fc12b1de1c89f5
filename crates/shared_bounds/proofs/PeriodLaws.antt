-- What the look at one moment says of the bounds: they hold from all near ones, and none that hold are less.
use Rattle.std.proofs.Common.{◌≡◌, ◌<◌, ◌≤◌, ◌⊎◌, ℕ, zero, suc, ◌+◌, ◌-◌, List, length, get_or, inl, inr, refl, sym, subst, arith, le_refl}
use Rattle.std.proofs.lemmas.Bool.{cases_lt}
use Rattle.any_traffic.specs.SharedBounds.{AreFew, IsSlotFor, IsSoon}
use Rattle.burst_bounds.specs.Busy.{IsLongest, IsMost}
use Rattle.burst_bounds.proofs.BusyTimeLaws.{come_within}
use Rattle.shared_bounds.specs.Busy.{HoldAlways, HoldFrom, IsBusyTime, IsRead}
use Rattle.shared_bounds.specs.Near.{IsNear}
use Rattle.shared_bounds.specs.Place.{IsPlace, blocking_of, may_of, own_of}
use Rattle.shared_bounds.specs.Traffic.{needs, start_curves}
use Rattle.shared_bounds.specs.declared.place.SharedClass.{SharedClass}
use Rattle.shared_bounds.proofs.BusyLaws.{comes_later}
use Rattle.shared_bounds.proofs.ForLaws.{first_least}
use Rattle.shared_bounds.proofs.SlotLaws.{slot_after}
use Rattle.shared_bounds.proofs.TrafficLaws.{above_rises}

module _ (c : SharedClass) (place : IsPlace c) (curve : ℕ → ℕ) (t : ℕ) (starts moments : List ℕ) (read : IsRead curve moments)
    (time : IsBusyTime c t starts moments) where
  abbrev count : ℕ
  count = length starts

  abbrev start : ℕ → ℕ
  start i = get_or starts i 0

  abbrev come : ℕ → ℕ
  come i = get_or moments i 0

  -- a slot for so many frames, as the law of busy periods has it
  abbrev IsFor : (u k s : ℕ) → Type 0
  IsFor u k s = IsSlotFor c.schedule.now c.class (needs c.traffic.now) (blocking_of c) c.pitch curve (start_curves c.traffic.now) c.higher.now
      u k s

  abbrev Soon : (wait u x : ℕ) → Type 0
  Soon wait u x = IsSoon c.schedule.now c.class (needs c.traffic.now) (blocking_of c) c.pitch curve (start_curves c.traffic.now) c.higher.now
      wait u x

  abbrev Few : (most u x : ℕ) → Type 0
  Few most u x = AreFew c.schedule.now c.class (needs c.traffic.now) (blocking_of c) c.pitch curve (start_curves c.traffic.now) c.higher.now
      most u x

  known : count < length moments
  known = time.idle.follows

  starts_rise : (i j : ℕ) → i ≤ j → j < count → start i ≤ start j
  starts_rise i j le less =
      let later = time.each j less in
      first_least c t (i + 1) (j + 1) later.behind (start i) (start j) (omega (arith, le)) (time.each i (omega (arith, le, less)))
      later.is later.enough

  abbrev last_start : ℕ
  last_start = start (count - 1)

  -- ---- bounds that hold from t on hold from near moments on

  module _ (wait most : ℕ) (longest : IsLongest t starts moments count wait) (greatest : IsMost t starts moments count most)
      (u : ℕ) (from : t ≤ u) (near : IsNear c last_start t u) where
    slot_for : (i : ℕ) → i < count → (r : ℕ) × IsFor u (i + 1) r × (r ≤ start i + (u - t))
    slot_for i less =
        let first = time.each i less in
        let up = starts_rise i (count - 1) (omega (arith, less)) (omega (arith, less)) in
        let w = near first.behind (start i) first.is up in
        let le = w.2 in
        let more = above_rises c place (w.0 - u) (start i - t) (omega (arith, le, from)) in
        let enough = first.enough in
        (w.0, record { behind = first.behind; is = w.1; enough = omega (arith, more, enough) }, le)

    -- the frames that come within a time
    frames : (x : ℕ) → x < come count → (i : ℕ) × (i + 1 ≡ curve x) × (i < count) × (come i ≤ x)
    frames x before =
        let one = read.some x in
        let few = ((read.come).each count known).least x before in
        let k = known in (
          curve x - 1,
          omega (arith, one),
          omega (arith, one, few),
          come_within curve (curve x - 1) x (come (curve x - 1)) ((read.come).each (curve x - 1) (omega (arith, one, few, k)))
              (omega (arith, one)),
        )

    soon : (x : ℕ) → x < come count → Soon wait u x
    soon x before =
        let f = frames x before in
        let w = slot_for f.0 f.2 in
        let long = longest.within f.0 f.2 in
        let le = w.2 in
        let by = f.3 in
        (w.0, subst (λ k. IsFor u k w.0) f.1 w.1, omega (arith, long, le, by, from))

    -- so many start before a moment, and if there are more, the next one does not
    begun : (x k : ℕ) → k ≤ count → (j : ℕ) × (j ≤ k) × ((j ≡ 0) ⊎ (start (j - 1) < t + x)) × ((j ≡ k) ⊎ (t + x ≤ start j))
    begun x zero le = (0, omega arith, inl refl, inl refl)
    begun x (suc k) le = elim (cases_lt (start k) (t + x)) [
      | inl less ↦
          let same : k ≡ suc k - 1 = omega arith in
          (suc k, le_refl (suc k), inr (subst (λ n. start n < t + x) same less), inl refl)
      | inr late ↦
          let rest = begun x k (omega (arith, le)) in
          let within = rest.1 in
          elim rest.3 [
            | inl all ↦ (rest.0, omega (arith, within), rest.2, inr (subst (λ n. t + x ≤ start n) (sym all) late))
            | inr next ↦ (rest.0, omega (arith, within), rest.2, inr next)
          ]
    ]

    few : (x : ℕ) → x < come count → Few most u x
    few x before =
        let f = frames x before in
        let b = begun x count (le_refl count) in
        let within = b.1 in
        let is = f.1 in
        let inside = f.2 in
        let by = f.3 in
        (b.0, enough f.0 is inside by b.0 within b.3, started b.0 within b.2)
      where
        enough : (i : ℕ) → i + 1 ≡ curve x → i < count → come i ≤ x → (j : ℕ) → j ≤ count → (j ≡ count) ⊎ (t + x ≤ start j)
            → curve x ≤ j + most
        enough i is inside by j within (inl all) = omega (arith, is, inside, all)
        enough i is inside by j within (inr late) = elim (cases_lt j count) [
          | inr past ↦ omega (arith, is, inside, past)
          | inl listed ↦ (let m = greatest.within i j inside listed (omega (arith, by, late)) in omega (arith, m, is))
        ]

        started : (j : ℕ) → j ≤ count → (j ≡ 0) ⊎ (start (j - 1) < t + x) → (j ≡ 0) ⊎ ((s : ℕ) × IsFor u j s × (s < u + x))
        started zero within told = inl refl
        started (suc j) within (inl none) = absurd (omega (arith, none))
        started (suc j) within (inr less) =
            let w = slot_for j (omega (arith, within)) in
            let at : suc j - 1 ≡ j = omega arith in
            let early = subst (λ n. start n < t + x) at less in
            let le = w.2 in
            let same : j + 1 ≡ suc j = omega arith in
            inr (w.0, subst (λ k. IsFor u k w.0) same w.1, omega (arith, early, le, from))

    pub hold : HoldFrom c curve wait most u
    hold =
        let idle = time.idle.idle in
        let some = time.idle.some in
        let after = slot_after (may_of c) (own_of c) c.pitch (blocking_of c) t (time.each (count - 1) (omega (arith, some))).behind last_start
        (time.each (count - 1) (omega (arith, some))).is in
        let need = place.some in
        let last : ℕ = come count - 1 in
        let f = frames last (omega (arith, idle, after, need)) in
        let inside = f.2 in
        let w = slot_for f.0 inside in
        let le = w.2 in
        let up = starts_rise f.0 (count - 1) (omega (arith, inside)) (omega (arith, some)) in
        record {
          last = last;
          slot = w.0;
          is = subst (λ k. IsFor u k w.0) f.1 w.1;
          ends = omega (arith, le, up, idle, after, need, from);
          soon = λ x within. soon x (omega (arith, within, idle, after, need));
          few = λ x within. few x (omega (arith, within, idle, after, need));
        }

  -- ---- none are less

  -- what any bounds say of the frames of the busy period
  pub record HoldHere (w m : ℕ) : Type 0 where
    pub soon : (i : ℕ) → i < count → Soon w t (come i)
    pub few : (i : ℕ) → i < count → Few m t (come i)

  pub here_always : (w m : ℕ) → HoldAlways c curve w m → HoldHere w m
  here_always w m h = record { soon = λ i less. h.soon t (come i); few = λ i less. h.few t (come i) }

  first_by : (i k s : ℕ) → i < count → i + 1 ≤ k → IsFor t k s → start i ≤ s
  first_by i k s less le slot = first_least c t (i + 1) k slot.behind (start i) s le (time.each i less) slot.is slot.enough

  pub here_busy : (w m : ℕ) → HoldFrom c curve w m t → HoldHere w m
  here_busy w m h = record {
    soon = λ i less. h.soon (come i) (within i less);
    few = λ i less. h.few (come i) (within i less);
  }
    where
      -- as many frames come before the wire is idle
      all : count ≤ curve h.last
      all = elim (cases_lt (curve h.last) count) [
        | inr le ↦ le
        | inl less ↦
            let k : ℕ = curve h.last - 1 in
            let one = read.some h.last in
            let is : k + 1 ≡ curve h.last = omega (arith, one) in
            let before = first_by k (curve h.last) h.slot (omega (arith, less, one)) (omega (arith, is)) h.is in
            let busy = time.busy k (omega (arith, less, is)) in
            let known_all = known in
            let later = comes_later curve read.rises (k + 1) h.last (come (k + 1)) ((read.come).each (k + 1) (omega (arith, less, is, known_all)))
            (omega (arith, is)) in
            let ends = h.ends in
            absurd (omega (arith, before, busy, later, ends))
      ]

      within : (i : ℕ) → i < count → come i ≤ h.last
      within i less =
          let enough = all in
          let known_all = known in
          come_within curve i h.last (come i) ((read.come).each i (omega (arith, less, known_all))) (omega (arith, less, enough))

  comes : (i : ℕ) → i < count → i < curve (come i)
  comes i less = (let known_all = known in ((read.come).each i (omega (arith, less, known_all))).come)

  pub wait_under : (wait w m : ℕ) → IsLongest t starts moments count wait → HoldHere w m → wait ≤ w
  wait_under wait w m h bounds = elim h.reached [
    | inl none ↦ omega (arith, none)
    | inr one ↦
        let at = one.2 in
        let told = bounds.soon one.0 one.1 in
        let many = comes one.0 one.1 in
        let up = first_by one.0 (curve (come one.0)) told.0 one.1 (omega (arith, many)) told.1 in
        let by = told.2 in
        omega (arith, at, up, by)
  ]

  pub most_under : (most w m : ℕ) → IsMost t starts moments count most → HoldHere w m → most ≤ m
  most_under most w m h bounds = elim h.reached [
    | inl none ↦ omega (arith, none)
    | inr one ↦
        let told = bounds.few one.0 one.2 in
        let many = comes one.0 one.2 in
        let enough = told.1 in
        let sum = one.5 in
        elim told.2 [
          | inl none ↦ omega (arith, none, enough, many, sum)
          | inr w ↦ elim (cases_lt one.1 told.0) [
            | inr less ↦ omega (arith, less, enough, many, sum)
            | inl more ↦
                let up = first_by one.1 told.0 w.0 one.3 (omega (arith, more)) w.1 in
                let early = w.2 in
                let late = one.4 in
                absurd (omega (arith, up, early, late))
          ]
        ]
  ]
