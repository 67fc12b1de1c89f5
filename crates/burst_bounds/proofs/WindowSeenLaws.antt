-- The moments around the end of a window, one after another.
use Rattle.std.proofs.Common.{◌≡◌, ◌<◌, ◌≤◌, ℕ, zero, suc, ◌+◌, ◌-◌, ◌*◌, ◌^◌, Bool, true, false, List, ◌∷◌, length, get_or, Option, inl, inr, ap, ◌∙◌, subst, arith, add-mul, mul-add}
use Rattle.std.proofs.lemmas.Bool.{both_ways, cases_lt}
use Rattle.gates.specs.Gate.{Plan, in_ps, prefix}
use Rattle.abstract_port.specs.Served.{IsFirst}
use Rattle.delay_bounds.specs.Walk.{may_by}
use Rattle.any_traffic.specs.Slots.{IsSlot}
use Rattle.burst_bounds.specs.Busy.{HasFrames}
use Rattle.burst_bounds.specs.Good.{AreGoodBefore, FitBefore, IsGood}
use Rattle.burst_bounds.specs.Reach.{AreUnder, AreWindowsSeen, AreWithin, IsIdleBy, IsReach, IsRead, IsSeen, IsWindowSeen, frames_of}
use Rattle.burst_bounds.specs.Walk.{AreBelow, AreSlots}
use Rattle.burst_bounds.specs.declared.Bounds.{Bounds}
use Rattle.burst_bounds.specs.declared.repeats.Repeat.{Repeat}
use Rattle.burst_bounds.specs.declared.moments.Reach.{Reach}
use Rattle.burst_bounds.specs.declared.moments.Reach.TheVariants.{Idle}
use Rattle.burst_bounds.proofs.AlikeLaws.{idle_alike, later_alike_before, next_fits}
use Rattle.burst_bounds.proofs.SeenLaws.{good_more, good_of, grown, reached, under}

-- Where the walk around the end of a window stands: before the look at the moment for so many frames.
pub record IsInWindow (plan : Plan) (class d end : ℕ) (moments : List ℕ) (repeat : Option Repeat) (old : Bounds) (from frames : ℕ)
    (slots : List ℕ) (now : Bounds) : Type 0 where
  pub some : 0 < frames
  pub at : from + frames * d ≡ end + 1
  pub fit : FitBefore plan class d end frames
  pub rows : AreSlots (may_by plan class) d from slots
  pub below : AreBelow 100 slots
  pub many : length moments ≤ length slots
  pub grows : AreWithin old now
  pub good : (curve : ℕ → ℕ) → IsRead plan class d curve moments repeat → (k : ℕ) → 0 < k → k < frames
      → IsGood plan class d curve now.wait now.most (end + 1 - k * d)
  pub under : (curve : ℕ → ℕ) → IsRead plan class d curve moments repeat → AreUnder plan class d curve old → AreUnder plan class d curve now

-- there are no more frames than picoseconds
pub frames_within : (plan : Plan) (class d end : ℕ) (moments : List ℕ) (repeat : Option Repeat) (old : Bounds) (from frames : ℕ)
    (slots : List ℕ) (now : Bounds) → 0 < d
    → IsInWindow plan class d end moments repeat old from frames slots now → frames ≤ end + 1
frames_within plan class d end moments repeat old from frames slots now above h =
    let at = h.at in
    let parts : frames * d ≡ frames * 1 + frames * (d - 1) =
    (let s : d ≡ 1 + (d - 1) = omega (arith, above) in ap (λ m. frames * m) s ∙ mul-add frames 1 (d - 1)) in
    omega (arith, at, parts)

module _ (plan : Plan) (class d end : ℕ) (moments : List ℕ) (repeat : Option Repeat) (old : Bounds) (above : 0 < d) where
  abbrev may : ℕ → ℕ → Bool
  may = may_by plan class

  -- no window of d ends there
  pub none_fits : ((d < end + 1) → may (end + 1 - d - 1) d ≡ false) → IsWindowSeen plan class d end moments repeat old old
  none_fits shut = record {
    grown = (omega arith, omega arith);
    good = λ curve read k some fit.
        let one = fit 1 (omega arith) some in
        let low = one.0 in
        let same : 1 * d ≡ d = omega arith in
        let at : end - 1 * d ≡ end + 1 - d - 1 = omega arith in
        absurd (both_ways _ (shut (omega (arith, low, same))) (subst (λ m. may m d ≡ true) at one.1));
    under = λ curve read before. before;
  }

  -- the first of them
  pub first_fits : (slots : List ℕ) → (d < end + 1) → may (end + 1 - d - 1) d ≡ true → AreSlots may d (end + 1 - d) slots
      → AreBelow 100 slots → length moments ≤ length slots
      → IsInWindow plan class d end moments repeat old (end + 1 - d) 1 slots old
  first_fits slots low fits rows below many = record {
    some = omega arith;
    at = (let same : 1 * d ≡ d = omega arith in omega (arith, low, same));
    fit = λ j some within.
        let one : 1 ≡ j = omega (arith, some, within) in
        let same : 1 * d ≡ d = omega arith in
        let at : end + 1 - d - 1 ≡ end - 1 * d = omega arith in
        subst (λ i. (i * d ≤ end) × (may (end - i * d) d ≡ true)) one (omega (arith, low, same), subst (λ m. may m d ≡ true) at fits);
    rows = rows;
    below = below;
    many = many;
    grows = (omega arith, omega arith);
    good = λ curve read k some less. absurd (omega (arith, some, less));
    under = λ curve read before. before;
  }

  module _ (from frames : ℕ) (slots : List ℕ) (now new : Bounds) (h : IsInWindow plan class d end moments repeat old from frames slots now)
      (reach : Reach) (seen : IsSeen d from slots moments repeat reach) (has : HasFrames now from slots moments (frames_of reach) new) where
    start_is : from ≡ end + 1 - frames * d
    start_is = (let at = h.at in omega (arith, at))

    here : (curve : ℕ → ℕ) → IsRead plan class d curve moments repeat → IsReach plan class d curve new from reach
    here curve read = reached plan class d curve from slots moments repeat read h.rows now new reach seen has

    more : AreWithin now new
    more = grown now from slots moments (frames_of reach) new has

    good_to : (curve : ℕ → ℕ) → IsRead plan class d curve moments repeat → (k : ℕ) → 0 < k → k ≤ frames
        → IsGood plan class d curve new.wait new.most (end + 1 - k * d)
    good_to curve read k some le = elim (cases_lt k frames) [
      | inl less ↦ good_more plan class d curve now.wait now.most new.wait new.most more.0 more.1 (end + 1 - k * d)
          (h.good curve read k some less)
      | inr last ↦
          let same : frames ≡ k = omega (arith, last, le) in
          subst (λ i. IsGood plan class d curve new.wait new.most (end + 1 - i * d)) same
          (subst (IsGood plan class d curve new.wait new.most) start_is
          (good_of plan class d curve from slots moments repeat read h.rows now new reach (here curve read)))
    ]

    under_to : (curve : ℕ → ℕ) → IsRead plan class d curve moments repeat → AreUnder plan class d curve old
        → AreUnder plan class d curve new
    under_to curve read before = under plan class d curve from slots moments repeat read h.rows now new reach seen has
        (h.under curve read before)

    grown_to : AreWithin old new
    grown_to = (let a = h.grows.0 in let b = h.grows.1 in let c = more.0 in let e = more.1 in (omega (arith, a, c), omega (arith, b, e)))

    -- the wire is idle before so many frames are sent: so it is from all further ones
    pub ends_idle : (n : ℕ) → reach ≡ Idle n → n < frames → IsWindowSeen plan class d end moments repeat old new
    ends_idle n is few = record {
      grown = grown_to;
      good = λ curve read k some fit. elim (cases_lt frames k) [
        | inr within ↦ good_to curve read k some within
        | inl further ↦
            let mine : IsIdleBy plan class d curve new.wait new.most from n = subst (IsReach plan class d curve new from) is
            (here curve read) in
            let at : IsIdleBy plan class d curve new.wait new.most (end + 1 - frames * d) n = subst
            (λ t. IsIdleBy plan class d curve new.wait new.most t n) start_is mine in
            inl (idle_alike plan class d curve read.rises read.some new.wait new.most n (end + 1 - frames * d) (end + 1 - k * d)
            (later_alike_before plan class d end n frames k above few (omega (arith, further)) fit) at).time
      ];
      under = under_to;
    }

    -- no further frame fits
    pub ends_full : (d < from → may (from - d - 1) d ≡ false) → IsWindowSeen plan class d end moments repeat old new
    ends_full shut = record {
      grown = grown_to;
      good = λ curve read k some fit. elim (cases_lt frames k) [
        | inr within ↦ good_to curve read k some within
        | inl further ↦
            let one = fit (frames + 1) (omega arith) (omega (arith, further)) in
            let low = one.0 in
            let at = h.at in
            let parts : (frames + 1) * d ≡ frames * d + d =
            (let o : 1 * d ≡ d = omega arith in add-mul frames 1 d ∙ ap (λ m. frames * d + m) o) in
            let to : end - (frames + 1) * d ≡ from - d - 1 = omega (arith, parts, at) in
            absurd (both_ways _ (shut (omega (arith, low, parts, at))) (subst (λ m. may m d ≡ true) to one.1))
      ];
      under = under_to;
    }

    -- one more fits
    pub goes_on : d < from → may (from - d - 1) d ≡ true → from < 2 ^ 100
        → IsInWindow plan class d end moments repeat old (from - d) (frames + 1) ((from - d) ∷ slots) new
    goes_on low fits small = record {
      some = omega arith;
      at = omega (arith, low, parts, is);
      fit = λ j some within. elim (cases_lt j (frames + 1)) [
        | inl less ↦ h.fit j some (omega (arith, less))
        | inr last ↦
            let same : frames + 1 ≡ j = omega (arith, last, within) in
            subst (λ i. (i * d ≤ end) × (may (end - i * d) d ≡ true)) same (
              omega (arith, low, parts, is),
              subst (λ m. may m d ≡ true)
                  (let to : from - d - 1 ≡ end - (frames + 1) * d = omega (arith, parts, is) in to) fits,
            )
      ];
      rows = record { each = λ i less. rows_at i less };
      below = record { each = λ i less. below_at i less };
      many = (let m = h.many in omega (arith, m));
      grows = grown_to;
      good = λ curve read k some less. good_to curve read k some (omega (arith, less));
      under = under_to;
    }
      where
        is : from + frames * d ≡ end + 1
        is = h.at

        parts : (frames + 1) * d ≡ frames * d + d
        parts = (let o : 1 * d ≡ d = omega arith in add-mul frames 1 d ∙ ap (λ m. frames * d + m) o)

        -- the frame before the first of these can be sent
        behind : may (from - d - 1 + d) d ≡ true
        behind =
            let some = h.some in
            let last = h.fit frames some (omega arith) in
            let to : end - frames * d ≡ from - d - 1 + d = omega (arith, is, low) in
            subst (λ m. may m d ≡ true) to last.1

        first : IsFirst may d (from - d) (from - d)
        first = record {
          from = omega arith;
          fits = subst (λ m. may m d ≡ true) (let to : from - d - 1 + 1 ≡ from - d = omega (arith, low) in to)
              (next_fits plan class d (from - d - 1) above fits behind);
          least = λ m after before. absurd (omega (arith, after, before));
        }

        rows_at : (i : ℕ) → i < length ((from - d) ∷ slots) → IsSlot may d (from - d) i (get_or ((from - d) ∷ slots) i 0)
        rows_at zero less = first
        rows_at (suc i) less = (
          from - d,
          first,
          subst (λ t. IsSlot may d t i (get_or slots i 0))
              (let to : from ≡ from - d + d = omega (arith, low) in to) ((h.rows).each i (omega (arith, less))),
        )

        below_at : (i : ℕ) → i < length ((from - d) ∷ slots) → get_or ((from - d) ∷ slots) i 0 < 2 ^ 100
        below_at zero less = omega (arith, small)
        below_at (suc i) less = (h.below).each i (omega (arith, less))

-- ---- window after window

module _ (plan : Plan) (class d : ℕ) (moments : List ℕ) (repeat : Option Repeat) (old : Bounds) where
  abbrev edge : ℕ → ℕ
  edge i = in_ps plan.cycle + prefix plan.entries i

  pub no_windows : AreWindowsSeen plan class d moments repeat 0 old old
  no_windows = record {
    grown = (omega arith, omega arith);
    good = λ curve read i less. absurd (omega (arith, less));
    under =
        λ curve read before. before;
  }

  -- none ends there
  pub no_more : (i : ℕ) (now : Bounds) → AreWindowsSeen plan class d moments repeat i old now
      → ((may_by plan class (edge i) 1 ≡ false) → (may_by plan class (edge i - 1) 1 ≡ true) → ⊥)
      → AreWindowsSeen plan class d moments repeat (i + 1) old now
  no_more i now h none = record {
    grown = h.grown;
    good = λ curve read j less shut opened. elim (cases_lt j i) [
      | inl before ↦ h.good curve read j before shut opened
      | inr here ↦
          let e : j ≡ i = omega (arith, here, less) in
          absurd (none (subst (λ k. may_by plan class (edge k) 1 ≡ false) e shut)
          (subst (λ k. may_by plan class (edge k - 1) 1 ≡ true) e opened))
    ];
    under = h.under;
  }

  pub one_more : (i : ℕ) (now new : Bounds) → AreWindowsSeen plan class d moments repeat i old now
      → IsWindowSeen plan class d (edge i) moments repeat now new
      → AreWindowsSeen plan class d moments repeat (i + 1) old new
  one_more i now new h seen = record {
    grown = (let a = h.grown.0 in let b = h.grown.1 in let c = seen.grown.0 in let e = seen.grown.1 in
        (omega (arith, a, c), omega (arith, b, e)));
    good = λ curve read j less shut opened. elim (cases_lt j i) [
      | inl before ↦ (λ k some fit. good_more plan class d curve now.wait now.most new.wait new.most seen.grown.0 seen.grown.1
          (edge j + 1 - k * d) (h.good curve read j before shut opened k some fit))
      | inr here ↦ subst (λ k. AreGoodBefore plan class d curve new.wait new.most (edge k))
          (let e : i ≡ j = omega (arith, here, less) in e) (seen.good curve read)
    ];
    under = λ curve read before. seen.under curve read (h.under curve read before);
  }
