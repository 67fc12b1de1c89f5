-- The moments that are looked at are enough.
use Rattle.std.proofs.Common.{◌≡◌, ◌<◌, ◌≤◌, ◌⊎◌, ℕ, zero, suc, ◌+◌, ◌-◌, ◌*◌, ◌/◌, ◌%◌, Bool, true, false, Some, None, length, add-mul, mul_comm, inl, inr, refl, sym, ap, ◌∙◌, subst, arith, le_refl, mod-lt}
use Rattle.std.proofs.Math.Nat.{div-add-mod, div-mul-le_self}
use Rattle.std.proofs.lemmas.Bool.{both_ways, cases_Bool, cases_lt}
use Rattle.gates.specs.Gate.{IsSchedule, Plan, in_ps, mask_since, opens, prefix}
use Rattle.gates.proofs.OpenLaws.{open_at, open_from, open_within}
use Rattle.abstract_port.specs.Served.{IsFirst}
use Rattle.delay_bounds.proofs.GateLaws.{by_repeats}
use Rattle.delay_bounds.proofs.LongestWaitLaws.{closes_at}
use Rattle.delay_bounds.specs.ForEver.{Repeats}
use Rattle.delay_bounds.specs.Walk.{may_by}
use Rattle.any_traffic.specs.AnyTraffic.{AreCurveBounds}
use Rattle.any_traffic.specs.BusyPeriod.{IsSubadditive, IsBusyPeriod}
use Rattle.any_traffic.specs.Slots.{IsSlot}
use Rattle.burst_bounds.specs.Good.{AreGoodAtWindows, FitBefore, IsGood}
use Rattle.burst_bounds.specs.Laws.{MomentsLaw}
use Rattle.burst_bounds.proofs.AlikeLaws.{AreAlike, good_alike, joined, later_alike, one_behind_another, turned}
use Rattle.burst_bounds.proofs.JumpLaws.{Closes, IsCritical, NoJump, busy_on, for_ever_on, jumps}
use Rattle.any_traffic.proofs.SlotLaws.{both_slots, one_slot, slot_before, slot_exists, slot_sooner, slots_behind}

rise_times : (a b c : ℕ) → a ≤ b → a * c ≤ b * c
rise_times a b c le = (let e : b * c ≡ a * c + (b - a) * c =
    (let s : b ≡ a + (b - a) = omega (arith, le) in ap (λ m. m * c) s ∙ add-mul a (b - a) c) in omega (arith, e))

-- a slot fits, and is no earlier than if all were sent one behind another
slot_fits : (may : ℕ → ℕ → Bool) (d t n s : ℕ) → IsSlot may d t n s → may s d ≡ true
slot_fits may d t zero s h = h.fits
slot_fits may d t (suc n) s h = slot_fits may d (h.0 + d) n s h.2

slot_after : (may : ℕ → ℕ → Bool) (d t n s : ℕ) → IsSlot may d t n s → t + n * d ≤ s
slot_after may d t zero s h = (let from = h.from in let z : 0 * d ≡ 0 = omega arith in omega (arith, from, z))
slot_after may d t (suc n) s h =
    let from = (h.1).from in
    let rest = slot_after may d (h.0 + d) n s h.2 in
    let parts : suc n * d ≡ d + n * d = grind arith in
    omega (arith, from, rest, parts)

module _ (plan : Plan) (class d : ℕ) (sound : IsSchedule plan) (above : 0 < d) where
  abbrev may : ℕ → ℕ → Bool
  may = may_by plan class

  abbrev mask : ℕ → ℕ
  mask = mask_since (Some plan) 0 None

  abbrev cycle : ℕ
  cycle = in_ps plan.cycle

  positive : 0 < plan.cycle
  positive = sound.plan_is.cycle

  again : (k : ℕ) → Repeats may (cycle * k)
  again k = by_repeats plan positive class k

  -- ---- where frames one behind another end with a window

  module _ (t k : ℕ) (h : Closes may d t k) where
    abbrev end : ℕ
    end = t + suc k * d

    ends : end ≡ t + k * d + d
    ends = grind arith

    last : may (t + k * d) d ≡ true
    last = h.row k (le_refl k)

    opened : (m : ℕ) → t ≤ m → m < end → may m 1 ≡ true
    opened m from below =
        let j : ℕ = (m - t) / d in
        let low : j * d ≤ m - t = div-mul-le_self (m - t) d in
        let whole : d * j + (m - t) % d ≡ m - t = div-add-mod (m - t) d in
        let rest : (m - t) % d < d = mod-lt (m - t) above in
        let turn : d * j ≡ j * d = grind arith in
        let inside : j ≤ k = elim (cases_lt k j) [
          | inr less ↦ omega (arith, less)
          | inl more ↦
              let up : suc k * d ≤ j * d = rise_times (suc k) j d (omega (arith, more)) in
              absurd (omega (arith, up, low, below, from))
        ] in
        open_within mask class (t + j * d) d m 1 (h.row j inside) (omega (arith, low, from)) (omega (arith, whole, turn, rest, from))

    shut : may end 1 ≡ false
    shut = elim (cases_Bool (may end 1)) [
      | inr is ↦ is
      | inl shown ↦
          let e = ends in
          absurd (both_ways _ h.shut (open_from mask class (t + k * d + 1) d (λ n from below. elim (cases_lt n (t + k * d + d)) [
            | inl before ↦ open_at mask class (t + k * d) d last n (omega (arith, from)) before
            | inr after ↦ subst (λ m. opens (mask m) class ≡ true) (let same : end ≡ n = omega (arith, after, below, e) in same)
                (open_at mask class end 1 shown end (le_refl end) (omega arith))
          ])))
    ]

    -- the window is no longer than a cycle
    short : suc k * d ≤ cycle
    short = elim (cases_lt cycle (suc k * d)) [
      | inr less ↦ less
      | inl long ↦
          let m : ℕ = end - cycle in
          let back : m + cycle * 1 ≡ end = omega (arith, long) in
          let p = positive in
          let shown = opened m (omega (arith, long)) (omega (arith, long, p)) in
          absurd (both_ways _ shut (subst (λ n. may n 1 ≡ true) back (again 1 m 1 ∙ shown)))
    ]

    -- it ends where an entry begins
    edge : (i : ℕ) × (i < length plan.entries) × (prefix plan.entries i ≡ end % cycle)
    edge =
        let e = ends in
        let p = above in
        let at : end - 1 + 1 ≡ end = omega (arith, e, p) in
        let shown : opens (mask (end - 1)) class ≡ true = open_at mask class (end - 1) 1
        (opened (end - 1) (omega (arith, e, p)) (omega (arith, e, p))) (end - 1) (le_refl (end - 1)) (omega arith) in
        let closed : opens (mask end) class ≡ false = closed_by (opens (mask end) class) refl in
        let it = closes_at plan class positive sound.plan_is.entries (end - 1) shown
        (subst (λ m. opens (mask m) class ≡ false) (sym at) closed) in
        (it.0, it.1, it.2 ∙ ap (λ m. m % cycle) at)
      where
        closed_by : (b : Bool) → opens (mask end) class ≡ b → opens (mask end) class ≡ false
        closed_by false is = is
        closed_by true is = absurd (both_ways _ shut
            (open_from mask class end 1 (λ n from below. subst (λ m. opens (mask m) class ≡ true)
            (let same : end ≡ n = omega (arith, from, below) in same) is)))

    module _ (curve : ℕ → ℕ) (rises : (x y : ℕ) → x ≤ y → curve x ≤ curve y) (some : (x : ℕ) → 0 < curve x) (wait most : ℕ)
        (windows : AreGoodAtWindows plan class d curve wait most) where
      -- so bounds hold right behind its first moment
      pub looked : IsGood plan class d curve wait most (t + 1)
      looked = good_alike plan class d curve rises some wait most (seen + 1 - suc k * d) (t + 1) alike good
        where
          i : ℕ
          i = edge.0

          seen : ℕ
          seen = cycle + prefix plan.entries i

          q : ℕ
          q = end / cycle

          whole : seen + cycle * q ≡ end + cycle * 1
          whole = (let parts = div-add-mod end cycle in let is = edge.2 in omega (arith, parts, is))

          same : (m n e : ℕ) → m + cycle * q ≡ n + cycle * 1 → may n e ≡ may m e
          same m n e at = sym (again 1 n e) ∙ (ap (λ x. may x e) (sym at) ∙ again q m e)

          fit : FitBefore plan class d seen (suc k)
          fit j from within =
              let few : j * d ≤ suc k * d = rise_times j (suc k) d within in
              let all = short in
              let w = whole in
              let l : ℕ = suc k - j in
              let parts : suc k * d ≡ l * d + j * d = (let sum : l + j ≡ suc k = omega (arith, within) in ap (λ m. m * d) (sym sum) ∙
              add-mul l j d) in
              let at : seen - j * d + cycle * q ≡ t + l * d + cycle * 1 = omega (arith, parts, w, few, all) in
              (omega (arith, few, all), sym (same (seen - j * d) (t + l * d) d at) ∙ h.row l (omega (arith, from)))

          good : IsGood plan class d curve wait most (seen + 1 - suc k * d)
          good =
              let w = whole in
              let e = ends in
              let p = above in
              let c = positive in
              let closed : may seen 1 ≡ false = sym (same seen end 1 w) ∙ shut in
              let before : seen - 1 + cycle * q ≡ end - 1 + cycle * 1 = omega (arith, w, e, p, c) in
              let shown : may (seen - 1) 1 ≡ true = sym (same (seen - 1) (end - 1) 1 before) ∙ opened (end - 1) (omega (arith, e, p))
              (omega (arith, e, p)) in
              windows i edge.1 closed shown (suc k) (omega arith) fit

          alike : (n : ℕ) → AreAlike may d n (seen + 1 - suc k * d) (t + 1)
          alike n =
              let w = whole in
              let s = short in
              let at : seen + 1 - suc k * d + cycle * q ≡ t + 1 + cycle * 1 = omega (arith, w, s) in
              joined may d n (seen + 1 - suc k * d) (t + 1 + cycle * 1) (t + 1)
              (subst (AreAlike may d n (seen + 1 - suc k * d)) at (later_alike may d n (seen + 1 - suc k * d) (cycle * q) (again q)))
              (turned may d n (t + 1) (t + 1 + cycle * 1) (later_alike may d n (t + 1) (cycle * 1) (again 1)))

  -- ---- from moment to moment

  module _ (curve : ℕ → ℕ) (rises : (x y : ℕ) → x ≤ y → curve x ≤ curve y) (some : (x : ℕ) → 0 < curve x) (wait most : ℕ)
      (there : (t : ℕ) → (s : ℕ) × IsFirst may d t s) (origin : IsGood plan class d curve wait most 0)
      (windows : AreGoodAtWindows plan class d curve wait most) where
    -- where none of the first slots jumps, none does: a window has no more slots than a cycle has picoseconds
    none_jumps : (t : ℕ) → NoJump may d t cycle → (n : ℕ) → NoJump may d t n
    none_jumps t none n = go (jumps plan class d above t n)
      where
        go : IsCritical may d t n ⊎ NoJump may d t n → NoJump may d t n
        go (inr calm) = calm
        go (inl critical) =
            let k : ℕ = critical.k in
            let c = critical.closes in
            let few = short t k c in
            let many : suc k ≤ suc k * d = (let up = rise_times 1 d (suc k) above in let turn : d * suc k ≡ suc k * d = mul_comm d
            (suc k) in omega (arith, up, turn)) in
            let old = one_behind_another plan class d k t c.row in
            let new = slot_exists may d there (t + 1) k in
            let up = none.near k (t + k * d) new.0 (omega (arith, few, many)) old new.1 in
            let low = slot_after may d (t + 1) k new.0 new.1 in
            let at : new.0 ≡ t + k * d + 1 = omega (arith, up, low) in
            absurd (both_ways _ c.shut (subst (λ m. may m d ≡ true) at (slot_fits may d (t + 1) k new.0 new.1)))

    critical_good : (t n : ℕ) → IsCritical may d t n → IsGood plan class d curve wait most (t + 1)
    critical_good t n c = looked t c.k c.closes curve rises some wait most windows

    next_good : (t : ℕ) → IsGood plan class d curve wait most t → IsGood plan class d curve wait most (t + 1)
    next_good t (inl b) = go (jumps plan class d above t (curve b.last))
      where
        go : IsCritical may d t (curve b.last) ⊎ NoJump may d t (curve b.last) → IsGood plan class d curve wait most (t + 1)
        go (inl c) = critical_good t (curve b.last) c
        go (inr none) = inl (busy_on plan class d above curve rises wait most there t b none)
    next_good t (inr h) = go (jumps plan class d above t cycle)
      where
        go : IsCritical may d t cycle ⊎ NoJump may d t cycle → IsGood plan class d curve wait most (t + 1)
        go (inl c) = critical_good t cycle c
        go (inr none) = inr (for_ever_on plan class d above curve rises wait most there t h (none_jumps t none))

    pub all_good : (t : ℕ) → IsGood plan class d curve wait most t
    all_good zero = origin
    all_good (suc t) = subst (IsGood plan class d curve wait most) (let e : t + 1 ≡ suc t = omega arith in e) (next_good t (all_good t))

-- ---- bounds from all moments are bounds

module _ (plan : Plan) (class d : ℕ) (curve : ℕ → ℕ) (wait most : ℕ) (pos : 0 < d) (adds : IsSubadditive curve)
    (there : (t : ℕ) → (s : ℕ) × IsFirst (may_by plan class) d t s) (good : (t : ℕ) → IsGood plan class d curve wait most t) where
  soon_by : (n t x : ℕ) → x < n → (s : ℕ) × IsSlot (may_by plan class) d t (curve x - 1) s × (s ≤ t + x + wait)
  soon_by zero t x less = absurd (omega (arith, less))
  soon_by (suc n) t x less = by (good t) (λ u y inside. soon_by n u y inside)
    where
      by : IsGood plan class d curve wait most t
          → ((u y : ℕ) → y < n → (s : ℕ) × IsSlot (may_by plan class) d u (curve y - 1) s × (s ≤ u + y + wait))
          → (s : ℕ) × IsSlot (may_by plan class) d t (curve x - 1) s × (s ≤ t + x + wait)
      by (inr h) ih = h.soon x
      by (inl b) ih = elim (cases_lt b.last x) [
        | inr within ↦ b.soon x within
        | inl over ↦
            let y : ℕ = x - b.last - 1 in
            let is : b.last + 1 + y ≡ x = omega (arith, over) in
            let u : ℕ = t + b.last + 1 in
            let later = ih u y (omega (arith, less, over)) in
            let near = slot_sooner (may_by plan class) d (b.slot + d) u (curve y - 1) later.0 b.ends later.1 in
            let all = both_slots (may_by plan class) d t (curve b.last - 1) (curve y - 1) b.slot near.0 b.is near.1 in
            let most_x = subst (λ k. curve k ≤ curve b.last + curve y) is (adds b.last y) in
            let parts : suc (curve b.last - 1 + (curve y - 1)) ≡ curve x - 1 + (suc (curve b.last - 1 + (curve y - 1)) - (curve x - 1)) =
            omega (arith, most_x) in
            let r = slot_before (may_by plan class) d t (curve x - 1) (suc (curve b.last - 1 + (curve y - 1)) - (curve x - 1))
            (suc (curve b.last - 1 + (curve y - 1))) near.0 parts all in
            let one = r.2 in
            let two = near.2 in
            let three = later.2 in
            (r.0, r.1, omega (arith, one, two, three, over))
      ]

  few_by : (n t x m s : ℕ) → x < n → IsSlot (may_by plan class) d t m s → t + x ≤ s → curve x ≤ m + most
  few_by zero t x m s less slot after = absurd (omega (arith, less))
  few_by (suc n) t x m s less slot after = by (good t) (λ u y l k below row on. few_by n u y l k below row on)
    where
      beyond : (b : IsBusyPeriod plan class d curve wait most t) → b.last < x
          → ((u y l k : ℕ) → y < n → IsSlot (may_by plan class) d u l k → u + y ≤ k → curve y ≤ l + most) → curve x ≤ m + most
      beyond b over ih =
          let y : ℕ = x - b.last - 1 in
          let is : b.last + 1 + y ≡ x = omega (arith, over) in
          let u : ℕ = t + b.last + 1 in
          let ends = b.ends in
          let most_x = subst (λ k. curve k ≤ curve b.last + curve y) is (adds b.last y) in
          elim (cases_lt (curve b.last - 1) m) [
            | inr few ↦
                let parts : curve b.last - 1 ≡ m + (curve b.last - 1 - m) = omega (arith, few) in
                let r = slot_before (may_by plan class) d t m (curve b.last - 1 - m) (curve b.last - 1) b.slot parts b.is in
                let same = one_slot (may_by plan class) d t m r.0 s r.1 slot in
                let le = r.2 in
                absurd (omega (arith, le, same, ends, after, over, pos))
            | inl more ↦
                let l : ℕ = m - 1 - (curve b.last - 1) in
                let parts : m ≡ suc (curve b.last - 1 + l) = omega (arith, more) in
                let rest = slots_behind (may_by plan class) d t (curve b.last - 1) l b.slot s b.is
                (subst (λ k. IsSlot (may_by plan class) d t k s) parts slot) in
                let far = slot_exists (may_by plan class) d there u l in
                let near = slot_sooner (may_by plan class) d (b.slot + d) u l far.0 ends far.1 in
                let same = one_slot (may_by plan class) d (b.slot + d) l near.0 s near.1 rest in
                let le = near.2 in
                let fewer = ih u y l far.0 (omega (arith, less, over)) far.1 (omega (arith, le, same, after, over)) in
                omega (arith, most_x, fewer, more)
          ]

      by : IsGood plan class d curve wait most t
          → ((u y l k : ℕ) → y < n → IsSlot (may_by plan class) d u l k → u + y ≤ k → curve y ≤ l + most) → curve x ≤ m + most
      by (inr h) ih = h.few x m s slot after
      by (inl b) ih = elim (cases_lt b.last x) [
        | inr within ↦ b.few x m s within slot after
        | inl over ↦ beyond b over ih
      ]

  pub are_bounds : AreCurveBounds plan class d curve wait most
  are_bounds = record {
    soon = λ t x. soon_by (suc x) t x (le_refl (suc x));
    few = λ t x n s slot after. few_by (suc x) t x n s (le_refl (suc x)) slot after;
  }

pub moments_law : MomentsLaw
moments_law plan class d curve wait most sound above adds rises some there origin windows =
    are_bounds plan class d curve wait most above adds there
    (all_good plan class d sound above curve rises some wait most there origin windows)
