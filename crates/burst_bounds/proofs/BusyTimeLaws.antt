-- What the slots and the arrivals of a busy time say of the bounds.
use Rattle.std.proofs.Common.{◌<◌, ◌≤◌, ℕ, ◌+◌, ◌-◌, Bool, List, length, get_or, inl, inr, arith, le_refl}
use Rattle.std.proofs.lemmas.Bool.{cases_lt}
use Rattle.gates.specs.Gate.{Plan}
use Rattle.delay_bounds.specs.Walk.{may_by}
use Rattle.any_traffic.specs.AnyTraffic.{AreCurveBounds}
use Rattle.any_traffic.specs.Slots.{IsSlot}
use Rattle.burst_bounds.specs.Busy.{IsIdleBehind, IsLongest, IsMost, Rises}
use Rattle.burst_bounds.specs.Walk.{AreArrivals, AreSlots, IsArrival}
use Rattle.burst_bounds.specs.Reach.{IsIdleBy}
use Rattle.any_traffic.proofs.SlotLaws.{one_slot}
use Rattle.burst_bounds.proofs.SlotLaws.{slot_from, slots_rise}

-- ---- arrivals rise

pub arrival_rises : (curve : ℕ → ℕ) (i j x y : ℕ) → i ≤ j → IsArrival curve i x → IsArrival curve j y → x ≤ y
arrival_rises curve i j x y le a b = elim (cases_lt y x) [
  | inl less ↦ (let few = a.least y less in let come = b.come in absurd (omega (arith, few, come, le)))
  | inr more ↦ omega (arith, more)
]

pub arrivals_rise : (curve : ℕ → ℕ) (moments : List ℕ) → AreArrivals curve moments → Rises moments
arrivals_rise curve moments h = record {
  each = λ i j le listed. arrival_rises curve i j (get_or moments i 0) (get_or moments j 0) le (h.each i (omega (arith, le, listed)))
      (h.each j listed);
}

-- a frame that is among those that come within x has come by then
pub come_within : (curve : ℕ → ℕ) (i x y : ℕ) → IsArrival curve i y → i < curve x → y ≤ x
come_within curve i x y a less = elim (cases_lt x y) [
  | inl before ↦ (let few = a.least x before in absurd (omega (arith, few, less)))
  | inr after ↦ omega (arith, after)
]

module _ (plan : Plan) (class d : ℕ) (curve : ℕ → ℕ) (t : ℕ) (slots moments : List ℕ)
    (rows : AreSlots (may_by plan class) d t slots) (come : AreArrivals curve moments) where
  abbrev may : ℕ → ℕ → Bool
  may = may_by plan class

  -- ---- up to so many frames

  pub soon_by : (n wait x : ℕ) → IsLongest t slots moments n wait → n ≤ length slots → n ≤ length moments → 0 < curve x → curve x ≤ n
      → (s : ℕ) × IsSlot may d t (curve x - 1) s × (s ≤ t + x + wait)
  soon_by n wait x longest listed known some few =
      let i : ℕ = curve x - 1 in
      let y : ℕ = get_or moments i 0 in
      let by = come_within curve i x y (come.each i (omega (arith, some, few, known))) (omega (arith, some)) in
      let w = longest.within i (omega (arith, some, few)) in
      (get_or slots i 0, rows.each i (omega (arith, some, few, listed)), omega (arith, by, w))

  pub few_by : (n most x m s : ℕ) → IsMost t slots moments n most → n ≤ length slots → n ≤ length moments → curve x ≤ n
      → IsSlot may d t m s → t + x ≤ s → curve x ≤ m + most
  few_by n most x m s h listed known few slot after = elim (cases_lt m (length slots)) [
    | inr many ↦ omega (arith, many, few, listed)
    | inl less ↦ elim (cases_lt 0 (curve x)) [
      | inr none ↦ omega (arith, none)
      | inl some ↦
          let i : ℕ = curve x - 1 in
          let y : ℕ = get_or moments i 0 in
          let by = come_within curve i x y (come.each i (omega (arith, some, few, known))) (omega (arith, some)) in
          let same = one_slot may d t m s (get_or slots m 0) slot (rows.each m less) in
          let all = h.within i m (omega (arith, some, few)) less (omega (arith, by, same, after)) in
          omega (arith, all, some)
    ]
  ]

  -- where the wire is idle behind so many frames
  pub idle_by : (n wait most : ℕ) → 0 < d → ((x : ℕ) → 0 < curve x) → IsIdleBehind d t slots moments n → IsLongest t slots moments n wait
      → IsMost t slots moments n most
      → IsIdleBy plan class d curve wait most t n
  idle_by n wait most above some idle longest all =
      let ends = idle.idle in
      let begun = idle.some in
      let listed = idle.slotted in
      let known = idle.follows in
      let x : ℕ = get_or moments n 0 in
      let last : ℕ = x - 1 in
      let end_slot : IsSlot may d t (n - 1) (get_or slots (n - 1) 0) = rows.each (n - 1) (omega (arith, begun, listed)) in
      let from = slot_from may d t (n - 1) (get_or slots (n - 1) 0) end_slot in
      let within : (y : ℕ) → y ≤ last → curve y ≤ n = λ y le. (come.each n known).least y (omega (arith, le, ends, from, above)) in
      let one = some last in
      let few = within last (le_refl last) in
      let mine : IsSlot may d t (curve last - 1) (get_or slots (curve last - 1) 0) = rows.each (curve last - 1)
      (omega (arith, few, listed, begun)) in
      let up = slots_rise may d t (curve last - 1) (n - 1) (get_or slots (curve last - 1) 0) (get_or slots (n - 1) 0) (omega (arith, few))
      mine end_slot in
      record {
        time = record {
          last = last;
          slot = get_or slots (curve last - 1) 0;
          is = mine;
          ends = omega (arith, up, ends, from, above);
          soon = λ y le. soon_by n wait y longest listed (omega (arith, known)) (some y) (within y le);
          few = λ y m s le slot after. few_by n most y m s all listed (omega (arith, known)) (within y le) slot after;
        };
        few = few;
      }

  -- ---- no bounds are less

  pub wait_under : (n wait w m : ℕ) → n ≤ length slots → n ≤ length moments → IsLongest t slots moments n wait
      → AreCurveBounds plan class d curve w m → wait ≤ w
  wait_under n wait w m listed known h bounds = elim h.reached [
    | inl none ↦ omega (arith, none)
    | inr one ↦
        let i : ℕ = one.0 in
        let inside = one.1 in
        let at = one.2 in
        let y : ℕ = get_or moments i 0 in
        let comes = (come.each i (omega (arith, inside, known))).come in
        let told = bounds.soon t y in
        let up = slots_rise may d t i (curve y - 1) (get_or slots i 0) told.0 (omega (arith, comes))
        (rows.each i (omega (arith, inside, listed))) told.1 in
        let within = told.2 in
        omega (arith, at, up, within)
  ]

  pub most_under : (n most w m : ℕ) → n ≤ length moments → IsMost t slots moments n most → AreCurveBounds plan class d curve w m → most ≤ m
  most_under n most w m known h bounds = elim h.reached [
    | inl none ↦ omega (arith, none)
    | inr one ↦
        let i : ℕ = one.0 in
        let k : ℕ = one.1 in
        let inside = one.2 in
        let sum = one.5 in
        let comes = (come.each i (omega (arith, inside, known))).come in
        let told = bounds.few t (get_or moments i 0) k (get_or slots k 0) (rows.each k one.3) one.4 in
        omega (arith, sum, comes, told)
  ]
