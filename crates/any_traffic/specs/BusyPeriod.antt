-- Busy periods: why a look at finitely many moments is enough for the bounds of a plan with an arrival curve.
--
-- A plan repeats, so that the moments of one cycle are all. From one of them on frames need be followed only while the wire is busy with
-- them: once the last that may have come has ended before a further one can come, all is as from then on.
use Rattle.std.specs.Prelude.{◌<◌, ◌≤◌, ℕ, ◌+◌, ◌-◌, List}
use Rattle.gates.specs.Gate.{Plan, in_ps}
use Rattle.delay_bounds.specs.Walk.{may_by}
use Rattle.any_traffic.specs.AnyTraffic.{AreCurveBounds}
use Rattle.any_traffic.specs.Slots.{IsSlot}
use Rattle.any_traffic.specs.Sporadic.{AreFlows, Sporadic, curve_of_all}

-- an arrival curve is subadditive: no more come within a time than within two parts of it, the second of which begins a picosecond behind
-- the first
abbrev pub IsSubadditive : (ℕ → ℕ) → Type 0
IsSubadditive curve = (x y : ℕ) → curve (x + 1 + y) ≤ curve x + curve y

-- The busy period from t on: the frames that come within `last` have ended before a further one can come, and the bounds hold up to then.
pub record IsBusyPeriod (plan : Plan) (class d : ℕ) (curve : ℕ → ℕ) (wait most t : ℕ) : Type 0 where
  pub last : ℕ
  pub slot : ℕ
  pub is : IsSlot (may_by plan class) d t (curve last - 1) slot
  pub ends : slot + d ≤ t + last + 1
  pub soon : (x : ℕ) → x ≤ last → (s : ℕ) × IsSlot (may_by plan class) d t (curve x - 1) s × (s ≤ t + x + wait)
  pub few : (x n s : ℕ) → x ≤ last → IsSlot (may_by plan class) d t n s → t + x ≤ s → curve x ≤ n + most

-- The law of one cycle: what bounds the busy period from each moment of one cycle bounds all.
abbrev pub CycleLaw : Type 0
CycleLaw =
    (plan : Plan) (class d : ℕ) (curve : ℕ → ℕ) (wait most : ℕ) → 0 < plan.cycle → 0 < d → IsSubadditive curve
    → ((t : ℕ) → t < in_ps plan.cycle → IsBusyPeriod plan class d curve wait most t) → AreCurveBounds plan class d curve wait most

-- the curves of sporadic flows are subadditive
abbrev pub SubadditiveLaw : Type 0
SubadditiveLaw = (d : ℕ) (flows : List Sporadic) → AreFlows d flows → IsSubadditive (curve_of_all flows)

-- and rise
abbrev pub RisingLaw : Type 0
RisingLaw = (d : ℕ) (flows : List Sporadic) → AreFlows d flows → (x y : ℕ) → x ≤ y → curve_of_all flows x ≤ curve_of_all flows y
