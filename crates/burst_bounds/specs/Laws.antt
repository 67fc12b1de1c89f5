-- The laws of this crate.
use Rattle.std.specs.Prelude.{◌<◌, ◌≤◌, ℕ}
use Rattle.gates.specs.Gate.{Plan, IsSchedule}
use Rattle.abstract_port.specs.Served.{IsFirst}
use Rattle.delay_bounds.specs.Walk.{may_by}
use Rattle.any_traffic.specs.BusyPeriod.{IsSubadditive}
use Rattle.any_traffic.specs.AnyTraffic.{AreCurveBounds}
use Rattle.burst_bounds.specs.Good.{AreGoodAtWindows, IsGood}

-- The law of moments: bounds that hold from moment 0 and from each moment that is just too late for some frames to be sent before the end
-- of a window hold from all moments. So finitely many are enough, for ever.
abbrev pub MomentsLaw : Type 0
MomentsLaw =
    (plan : Plan) (class d : ℕ) (curve : ℕ → ℕ) (wait most : ℕ) → IsSchedule plan → 0 < d
    → IsSubadditive curve → ((x y : ℕ) → x ≤ y → curve x ≤ curve y) → ((x : ℕ) → 0 < curve x)
    → ((t : ℕ) → (s : ℕ) × IsFirst (may_by plan class) d t s)
    → IsGood plan class d curve wait most 0 → AreGoodAtWindows plan class d curve wait most → AreCurveBounds plan class d curve wait most
