-- The least bounds of a class.
use Rattle.std.specs.Prelude.{◌≤◌, ℕ}
use Rattle.gates.specs.Gate.{Plan}
use Rattle.any_traffic.specs.AnyTraffic.{AreCurveBounds}

-- Bounds of a plan with a curve, and no others have a shorter wait or fewer frames that wait at once.
pub record AreLeast (plan : Plan) (class d : ℕ) (curve : ℕ → ℕ) (wait most : ℕ) : Type 0 where
  pub are : AreCurveBounds plan class d curve wait most
  pub wait_least : (w m : ℕ) → AreCurveBounds plan class d curve w m → wait ≤ w
  pub most_least : (w m : ℕ) → AreCurveBounds plan class d curve w m → most ≤ m
