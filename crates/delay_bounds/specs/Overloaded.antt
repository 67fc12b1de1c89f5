-- Overload: the frames of flows need more time than the gates give to their class, so its queue is full at last, whatever its room.
use Rattle.std.specs.Prelude.{◌≡◌, ◌<◌, ◌≤◌, ℕ, ◌+◌, ◌*◌, List, map, Some}
use Rattle.gates.specs.Gate.{Plan, in_ps}
use Rattle.delay_bounds.specs.Bounds.{AreBounds, Track}
use Rattle.delay_bounds.specs.Claim.{IsFirstDropped, earliest, offsets_of}
use Rattle.delay_bounds.specs.Walk.{after, begun, may_by}
use Rattle.delay_bounds.specs.declared.Bound.{Bound}
use Rattle.delay_bounds.specs.declared.Flow.{Flow}

-- By a plan alone, where at some room no frame is dropped so far, and of so many frames behind the first ones:
-- * behind them the frames of the flows come as they did before them, some whole cycles later;
-- * each of them comes before the wire is free of the frames before it, or just then;
-- * behind them the wire is free later than before them by these cycles, and by one more at least.
--
-- The second is needed. Frames that come together late in a hyperperiod, behind an idle time, make the wire free by any number of cycles
-- later, once; the next hyperperiod may work them off.
pub record IsOverloaded (plan : Plan) (class : ℕ) (flows : List Flow) : Type 0 where
  pub room : ℕ
  pub first : ℕ
  pub frames : ℕ
  pub cycles : ℕ
  pub old : Track
  pub new : Track
  pub was : after (may_by plan class) (in_ps plan.cycle) room flows first (begun (offsets_of flows)) ≡ Some old
  pub is : after (may_by plan class) (in_ps plan.cycle) room flows (first + frames) (begun (offsets_of flows)) ≡ Some new
  pub alike : new.nexts ≡ map (λ t. t + in_ps plan.cycle * cycles) old.nexts
  pub busy : (k : ℕ) (z : Track) (e : ℕ × ℕ) → k < frames → after (may_by plan class) (in_ps plan.cycle) room flows (first + k) (begun (offsets_of flows)) ≡ Some z → earliest z.nexts ≡ Some e → e.0 ≤ z.free
  pub behind : old.free + in_ps plan.cycle * (cycles + 1) ≤ new.free

-- The law: where the class is overloaded, at any room there is a frame of the flows that is the first to find none. In every run up to it, it
-- is dropped, and none before it. So the flows have no bounds, at any room.
abbrev pub OverloadLaw : Type 0
OverloadLaw =
    (plan : Plan) (class room : ℕ) (flows : List Flow) → class < 8 → 0 < plan.cycle → IsOverloaded plan class flows
    → ((k place moment : ℕ) × IsFirstDropped plan class room flows k place moment) × ((bounds : List Bound) → AreBounds plan class room flows bounds → ⊥)
