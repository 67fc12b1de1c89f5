-- The least bounds of flows with jitter, in a class that a schedule keeps apart.
use Rattle.std.specs.Prelude.{◌≡◌, ◌<◌, ◌≤◌, ℕ, ◌+◌, ◌%◌, Bool, List, map, length, slice_get, Some}
use Rattle.abstract_port.specs.Served.{IsFirst}
use Rattle.delay_bounds.specs.declared.Bound.{Bound}
use Rattle.any_traffic.specs.LateForEver.{AreLateWithin, LateRecurs}
use Rattle.any_traffic.specs.PeriodicRoom.{AreFewLate}
use Rattle.any_traffic.specs.PeriodicWindows.{IsLateStart, PeriodicFlow, window_of}

-- the greatest times of bounds
abbrev pub greatest_of : List Bound → List ℕ
greatest_of bounds = map (λ b. b.greatest) bounds

-- The least time from the earliest moment of a flow's frame to the first one from which the class may have the wire for the shortest: none
-- is less, and one frame has it.
pub record IsLeastWait (may : ℕ → ℕ → Bool) (flow : PeriodicFlow) (least : ℕ) : Type 0 where
  pub always : (n s : ℕ) → IsFirst may flow.shortest (window_of flow n).earliest s → (window_of flow n).earliest + least ≤ s
  pub reached : (n : ℕ) × IsFirst may flow.shortest (window_of flow n).earliest ((window_of flow n).earliest + least)

-- a time of whole cycles and periods
pub record IsRepeat (cycle period every : ℕ) : Type 0 where
  pub above : 0 < cycle
  pub cycles : every % cycle ≡ 0
  pub periods : every % period ≡ 0
  pub lasts : 0 < every

-- The greatest time from the earliest moment of a flow's frame to its late start is that of one of its frames.
abbrev pub IsReached : (may : ℕ → ℕ → Bool) (d : ℕ) → List PeriodicFlow → PeriodicFlow → ℕ → Type 0
IsReached may d flows flow wait = (n : ℕ) × IsLateStart may d flows (window_of flow n).latest ((window_of flow n).earliest + wait)

-- The bounds of flows, by a plan alone. The late run comes to where it was. For ever each frame starts by it within the greatest time of its
-- flow, which one of them has; and so has one the least. No more than `most` ever wait, and no lesser number will do.
pub record AreLeast (may : ℕ → ℕ → Bool) (d : ℕ) (flows : List PeriodicFlow) (bounds : List Bound) (most : ℕ) : Type 0 where
  pub count : length bounds ≡ length flows
  pub recurs : (from every : ℕ) × LateRecurs may d flows from every
  pub always : (upto : ℕ) → AreLateWithin (IsLateStart may d flows) flows (greatest_of bounds) upto
  pub reached : (i : ℕ) (flow : PeriodicFlow) (b : Bound) → slice_get flows i ≡ Some flow → slice_get bounds i ≡ Some b
      → IsReached may d flows flow b.greatest
  pub least : (i : ℕ) (flow : PeriodicFlow) (b : Bound) → slice_get flows i ≡ Some flow → slice_get bounds i ≡ Some b
      → IsLeastWait may flow b.least
  pub few : (t : ℕ) → AreFewLate may d flows most t
  pub fewest : (m : ℕ) → ((t : ℕ) → AreFewLate may d flows m t) → most ≤ m
