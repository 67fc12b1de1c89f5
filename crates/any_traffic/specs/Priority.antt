-- Strict priority: at a moment at which a frame may start, one of its class or a higher one does (IEEE Std 802.1Q-2018, 8.6.8.1).
use Rattle.std.specs.Prelude.{◌≡◌, ◌<◌, ◌≤◌, ℕ, true, ◌∷◌, Some}
use Rattle.abstract_port.specs.declared.Start.{Start}
use Rattle.abstract_port.specs.AbstractPort.{AbstractPort, is_available, next_start, starts_until}

-- The port's next start is at m or before; where it is at m, it is of the class or a higher one. It is the first of all starts of that
-- time.
pub record StartsBy (p : AbstractPort) (upto m class : ℕ) : Type 0 where
  pub start : Start
  pub first : (next_start p upto).0 ≡ Some start
  pub among : (starts_until p upto).0 ≡ start ∷ (starts_until (next_start p upto).1 upto).0
  pub by : start.at ≤ m
  pub priority : start.at ≡ m → class ≤ start.class

-- The law of priority: at a moment at which the wire is free, and a frame of the class waits and fits, a frame of this class or a higher
-- one starts, unless one has started before.
abbrev pub PriorityLaw : Type 0
PriorityLaw =
    (p : AbstractPort) (upto m class : ℕ) → class < 8 → p.now ≤ m → m < upto → is_available p m class ≡ true
    → StartsBy p upto m class
