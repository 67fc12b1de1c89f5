-- The least blocking: for how long at most a frame of another class that has begun before a moment may still have the wire then.
--
-- A frame starts only where its gate stays open until it ends (IEEE Std 802.1Q-2018, 8.6.8.4). So what it still needs at a moment u is no
-- longer than the gate stays open from u, and shorter than the longest frame of its class.
use Rattle.std.specs.Prelude.{ℕ, zero, suc, ◌-◌, ◌==◌, ◌&&◌, ◌||◌, max, not, Bool, if◌then◌else◌}
use Rattle.gates.specs.Gate.{Plan}
use Rattle.delay_bounds.specs.Walk.{may_by}

-- the lesser of a limit and the time for which a gate stays open from u
unfoldable pub open_for : (may : ℕ → ℕ → Bool) (u limit : ℕ) → ℕ
open_for may u zero = 0
open_for may u (suc r) = if may u (suc r) then suc r else open_for may u r

-- whether the gate of a class is open just before u; before the schedule is in force every gate is
abbrev pub was_open : Plan → (class u : ℕ) → Bool
was_open plan class u = (u == 0) || may_by plan class (u - 1) 1

-- for how long at most a frame of class j, if it is another one, may still have the wire
abbrev pub blocked_by : Plan → (class : ℕ) (need : ℕ → ℕ) (u j : ℕ) → ℕ
blocked_by plan class need u j = if not (j == class) && was_open plan j u then open_for (may_by plan j) u (need j - 1) else 0

-- the greatest of the first n values
unfoldable pub most_below : (ℕ → ℕ) → ℕ → ℕ
most_below f zero = 0
most_below f (suc n) = max (f n) (most_below f n)

-- the greatest of the eight classes
unfoldable pub blocking : Plan → (class : ℕ) (need : ℕ → ℕ) (u : ℕ) → ℕ
blocking plan class need u = most_below (blocked_by plan class need u) 8
