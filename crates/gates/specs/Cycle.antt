-- The Cycle Timer (IEEE Std 802.1Q-2018, 8.6.9.1), in picoseconds.
use Rattle.std.specs.Prelude.{ℕ, ◌+◌, ◌-◌, ◌*◌, ◌/◌}

-- the cycle that runs, the moment at which the next one starts, and how long a cycle is
pub record Cycle : Type 0 where
  pub started : ℕ
  pub next_start : ℕ
  pub length : ℕ

-- a cycle from a moment on
abbrev pub begun_at : ℕ → ℕ → Cycle
begun_at start length = record { started = start; next_start = start + length; length = length }

-- the next cycle, which begins where the one before ends
abbrev pub fired : Cycle → Cycle
fired c = begun_at c.next_start c.length

-- a cycle whose end is moved to a change, so that it is cut or drawn out
abbrev pub retargeted : Cycle → ℕ → Cycle
retargeted c change = record { started = c.started; next_start = change; length = c.length }

-- the last of the starts started, started + length, started + 2 * length .. that is at or before t
abbrev pub last_start : Cycle → ℕ → ℕ
last_start c t = c.started + c.length * ((t - c.started) / c.length)

-- the cycle that holds t, by the start of the one that runs alone
abbrev pub jumped : Cycle → ℕ → Cycle
jumped c t = begun_at (last_start c t) c.length
