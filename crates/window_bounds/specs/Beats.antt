-- When the frames of flows come: the next moment of each, and the time from one to the next.
use Rattle.std.specs.Prelude.{◌≡◌, ◌<◌, ◌≤◌, ℕ, ◌+◌, ◌-◌, ◌*◌, ◌^◌, map, min, List, slice_index_or, sum_by}
use Rattle.wire_time.specs.Moment.{greatest_moment}
use Rattle.any_traffic.specs.PeriodicWindows.{before}
use Rattle.window_bounds.specs.declared.JitteredFlow.{JitteredFlow}
use Rattle.window_bounds.specs.declared.beats.Beat.{Beat}

-- a beat whose period is one of a flow, and whose next moment can be reached
pub record IsBeat (b : Beat) : Type 0 where
  pub above : 0 < b.period
  pub period : b.period ≤ greatest_moment
  pub next : b.next ≤ 2 ^ 81

abbrev pub early_beat : JitteredFlow → Beat
early_beat f = record { next = f.offset; period = f.period }

abbrev pub late_beat : JitteredFlow → Beat
late_beat f = record { next = f.offset + f.jitter; period = f.period }

-- how many of its moments are before u, and the beat behind them
abbrev pub come_of : ℕ → Beat → ℕ
come_of u b = before b.next b.period u

abbrev pub from_on : ℕ → Beat → Beat
from_on u b = record { next = b.next + b.period * before b.next b.period u; period = b.period }

-- of all beats
abbrev pub all_before : List Beat → ℕ → ℕ
all_before beats u = sum_by (come_of u) beats

abbrev pub all_from : ℕ → List Beat → List Beat
all_from u beats = map (from_on u) beats

abbrev pub beat_at : List Beat → ℕ → Beat
beat_at beats i = slice_index_or beats i (record { next = 0; period = 0 })

-- a count, as far as the numbers go
abbrev pub capped : ℕ → ℕ
capped n = min n (2 ^ 128 - 1)

-- The beats stand at a moment, and so many have come before it.
pub record AreAt (beats : List Beat) (u : ℕ) (now : List Beat) (count : ℕ) : Type 0 where
  pub are : now ≡ all_from u beats
  pub come : count ≡ capped (all_before beats u)

-- they stand at a moment that is no later
abbrev pub AreAtBy : List Beat → ℕ → List Beat → ℕ → Type 0
AreAtBy beats t now count = (u : ℕ) × (u ≤ t) × AreAt beats u now count
