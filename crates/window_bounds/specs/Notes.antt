-- What is noted of the frames whose latest moment is t, and which start then.
use Rattle.std.specs.Prelude.{ℕ, ◌+◌, ◌-◌, ◌==◌, if◌then◌else◌, max, List, slice_index_or}
use Rattle.delay_bounds.specs.declared.Bound.{Bound}
use Rattle.window_bounds.specs.Beats.{beat_at}
use Rattle.window_bounds.specs.declared.JitteredFlow.{JitteredFlow}
use Rattle.window_bounds.specs.declared.beats.Beat.{Beat}

-- the greater of a wait and that of a frame of the flow
abbrev pub longer : JitteredFlow → (t start wait : ℕ) → ℕ
longer f t start wait = max (start + f.jitter - t) wait

abbrev pub jittered_at : List JitteredFlow → ℕ → JitteredFlow
jittered_at flows i = slice_index_or flows i (record { offset = 0; period = 0; jitter = 0; shortest = 0; longest = 0 })

abbrev pub bound_at : List Bound → ℕ → Bound
bound_at bounds i = slice_index_or bounds i (record { least = 0; greatest = 0 })

-- the wait of the flow at a place: longer where its next frame is such a one
abbrev pub noted_at : List Beat → List JitteredFlow → (t start i wait : ℕ) → ℕ
noted_at lates flows t start i wait = if (beat_at lates i).next == t then longer (jittered_at flows i) t start wait else wait
