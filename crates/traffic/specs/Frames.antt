-- The frames of streams, by the moments at which they come.
use Rattle.std.specs.Prelude.{◌≤◌, ℕ, zero, suc, ◌+◌, ◌-◌, ◌*◌, ◌^◌, nat_le, max, List, [], ◌∷◌, Option, Some, None, if◌then◌else◌}
use Rattle.std.specs.List.{flat_map}
use Rattle.wire_time.specs.Moment.{greatest_moment}
use Rattle.traffic.specs.Draws.{draw}
use Rattle.traffic.specs.declared.course.Coming.{Coming}
use Rattle.traffic.specs.declared.course.Course.{Course}

-- 1. The frames of a stream

-- by how much the frame after so many others comes later: what the second value draws of each frame, where values are drawn
abbrev pub late_drawn : Option ℕ → ℕ → ℕ → ℕ
late_drawn None k jitter = 0
late_drawn (Some seed) k jitter = draw seed (k * 2 + 1) jitter

abbrev pub late_by : Course → ℕ → ℕ
late_by c k = late_drawn c.seed k c.jitter

-- its octets: what the third value draws, where values are drawn
abbrev pub length_drawn : Option ℕ → ℕ → (shortest len : ℕ) → ℕ
length_drawn None k shortest len = len
length_drawn (Some seed) k shortest len = shortest + draw seed (k * 2 + 2) (len - shortest)

abbrev pub length_of_frame : Course → ℕ → ℕ
length_of_frame c k = length_drawn c.seed k c.shortest c.len

-- the latest moment of the first so many frames; 0 of none
unfoldable pub reached_by : Course → ℕ → ℕ
reached_by c zero = 0
reached_by c (suc k) = max (reached_by c k) (c.first + c.period * k + late_by c k)

-- the moment of the frame after so many others: it doesn't overtake them
abbrev pub moment_after : Course → ℕ → ℕ
moment_after c k = max (reached_by c k) (c.first + c.period * k + late_by c k)

-- the frame of a stream that comes after so many others of it, and when it comes
abbrev pub frame_after : Course → ℕ → Coming
frame_after c k = record {
  moment = moment_after c k;
  frame = record { id = c.first_id + k; priority = c.priority; len = length_of_frame c k; tagged = c.tagged };
}

-- frames that can be frames of a script
pub record IsCourse (c : Course) : Type 0 where
  pub ids : c.first_id + c.count ≤ 2 ^ 64
  pub ends : c.first + c.jitter + c.period * (c.count - 1) ≤ greatest_moment
  pub lengths : c.shortest ≤ c.len
  pub jitter : c.jitter ≤ greatest_moment
  pub first : c.first ≤ greatest_moment

-- so many frames of a stream, after so many others of it
unfoldable pub frames_after : Course → ℕ → ℕ → List Coming
frames_after c k zero = []
frames_after c k (suc n) = frame_after c k ∷ frames_after c (k + 1) n

-- the first of frames
abbrev pub first_of : List Coming → Option Coming
first_of [] = None
first_of (f ∷ fs) = Some f

-- the next frame of a stream, after so many of it
abbrev pub next_of_stream : Course → ℕ → Option Coming
next_of_stream c k = first_of (frames_after c k (c.count - k))

-- all frames of a stream
abbrev pub frames_of : Course → List Coming
frames_of c = frames_after c 0 c.count

-- 2. The frames of all streams

-- a frame among frames by rising moment, before those that come no earlier
unfoldable pub insert : Coming → List Coming → List Coming
insert f [] = f ∷ []
insert f (g ∷ gs) = if nat_le f.moment g.moment then f ∷ g ∷ gs else g ∷ insert f gs

-- frames by rising moment; those of one moment stay in their order
unfoldable pub by_moment : List Coming → List Coming
by_moment [] = []
by_moment (f ∷ fs) = insert f (by_moment fs)

-- the frames of all streams, by rising moment, and at one moment in the order of the streams
abbrev pub frames_in_turn : List Course → List Coming
frames_in_turn courses = by_moment (flat_map frames_of courses)
