-- The frames of streams that are still to come.
use Rattle.std.specs.Prelude.{ℕ, ◌+◌, ◌-◌, nat_lt, if◌then◌else◌, List, [], ◌∷◌, Option, Some, None}
use Rattle.std.specs.List.{flat_map}
use Rattle.traffic.specs.Frames.{by_moment, first_of, frames_after}
use Rattle.traffic.specs.declared.turn.Turn.{Turn}
use Rattle.traffic.specs.declared.course.Coming.{Coming}

-- what is to come of a stream
abbrev pub left_of : Turn → List Coming
left_of t = frames_after t.course t.come (t.course.count - t.come)

-- the next frame of a stream
abbrev pub next_of : Turn → Option Coming
next_of t = first_of (left_of t)

-- what is to come of all streams, by moment
abbrev pub left_of_all : List Turn → List Coming
left_of_all turns = by_moment (flat_map left_of turns)

-- the first of streams, by its place and the moment of its next frame: this one, where its frame comes no later than that of the others
abbrev pub earlier : Option Coming → ℕ → Option (ℕ × ℕ) → Option (ℕ × ℕ)
earlier None place first = first
earlier (Some f) place None = Some (place, f.moment)
earlier (Some f) place (Some (other, moment)) = if nat_lt moment f.moment then Some (other, moment) else Some (place, f.moment)

-- the first of all streams, of which the first stands at a place
unfoldable pub first_place : ℕ → List Turn → Option (ℕ × ℕ)
first_place place [] = None
first_place place (t ∷ ts) = earlier (next_of t) place (first_place (place + 1) ts)
