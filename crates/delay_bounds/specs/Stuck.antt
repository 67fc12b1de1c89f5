-- Where nothing starts any more: the first frame that finds no room.
use Rattle.std.specs.Prelude.{ℕ, ◌+◌, ◌-◌, ◌/◌, ◌^◌, zero, suc, if◌then◌else◌, nat_lt, nat_le, List, [], ◌∷◌, ◌++◌, length, slice_set, Option, Some, None}
use Rattle.wire_time.specs.Moment.{greatest_moment}
use Rattle.delay_bounds.specs.Claim.{earliest, flow_at}
use Rattle.delay_bounds.specs.Bounds.{Track}
use Rattle.delay_bounds.specs.ForEver.{counting}
use Rattle.delay_bounds.specs.declared.Flow.{Flow}
use Rattle.delay_bounds.specs.declared.Refused.{Refused}

-- how many frames of a flow come before the one that comes at t
abbrev pub before_of : Flow → ℕ → ℕ
before_of f t = (t - f.offset) / f.period

-- the frame of a flow that comes stays in the queue for ever: all moments are less than 2^128
abbrev pub staying : Flow → ℕ × ℕ → Track → Track
staying f e s = record { nexts = slice_set s.nexts e.1 (e.0 + f.period); free = s.free; starts = s.starts ++ (2 ^ 128 - 1) ∷ [] }

-- the frame of the flow at a place that comes at a moment and finds no room
abbrev pub refused_of : List Flow → ℕ × ℕ → Refused
refused_of flows e = record { place = e.1; before = before_of (flow_at flows e.1) e.0; moment = e.0 }

-- by the next frame: it finds no room, or it comes after the greatest moment, or it stays
abbrev pub refused_at : ℕ → List Flow → (Track → Option Refused) → Option (ℕ × ℕ) → Track → Option Refused
refused_at room flows on None s = None
refused_at room flows on (Some e) s =
    if nat_le room (length s.starts) then Some (refused_of flows e)
    else if nat_lt greatest_moment e.0 then None
    else on (staying (flow_at flows e.1) e s)

-- of so many frames the first that finds no room, where no frame starts any more
unfoldable pub refused_in : ℕ → List Flow → ℕ → Track → Option Refused
refused_in room flows zero s = None
refused_in room flows (suc n) s = refused_at room flows (refused_in room flows n) (earliest s.nexts) (counting s)

-- the first frame that finds no room, where no frame starts any more, if it comes by the greatest moment: each of as many as there is room for takes a place
abbrev pub first_refused : ℕ → List Flow → Track → Option Refused
first_refused room flows s = refused_in room flows (room + 1) s
