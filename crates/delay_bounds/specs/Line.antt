-- Where a walk over the frames of flows stands, with the room of the queue.
use Rattle.std.specs.Prelude.{ℕ, List}
use Rattle.delay_bounds.specs.Claim.{offsets_of}
use Rattle.delay_bounds.specs.Bounds.{Track}
use Rattle.delay_bounds.specs.Walk.{begun}
use Rattle.delay_bounds.specs.ForEver.{counting}
use Rattle.delay_bounds.specs.declared.Flow.{Flow}

-- where a walk stands, and the room of the queue
pub record Standing : Type 0 where
  pub track : Track
  pub room : ℕ

-- before any frame
abbrev pub before_any : List Flow → ℕ → Standing
before_any flows room = record { track = begun (offsets_of flows); room = room }

-- when the next frame has come
abbrev pub when_come : Standing → Standing
when_come l = record l { track = counting l.track }
