-- The queue of a traffic class (IEEE Std 802.1Q-2018, 8.6.6): first in, first out.
use Rattle.std.specs.Prelude.{ℕ, ◌≤◌, List, []}
use Rattle.wire_time.specs.declared.Frame.{Frame}
use Rattle.abstract_port.specs.declared.class_queue.TheConstants.{MAX_ROOM}

-- a list of frames, the first to go first, and for how many there is room
pub record Queue : Type 0 where
  pub frames : List Frame
  pub room : ℕ

-- a queue in which no frame waits, with room for so many
abbrev pub empty_queue : ℕ → Queue
empty_queue room = record { frames = []; room = room }

-- a room that a queue may have
abbrev pub IsRoom : ℕ → Type 0
IsRoom room = (1 ≤ room) × (room ≤ MAX_ROOM)
