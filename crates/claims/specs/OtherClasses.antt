-- What the claim asks of the classes that aren't judged (SharedClaim.antt) is a matter of what comes: it holds of frames that start where it
-- holds of frames that queues take, and a port takes none that is too long. Times are in picoseconds.
use Rattle.std.specs.Prelude.{◌≡◌, ◌<◌, ◌≤◌, ℕ, ◌+◌, Bool, false, List, [], ◌∷◌, Some, None, slice_get}
use denote.Bor.{Bor}
use Rattle.wire_time.specs.Wire.{occupancy_of}
use Rattle.wire_time.specs.declared.TheConstants.{MIN_PS_PER_OCTET, MIN_MTU}
use Rattle.abstract_port.specs.AbstractPort.{class_for, limit_of, new_command, new_port, refusal}
use Rattle.abstract_port.specs.Answers.{answers_of}
use Rattle.abstract_port.specs.Laws.{starts_in}
use Rattle.abstract_port.specs.declared.Change.{Change}
use Rattle.abstract_port.specs.declared.Command.{Command}
use Rattle.abstract_port.specs.declared.Command.TheVariants.{Replace}
use Rattle.abstract_port.specs.declared.Event.{Event}
use Rattle.abstract_port.specs.declared.Event.TheVariants.{Install}
use Rattle.abstract_port.specs.declared.Start.{Start}
use Rattle.abstract_port.specs.Traffic.{Came, IsOnly}
use Rattle.any_traffic.specs.Runs.{offered, queued}
use Rattle.claims.specs.Runs.{scheduled}

-- 1. What starts has been taken

-- each frame that the queue of a class takes in a run needs the wire for so long at most
abbrev pub TakesUpTo : (ps mtu room : ℕ) → List Event → (class need : ℕ) → Type 0
TakesUpTo ps mtu room events class need =
    (k : ℕ) (f : Came) → slice_get (queued ps mtu room class events) k ≡ Some f → occupancy_of ps f.frame.len ≤ need

-- The law of other classes: where no queue but some takes a frame that needs the wire for longer, none starts but of those.
abbrev pub OthersLaw : Type 0
OthersLaw =
    (ps mtu room : ℕ) (need : ℕ → ℕ) (some : ℕ → Bool) (events : List Event) → MIN_PS_PER_OCTET ≤ ps → MIN_MTU ≤ mtu
    → ((class : ℕ) → class < 8 → some class ≡ false → TakesUpTo ps mtu room events class (need class))
    → (k : ℕ) (x : Start) → slice_get (starts_in (answers_of events (new_port ps mtu room))) k ≡ Some x → some x.class ≡ false
    → x.«end» ≤ x.at + need x.class

-- 2. What is taken is within limits

-- for how long a frame needs the wire that has so long a service data unit, and a tag
abbrev pub tagged_need : (ps sdu : ℕ) → ℕ
tagged_need ps sdu = occupancy_of ps (sdu + 18)

-- The law of the mtu: in every run no queue takes a frame that needs the wire for longer than a tagged one of the mtu.
abbrev pub MtuLaw : Type 0
MtuLaw =
    (ps mtu room class : ℕ) (events : List Event) → MIN_PS_PER_OCTET ≤ ps → MIN_MTU ≤ mtu
    → TakesUpTo ps mtu room events class (tagged_need ps mtu)

-- 3. Behind the command

-- a run that begins with the one command that is accepted, and goes on by these events
pub record IsBehind (ps mtu room : ℕ) (change : Change) (command : Bor Command) (events : List Event) : Type 0 where
  pub rate : MIN_PS_PER_OCTET ≤ ps
  pub large : MIN_MTU ≤ mtu
  pub given : command.now ≡ Replace change
  pub accepted : refusal (new_port ps mtu room) (Replace change) ≡ None
  pub only : IsOnly (new_command (new_port ps mtu room) (Replace change)) (Install command ∷ events) (new_port ps mtu room)

-- The law of limits: there no queue takes a frame that needs the wire for longer than a tagged one of the limit of its class, if it has one
-- (queueMaxSDUTable, 12.29.1).
abbrev pub LimitLaw : Type 0
LimitLaw =
    (ps mtu room class : ℕ) (change : Change) (command : Bor Command) (events : List Event) → IsBehind ps mtu room change command events
    → 0 < limit_of (scheduled ps mtu room change) class
    → TakesUpTo ps mtu room (Install command ∷ events) class (tagged_need ps (limit_of (scheduled ps mtu room change) class))

-- The law of priorities: there no frame comes of a class to which no priority leads.
abbrev pub UnledLaw : Type 0
UnledLaw =
    (ps mtu room class : ℕ) (change : Change) (command : Bor Command) (events : List Event) → IsBehind ps mtu room change command events
    → ((priority : ℕ) → class_for (scheduled ps mtu room change) priority ≡ Some class → ⊥)
    → offered ps mtu room class (Install command ∷ events) ≡ []
