-- In a run every arrival is noted.
use Rattle.std.specs.Prelude.{◌≡◌, ◌<◌, ℕ, List, length}
use Rattle.abstract_port.specs.AbstractPort.{AbstractPort, new_port, queue_of}
use Rattle.abstract_port.specs.Answers.{port_after}
use Rattle.abstract_port.specs.declared.Event.{Event}
use Rattle.summary.specs.Observed.{Observed, class_at, nothing_seen, observed_after}

-- as many arrivals are kept of each class as frames of it wait
abbrev pub KeepsPace : AbstractPort → Observed → Type 0
KeepsPace p o = (class : ℕ) → class < 8 → length (class_at o.classes class).arrivals ≡ length (queue_of p class)

-- So it is after every list of events on a new port, where there is room for as many arrivals as for frames: no arrival goes unnoted for want of room.
abbrev pub PaceLaw : Type 0
PaceLaw = (ps mtu room : ℕ) (events : List Event) → KeepsPace (port_after events (new_port ps mtu room)) (observed_after events (new_port ps mtu room) (nothing_seen room))
