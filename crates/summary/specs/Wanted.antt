-- What is seen of a run where a summary is wanted, and nothing where none is.
use Rattle.std.specs.Prelude.{ℕ, List, Bool, true, false, Option, Some, None}
use Rattle.abstract_port.specs.AbstractPort.{AbstractPort}
use Rattle.abstract_port.specs.declared.Answer.{Answer}
use Rattle.abstract_port.specs.declared.Event.{Event}
use Rattle.summary.specs.Observed.{Observed, nothing_seen, observed_after, seen, seen_all, seen_at}

-- before a run, with room for so many frames a class
abbrev pub watched : Bool → ℕ → Option Observed
watched true room = Some (nothing_seen room)
watched false room = None

-- after one answer, given at a moment
abbrev pub noted : ℕ → Answer → Option Observed → Option Observed
noted now answer (Some o) = Some (seen now answer o)
noted now answer None = None

-- after one answer after another
abbrev pub noted_all : ℕ → List Answer → Option Observed → Option Observed
noted_all now answers (Some o) = Some (seen_all now answers o)
noted_all now answers None = None

-- after the answers to an event
abbrev pub noted_at : Event → AbstractPort → Option Observed → Option Observed
noted_at event p (Some o) = Some (seen_at event p o)
noted_at event p None = None

-- after the answers to a list of events
abbrev pub noted_after : List Event → AbstractPort → Option Observed → Option Observed
noted_after events p (Some o) = Some (observed_after events p o)
noted_after events p None = None
