-- The traffic of one class in a run: the frames that its queue is offered, those that it takes, and their starts.
use Rattle.std.specs.Prelude.{◌≡◌, ℕ, ◌==◌, Bool, true, false, ◌&&◌, if◌then◌else◌, List, [], ◌∷◌, ◌++◌, filter, None, Result, Ok, Err}
use Rattle.wire_time.specs.declared.Frame.{Frame}
use Rattle.gates.specs.History.{Accepted}
use Rattle.abstract_port.specs.declared.Dropped.{Dropped}
use Rattle.abstract_port.specs.declared.Dropped.TheVariants.{Full}
use Rattle.abstract_port.specs.declared.Start.{Start}
use Rattle.abstract_port.specs.declared.Event.{Event}
use Rattle.abstract_port.specs.declared.Event.TheVariants.{Arrive, Install}
use Rattle.abstract_port.specs.AbstractPort.{AbstractPort, class_for, verdict, refusal, new_command}
use Rattle.abstract_port.specs.Answers.{answers_to}
use Rattle.abstract_port.specs.Separation.{is_class}

-- a frame, and the moment at which it came
pub record Came : Type 0 where
  pub moment : ℕ
  pub frame : Frame

-- a frame that the queue of the class takes
abbrev pub queued_as : ℕ → AbstractPort → Frame → Result ℕ Dropped → List Came
queued_as class p f (Ok d) = if d == class then record { moment = p.now; frame = f } ∷ [] else []
queued_as class p f (Err why) = []

-- what the queue of the class takes at an event
abbrev pub queued_by : ℕ → Event → AbstractPort → List Came
queued_by class (Arrive f) p = queued_as class p f (verdict p f)
queued_by class _ p = []

-- the frames that the queue of the class takes in a run, each with the moment at which it came
abbrev pub queued_in : ℕ → List Event → AbstractPort → List Came
queued_in class [] p = []
queued_in class (event ∷ rest) p = queued_by class event p ++ queued_in class rest (answers_to event p).1

-- the queue has no room
abbrev pub is_full : Dropped → Bool
is_full Full = true
is_full _ = false

-- a frame that the queue of the class takes, or has no room for
abbrev pub offered_as : ℕ → AbstractPort → Frame → Result ℕ Dropped → List Came
offered_as class p f (Ok d) = queued_as class p f (Ok d)
offered_as class p f (Err why) = if is_full why && is_class class (class_for p f.priority) then record { moment = p.now; frame = f } ∷ [] else []

-- what the queue of the class is offered at an event
abbrev pub offered_by : ℕ → Event → AbstractPort → List Came
offered_by class (Arrive f) p = offered_as class p f (verdict p f)
offered_by class _ p = []

-- the frames that the queue of the class is offered in a run: all of the class but those that are too short or too long
abbrev pub offered_in : ℕ → List Event → AbstractPort → List Came
offered_in class [] p = []
offered_in class (event ∷ rest) p = offered_by class event p ++ offered_in class rest (answers_to event p).1

-- the starts of a class
abbrev pub starts_of_class : ℕ → List Start → List Start
starts_of_class class = filter (λ s. s.class == class)

-- an event by which no command is accepted but this one, and that as the first
abbrev pub IsOnlyAt : Accepted → Event → AbstractPort → Type 0
IsOnlyAt a (Install c) p = refusal p c.now ≡ None → (p.history ≡ []) × (new_command p c.now ≡ a)
IsOnlyAt a _ p = Unit {0}

-- a list of events in which no command is accepted but this one, and that as the first
abbrev pub IsOnly : Accepted → List Event → AbstractPort → Type 0
IsOnly a [] p = Unit {0}
IsOnly a (event ∷ rest) p = IsOnlyAt a event p × IsOnly a rest (answers_to event p).1
