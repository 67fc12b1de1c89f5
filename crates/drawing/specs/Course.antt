-- What is drawn of a run, event by event. Moments are in picoseconds.
use Rattle.std.specs.Prelude.{ℕ, zero, suc, ◌*◌, List, [], ◌∷◌, Bool, true, false, Option, Some, None, unwrap_or}
use Rattle.abstract_port.specs.AbstractPort.{AbstractPort, class_for, plan_asked}
use Rattle.abstract_port.specs.Answers.{answers_to}
use Rattle.abstract_port.specs.declared.Answer.{Answer}
use Rattle.abstract_port.specs.declared.Answer.TheVariants as Answered
use Rattle.abstract_port.specs.declared.Command.{Command}
use Rattle.abstract_port.specs.declared.Command.TheVariants.{Delete, Replace}
use Rattle.abstract_port.specs.declared.Event.{Event}
use Rattle.abstract_port.specs.declared.Start.{Start}
use Rattle.abstract_port.specs.declared.Event.TheVariants.{Arrive, Install, Clock, Query, Count}
use Rattle.drawing.specs.Shapes.{Shown, nothing_shown, with_start, with_dropped, with_change, with_last_change}
unfoldable use Rattle.drawing.specs.Shapes.{waits_on}
use Rattle.drawing.specs.Scope.{frame_came, schedule_given}
use Rattle.drawing.specs.declared.course.Asked.{Asked}
use Rattle.drawing.specs.declared.scope.Scope.{Scope}
use Rattle.drawing.specs.declared.scope.Scope.TheVariants.{Nothing}
use Rattle.drawing.specs.declared.view.View.{View}
use Rattle.drawing.specs.Arrivals.{Waiting, comes, first_came, goes, none_wait, waiting_in}

-- when the frames that wait have come, what is shown, when the last frame so far ends, how long after it is given a command has its lead moment,
-- and what the run has had so far
pub record Course : Type 0 where
  pub waiting : List Waiting
  pub shown : Shown
  pub last : ℕ
  pub lead : ℕ
  pub scope : Scope

-- nothing, with room for so many frames a class, of which this is shown; a command has its lead moment so long after it is given
abbrev pub nothing_seen : ℕ → View → ℕ → Course
nothing_seen room view lead = record { waiting = none_wait room; shown = nothing_shown view lead; last = 0; lead = lead; scope = Nothing }

-- the first frame of a class that waits starts
abbrev pub started : Start → Course → Course
started s x = record x {
  waiting = goes s.class x.waiting;
  shown = with_start (unwrap_or (first_came s.class x.waiting) s.at) s x.shown;
  last = s.«end»;
}

-- a frame of a class is queued
abbrev pub queued : ℕ → ℕ → Course → Course
queued now class x = record x { waiting = comes class now x.waiting; scope = frame_came now x.scope }

-- a frame of a class, if it has one, is dropped
abbrev pub dropped : ℕ → Option ℕ → ℕ → Course → Course
dropped now class id x = record x { shown = with_dropped id class now x.shown; scope = frame_came now x.scope }

-- a command is accepted, by which the schedule changes at a moment, to one with this cycle
abbrev pub changed : ℕ → ℕ → Option ℕ → Course → Course
changed now change cycle x = record x { shown = with_change now change x.shown; scope = schedule_given x.lead now change cycle x.scope }

-- one answer, given at a moment, to an event that says so much beside
abbrev pub seen : ℕ → Asked → Answer → Course → Course
seen now asked (Answered.Queued id class) x = queued now class x
seen now asked (Answered.Start s) x = started s x
seen now asked (Answered.Dropped id why) x = dropped now asked.class id x
seen now asked (Answered.Installed change) x = changed now change asked.cycle x
seen now asked (Answered.Refused why) x = x
seen now asked Answered.Backward x = x
seen now asked (Answered.Report report) x = x
seen now asked (Answered.Counters number counters) x = x
seen now asked Answered.BadClass x = x

-- one answer after another
abbrev pub seen_all : ℕ → Asked → List Answer → Course → Course
seen_all now asked [] x = x
seen_all now asked (answer ∷ rest) x = seen_all now asked rest (seen now asked answer x)

-- the waits of the frames of the first classes that wait go on to a moment
unfoldable pub all_wait_on : ℕ → ℕ → List Waiting → Shown → Shown
all_wait_on upto zero waiting x = x
all_wait_on upto (suc class) waiting x = waits_on class upto (waiting_in waiting class).moments (all_wait_on upto class waiting x)

-- the picture ends at a moment: what waits then waits on, and the last command is replaced by none
abbrev pub ended_at : ℕ → Course → Course
ended_at upto x = record x { shown = with_last_change (all_wait_on upto 8 x.waiting x.shown) }

-- the class of a frame that comes
abbrev pub class_at : Event → AbstractPort → Option ℕ
class_at (Arrive f) p = class_for p f.priority
class_at (Install c) p = None
class_at (Clock m) p = None
class_at Query p = None
class_at (Count class) p = None

-- how long the cycle of a command's schedule is
abbrev pub cycle_in : Command → Option ℕ
cycle_in Delete = None
cycle_in (Replace c) = Some (1000 * (plan_asked c).cycle)

-- that of a command that is given
abbrev pub cycle_at : Event → Option ℕ
cycle_at (Arrive f) = None
cycle_at (Install c) = cycle_in c.now
cycle_at (Clock m) = None
cycle_at Query = None
cycle_at (Count class) = None

-- whether it gives none
abbrev pub no_command : Event → Bool
no_command (Arrive f) = true
no_command (Install c) = false
no_command (Clock m) = true
no_command Query = true
no_command (Count class) = true

-- what an event says beside its answers
abbrev pub asked_at : Event → AbstractPort → Asked
asked_at event p = record { class = class_at event p; cycle = cycle_at event }

-- the answers to an event
abbrev pub seen_at : Event → AbstractPort → Course → Course
seen_at event p x = seen_all p.now (asked_at event p) (answers_to event p).0 x

-- the answers to a list of events
abbrev pub seen_after : List Event → AbstractPort → Course → Course
seen_after [] p x = x
seen_after (event ∷ rest) p x = seen_after rest (answers_to event p).1 (seen_at event p x)
