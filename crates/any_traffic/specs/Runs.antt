-- A class in a run of a port: what its queue is offered and takes, what starts, and what bounds say of these.
--
-- A run is any list of events on a new port: frames of all classes, clocks, commands and questions (IEEE Std 802.1Q-2018, 8.6.8.4 and
-- 8.6.9). Times are in picoseconds.
use Rattle.std.specs.Prelude.{◌≡◌, ◌<◌, ◌≤◌, ℕ, ◌+◌, List, [], ◌∷◌, Some, length, slice_get}
use Rattle.wire_time.specs.declared.TheConstants.{MIN_PS_PER_OCTET, MIN_MTU}
use Rattle.gates.specs.Gate.{Plan}
use Rattle.gates.specs.History.{Accepted}
use Rattle.abstract_port.specs.declared.Start.{Start}
use Rattle.abstract_port.specs.declared.Event.{Event}
use Rattle.abstract_port.specs.declared.Event.TheVariants.{Arrive}
use Rattle.abstract_port.specs.AbstractPort.{AbstractPort, class_for, new_port, queue_of}
use Rattle.abstract_port.specs.Answers.{answers_of, answers_to, port_after}
use Rattle.abstract_port.specs.Laws.{starts_in}
use Rattle.abstract_port.specs.Separation.{IsKeptApart, IsScheduled}
use Rattle.abstract_port.specs.Traffic.{Came, IsOnly, queued_in, offered_in, starts_of_class}

-- a frame of the class that comes does so while a schedule is in force
abbrev pub IsScheduledAt : ℕ → Event → AbstractPort → Type 0
IsScheduledAt class (Arrive f) p = class_for p f.priority ≡ Some class → IsScheduled p
IsScheduledAt class _ p = Unit {0}

abbrev pub AreScheduled : ℕ → List Event → AbstractPort → Type 0
AreScheduled class [] p = Unit {0}
AreScheduled class (event ∷ rest) p = IsScheduledAt class event p × AreScheduled class rest (answers_to event p).1

-- the moment of the port at the end of a run
abbrev pub end_of_run : (ps mtu room : ℕ) → List Event → ℕ
end_of_run ps mtu room events = (port_after events (new_port ps mtu room)).now

module _ (ps mtu room class : ℕ) (events : List Event) where
  -- the frames that the queue of the class is offered in a run, each with the moment at which it came
  abbrev pub offered : List Came
  offered = offered_in class events (new_port ps mtu room)

  -- those that it takes
  abbrev pub queued : List Came
  queued = queued_in class events (new_port ps mtu room)

  -- the starts of the class: each is that of the frame at its place among those taken (`AreOwnStarts`)
  abbrev pub started : List Start
  started = starts_of_class class (starts_in (answers_of events (new_port ps mtu room)))

  -- how many wait at the end of the run
  abbrev pub left : ℕ
  left = length (queue_of (port_after events (new_port ps mtu room)) class)

  -- one command is accepted, which has this plan
  pub record IsOnePlan (a : Accepted) (plan : Plan) : Type 0 where
    pub rate : MIN_PS_PER_OCTET ≤ ps
    pub large : MIN_MTU ≤ mtu
    pub listed : class < 8
    pub is : a.plan ≡ Some plan
    pub above : 0 < plan.cycle
    pub only : IsOnly a events (new_port ps mtu room)

  -- and no frame of the class comes before it is in force
  pub record IsScheduledRun (a : Accepted) (plan : Plan) : Type 0 where
    pub one : IsOnePlan a plan
    pub scheduled : AreScheduled class events (new_port ps mtu room)

  -- And it keeps the class apart. Of the frames of other classes nothing is asked.
  pub record IsApartRun (a : Accepted) (plan : Plan) : Type 0 where
    pub one : IsOnePlan a plan
    pub apart : IsKeptApart class events (new_port ps mtu room)

  -- Each frame starts no later than so long after it came; as soon as that has passed it has started; no more than `most` wait at the end,
  -- and so at any time, since each beginning of a run is a run; and where there is room for these the queue takes every frame that it is
  -- offered.
  pub record IsInTime (wait most : ℕ) : Type 0 where
    pub soon : (k : ℕ) (f : Came) (x : Start) → slice_get queued k ≡ Some f → slice_get started k ≡ Some x → x.at ≤ f.moment + wait
    pub starts : (k : ℕ) (f : Came) → slice_get queued k ≡ Some f → f.moment + wait < end_of_run ps mtu room events → k < length started
    pub few : left ≤ most
    pub all : most ≤ room → queued ≡ offered
