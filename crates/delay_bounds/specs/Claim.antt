-- The whole claim: what an answer about the flows of a class is worth in every run of a port, for ever.
--
-- A run is any list of events on a new port: frames of all classes, clocks, commands and questions (IEEE Std 802.1Q-2018, 8.6.8.4 and 8.6.9).
-- Times are in picoseconds. Moments of flows count from the change moment of the schedule, and frames from 0, in the order of all flows.
use Rattle.std.specs.Prelude.{◌≡◌, ◌<◌, ◌≤◌, ℕ, zero, suc, ◌+◌, if◌then◌else◌, nat_le, List, [], ◌∷◌, All, length, map, take, slice_get, slice_set, slice_index_or, Option, Some, None, IfSome, Result, Ok, Err}
use Rattle.std.specs.Option.{option_map_or}
use Rattle.wire_time.specs.Moment.{greatest_moment}
use Rattle.wire_time.specs.Wire.{occupancy_of}
use Rattle.wire_time.specs.declared.TheConstants.{MIN_PS_PER_OCTET, MIN_MTU}
use Rattle.gates.specs.Gate.{Plan, IsSchedule}
use Rattle.gates.specs.History.{Accepted}
use Rattle.abstract_port.specs.declared.Start.{Start}
use Rattle.abstract_port.specs.declared.Event.{Event}
use Rattle.abstract_port.specs.AbstractPort.{new_port}
use Rattle.abstract_port.specs.Answers.{answers_of}
use Rattle.abstract_port.specs.Laws.{starts_in}
use Rattle.abstract_port.specs.Separation.{IsKeptApart}
use Rattle.abstract_port.specs.Traffic.{Came, IsOnly, queued_in, offered_in, starts_of_class}
use Rattle.delay_bounds.specs.declared.Flow.{Flow}
use Rattle.delay_bounds.specs.declared.Bound.{Bound}
use Rattle.delay_bounds.specs.declared.Unbound.{Unbound}
use Rattle.delay_bounds.specs.declared.Unbound.TheVariants.{Full, Never, Overloaded}

-- 1. The frames of flows

-- a flow whose times are moments, and frames of which come one after another
pub record IsFlow (f : Flow) : Type 0 where
  pub above : 0 < f.period
  pub need : f.need ≤ greatest_moment
  pub period : f.period ≤ greatest_moment
  pub offset : f.offset ≤ greatest_moment

-- when the first frame of each flow comes
abbrev pub offsets_of : List Flow → List ℕ
offsets_of = map (λ f. f.offset)

-- a moment and its place before others: the first of equal ones
abbrev pub earlier : ℕ → Option (ℕ × ℕ) → ℕ × ℕ
earlier t None = (t, 0)
earlier t (Some u) = if nat_le t u.0 then (t, 0) else (u.0, u.1 + 1)

-- the least of moments and its place, the first of equal ones
unfoldable pub earliest : List ℕ → Option (ℕ × ℕ)
earliest [] = None
earliest (t ∷ rest) = Some (earlier t (earliest rest))

-- a flow at a place
abbrev pub flow_at : List Flow → ℕ → Flow
flow_at flows place = slice_index_or flows place (record { need = 0; period = 0; offset = 0 })

-- so many frames of all flows: when each comes, and its flow's place; of one moment in the order of the flows
unfoldable pub coming : List Flow → ℕ → List ℕ → List (ℕ × ℕ)
coming flows zero nexts = []
coming flows (suc n) nexts = option_map_or (λ e. e ∷ coming flows n (slice_set nexts e.1 (e.0 + (flow_at flows e.1).period))) (earliest nexts) []

-- the frame that comes behind so many others is one of the flow at a place, and comes then
abbrev pub IsFrame : List Flow → ℕ → ℕ → ℕ → Type 0
IsFrame flows n place moment = slice_get (coming flows (n + 1) (offsets_of flows)) n ≡ Some (moment, place)

-- frames that came are these, by their moments since the change moment, and occupy the wire for as long as those of their flows
abbrev pub AreComing : ℕ → ℕ → List Flow → List (ℕ × ℕ) → List Came → Type 0
AreComing ps change flows [] [] = Unit {0}
AreComing ps change flows (e ∷ more) (f ∷ came) = (f.moment ≡ change + e.0) × (occupancy_of ps f.frame.len ≡ (flow_at flows e.1).need) × AreComing ps change flows more came
AreComing ps change flows _ _ = ⊥

-- 2. Runs

-- One command is accepted, which has this plan and keeps the class apart, and no frame of the class comes before it is in force. The frames
-- that the queue of the class is offered are the first n of the flows. Of the other classes nothing is asked.
pub record IsRun (ps mtu room class : ℕ) (plan : Plan) (flows : List Flow) (n : ℕ) (events : List Event) : Type 0 where
  pub rate : MIN_PS_PER_OCTET ≤ ps
  pub large : MIN_MTU ≤ mtu
  pub command : Accepted
  pub is : command.plan ≡ Some plan
  pub only : IsOnly command events (new_port ps mtu room)
  pub apart : IsKeptApart class events (new_port ps mtu room)
  pub come : AreComing ps command.change flows (coming flows n (offsets_of flows)) (offered_in class events (new_port ps mtu room))

-- the bounds of the flow at a place
abbrev pub bound_at : List Bound → ℕ → Bound
bound_at bounds place = slice_index_or bounds place (record { least = 0; greatest = 0 })

module _ (plan : Plan) (class room : ℕ) (flows : List Flow) where
  -- In every run this holds of the number of frames, of those that the queue is offered and those that it takes, and of their starts.
  abbrev pub InEveryRun : (ℕ → List Came → List Came → List Start → Type 0) → Type 0
  InEveryRun P =
      (ps mtu n : ℕ) (events : List Event) → IsRun ps mtu room class plan flows n events
      → P n (offered_in class events (new_port ps mtu room)) (queued_in class events (new_port ps mtu room)) (starts_of_class class (starts_in (answers_of events (new_port ps mtu room))))

  -- 3. What an answer is worth

  -- in every run the frame that is taken behind so many others has waited for so long, if it has started
  abbrev pub Waits : ℕ → ℕ → Type 0
  Waits k wait = InEveryRun (λ n offered queued starts. (f : Came) (x : Start) → slice_get queued k ≡ Some f → slice_get starts k ≡ Some x → x.at ≡ f.moment + wait)

  -- a frame of the flow at a place waits for so long
  abbrev pub IsWait : ℕ → ℕ → Type 0
  IsWait place wait = (k moment : ℕ) × IsFrame flows k place moment × Waits k wait

  -- No frame is dropped; each waits within its flow's bounds, for as long in every run; and the least and the greatest of each flow are reached.
  pub record AreExact (bounds : List Bound) : Type 0 where
    pub taken : InEveryRun (λ n offered queued starts. (queued ≡ offered) × (length starts ≤ length queued))
    pub within : (k place moment : ℕ) → IsFrame flows k place moment → (wait : ℕ) × ((bound_at bounds place).least ≤ wait) × (wait ≤ (bound_at bounds place).greatest) × Waits k wait
    pub reached : (place : ℕ) → place < length flows → IsWait place (bound_at bounds place).least × IsWait place (bound_at bounds place).greatest

  -- the frame behind so many others is this one; in every run up to it, it is dropped, and none before it
  abbrev pub IsFirstDropped : ℕ → ℕ → ℕ → Type 0
  IsFirstDropped k place moment = IsFrame flows k place moment × InEveryRun (λ n offered queued starts. length offered ≤ k + 1 → queued ≡ take k offered)

  -- the frame behind so many others is this one; in no run does it start, nor any behind it
  abbrev pub NeverStarts : ℕ → ℕ → ℕ → Type 0
  NeverStarts k place moment = IsFrame flows k place moment × InEveryRun (λ n offered queued starts. length starts ≤ k)

-- bounds, or why there are none; an overloaded class loses a frame at any room
abbrev pub IsWorth : Plan → ℕ → ℕ → List Flow → Result (List Bound) Unbound → Type 0
IsWorth plan class room flows (Ok bounds) = AreExact plan class room flows bounds
IsWorth plan class room flows (Err (Full f)) = IsFirstDropped plan class room flows f.earlier f.place f.moment
IsWorth plan class room flows (Err (Never f refused)) = NeverStarts plan class room flows f.earlier f.place f.moment × IfSome refused (λ r. (k : ℕ) × IsFirstDropped plan class room flows k r.place r.moment)
IsWorth plan class room flows (Err Overloaded) = (any : ℕ) → (k place moment : ℕ) × IsFirstDropped plan class any flows k place moment
IsWorth plan class room flows (Err why) = Unit {0}

-- The law: what is answered about flows, by a walk over so many of their frames at most, is worth this.
abbrev pub AnswerLaw : (Plan → ℕ → ℕ → List Flow → ℕ → Result (List Bound) Unbound) → Type 0
AnswerLaw answer =
    (plan : Plan) (class room limit : ℕ) (flows : List Flow) → IsSchedule plan → class < 8 → 0 < length flows → All IsFlow flows → IsWorth plan class room flows (answer plan class room flows limit)
