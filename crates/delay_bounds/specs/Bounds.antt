-- The bounds of the flows of a class by a plan alone, and that they hold in every run.
--
-- A class that is kept apart is served as if there were no other class: each frame is queued where there is room (IEEE Std 802.1Q-2018,
-- 8.6.6), first in, first out, and starts at the first moment from which its gate stays open for as long as it takes (8.6.8.4). Moments and
-- times are in picoseconds; but for those of a run, moments count from the schedule's change moment (8.6.9).
use Rattle.std.specs.Prelude.{◌≡◌, ◌<◌, ◌≤◌, ℕ, zero, suc, ◌+◌, ◌-◌, max, Bool, if◌then◌else◌, nat_lt, nat_le, List, [], ◌∷◌, ◌++◌, length, slice_set, Option, Some, None}
use Rattle.std.specs.Option.{option_and_then, option_map}
use Rattle.gates.specs.Open.{open_while}
use Rattle.wire_time.specs.declared.TheConstants.{MIN_PS_PER_OCTET, MIN_MTU}
use Rattle.gates.specs.Gate.{Plan, in_ps, mask_since}
use Rattle.gates.specs.History.{Accepted}
use Rattle.abstract_port.specs.declared.Start.{Start}
use Rattle.abstract_port.specs.declared.Event.{Event}
use Rattle.abstract_port.specs.AbstractPort.{new_port}
use Rattle.abstract_port.specs.Answers.{answers_of}
use Rattle.abstract_port.specs.Laws.{starts_in}
use Rattle.abstract_port.specs.Separation.{IsKeptApart}
use Rattle.abstract_port.specs.Traffic.{Came, IsOnly, queued_in, offered_in, starts_of_class}
use Rattle.delay_bounds.specs.Claim.{offsets_of, earliest, flow_at, coming, AreComing, bound_at}
use Rattle.delay_bounds.specs.declared.Flow.{Flow}
use Rattle.delay_bounds.specs.declared.Told.{Told}
use Rattle.delay_bounds.specs.declared.Bound.{Bound}

-- the first of so many moments from t on at which a frame may start that needs the wire for d
unfoldable pub first_fit : (ℕ → ℕ → Bool) → ℕ → ℕ → ℕ → Option ℕ
first_fit may d t zero = None
first_fit may d t (suc n) = if may t d then Some t else first_fit may d (t + 1) n

-- when the next frame of each flow comes; from when the wire is the class's; and when those frames start that wait
pub record Track : Type 0 where
  pub nexts : List ℕ
  pub free : ℕ
  pub starts : List ℕ

-- those of rising moments that are not before t
unfoldable pub from_on : ℕ → List ℕ → List ℕ
from_on t [] = []
from_on t (s ∷ rest) = if nat_lt s t then from_on t rest else s ∷ rest

-- the frame that comes at t, where there is room; it starts, if it ever does
abbrev pub arrives : (ℕ → ℕ → Bool) → ℕ → ℕ → ℕ → ℕ → Flow → ℕ → List ℕ → List ℕ → Option (Told × Track)
arrives may cycle room t place f free nexts waiting = if nat_le room (length waiting) then None else option_map (λ at. (
  record { place = place; wait = at - t; waiting = length waiting + 1 },
  record { nexts = slice_set nexts place (t + f.period); free = at + f.need; starts = waiting ++ at ∷ [] },
)) (first_fit may f.need (max t free) cycle)

-- The next frame of all flows, and what is so then; none where it is dropped or never starts. `may` says at which moment so much time can be
-- had, in cycles of this length; there is room for so many frames.
unfoldable pub step : (ℕ → ℕ → Bool) → ℕ → ℕ → List Flow → Track → Option (Told × Track)
step may cycle room flows s = option_and_then (λ e. arrives may cycle room e.0 e.1 (flow_at flows e.1) s.free s.nexts (from_on e.0 s.starts)) (earliest s.nexts)

-- what is told of the frame that comes after so many others
unfoldable pub told : (ℕ → ℕ → Bool) → ℕ → ℕ → List Flow → ℕ → Track → Option Told
told may cycle room flows zero s = option_map (λ r. r.0) (step may cycle room flows s)
told may cycle room flows (suc n) s = option_and_then (λ r. told may cycle room flows n r.1) (step may cycle room flows s)

-- What is told of frame n of the flows, from 0, by a plan alone, whose gates are as they would be from moment 0 on: its flow's place, the time
-- from its arrival to its start, and how many wait. None: it, or one before it, is dropped or never starts.
abbrev pub told_by : Plan → ℕ → ℕ → List Flow → ℕ → Option Told
told_by plan class room flows n = told (open_while (mask_since (Some plan) 0 None) class) (in_ps plan.cycle) room flows n (record { nexts = offsets_of flows; free = 0; starts = [] })

-- a wait lies within bounds
pub record IsWithin (b : Bound) (wait : ℕ) : Type 0 where
  pub least : b.least ≤ wait
  pub greatest : wait ≤ b.greatest

-- The bounds of flows, by a plan alone: for ever, every frame starts and waits within those of its flow, and each of them is reached.
pub record AreBounds (plan : Plan) (class room : ℕ) (flows : List Flow) (bounds : List Bound) : Type 0 where
  pub always : (n : ℕ) → (t : Told) × (told_by plan class room flows n ≡ Some t) × IsWithin (bound_at bounds t.place) t.wait
  pub least : (place : ℕ) → place < length flows → (n : ℕ) × (t : Told) × (told_by plan class room flows n ≡ Some t) × (t.place ≡ place) × (t.wait ≡ (bound_at bounds place).least)
  pub greatest : (place : ℕ) → place < length flows → (n : ℕ) × (t : Told) × (told_by plan class room flows n ≡ Some t) × (t.place ≡ place) × (t.wait ≡ (bound_at bounds place).greatest)

-- Frames that came, of these places, and started: each within the bounds of its flow.
abbrev pub AllWithin : List Bound → List (ℕ × ℕ) → List Came → List Start → Type 0
AllWithin bounds more came [] = Unit {0}
AllWithin bounds (e ∷ more) (f ∷ came) (x ∷ starts) = ((wait : ℕ) × (x.at ≡ f.moment + wait) × IsWithin (bound_at bounds e.1) wait) × AllWithin bounds more came starts
AllWithin bounds _ _ (x ∷ starts) = ⊥

-- In a run: all frames that the queue of the class is offered it takes, and each that starts does so within the bounds of its flow.
pub record IsBounded (ps mtu room class : ℕ) (events : List Event) (frames : List (ℕ × ℕ)) (bounds : List Bound) : Type 0 where
  pub queued : queued_in class events (new_port ps mtu room) ≡ offered_in class events (new_port ps mtu room)
  pub within : AllWithin bounds frames (queued_in class events (new_port ps mtu room)) (starts_of_class class (starts_in (answers_of events (new_port ps mtu room))))

-- The law: bounds of flows hold in every run, whatever the other classes send, in which one schedule is accepted, which keeps the class apart,
-- and the frames of the class are the first of the flows, from its change moment on.
abbrev pub EveryRunLaw : Type 0
EveryRunLaw =
    (ps mtu room class : ℕ) (a : Accepted) (plan : Plan) (events : List Event) (flows : List Flow) (bounds : List Bound) (n : ℕ)
    → MIN_PS_PER_OCTET ≤ ps → MIN_MTU ≤ mtu → class < 8 → a.plan ≡ Some plan → 0 < plan.cycle
    → IsKeptApart class events (new_port ps mtu room) → IsOnly a events (new_port ps mtu room)
    → AreComing ps a.change flows (coming flows n (offsets_of flows)) (offered_in class events (new_port ps mtu room))
    → AreBounds plan class room flows bounds → IsBounded ps mtu room class events (coming flows n (offsets_of flows)) bounds
