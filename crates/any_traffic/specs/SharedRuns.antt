-- A class that shares its windows, in a run: what is asked of the frames of the classes, and what bounds say of this one.
use Rattle.std.specs.Prelude.{◌≡◌, ◌<◌, ◌≤◌, ℕ, suc, ◌+◌, ◌-◌, List, Some, length, slice_get, sum_by, take, drop}
use Rattle.gates.specs.Gate.{Plan}
use Rattle.gates.specs.History.{Accepted}
use Rattle.abstract_port.specs.declared.Start.{Start}
use Rattle.abstract_port.specs.declared.Event.{Event}
use Rattle.abstract_port.specs.AbstractPort.{new_port}
use Rattle.abstract_port.specs.Answers.{answers_of}
use Rattle.abstract_port.specs.Laws.{starts_in}
use Rattle.abstract_port.specs.Traffic.{Came}
use Rattle.any_traffic.specs.ArrivalCurve.{ConformTo}
use Rattle.any_traffic.specs.Runs.{IsScheduledRun, end_of_run, offered, queued, started}
use Rattle.any_traffic.specs.SharedSlots.{slots_by}

-- At no time wait more than `most`: where the n + 1 frames from one place on have come by a moment, and the first of them has not started
-- before it, they are no more.
abbrev pub AtMostWait : ℕ → List Came → List Start → Type 0
AtMostWait most came starts =
    (k n t : ℕ) (f g : Came) → slice_get came k ≡ Some f → slice_get came (k + n) ≡ Some g → g.moment ≤ t
    → ((x : Start) → slice_get starts k ≡ Some x → t ≤ x.at) → n + 1 ≤ most

-- Starts keep a start curve, which rises: the frames that start from any one to a later one, both counted, cover no more slots that are a pitch
-- apart than it says of the time between the two.
pub record KeepStartCurve (pitch : ℕ) (curve : ℕ → ℕ) (starts : List Start) : Type 0 where
  pub rises : (x y : ℕ) → x ≤ y → curve x ≤ curve y
  pub few : (k n : ℕ) (x y : Start) → slice_get starts k ≡ Some x → slice_get starts (k + n) ≡ Some y
      → sum_by (slots_by pitch) (take (suc n) (drop k starts)) ≤ curve (y.at - x.at)

module _ (ps mtu room : ℕ) (events : List Event) where
  -- One command is accepted, which has this plan. The frames of the class conform to an arrival curve, and the starts of the higher classes
  -- keep their start curves, of each pitch one. Of lower classes no more is asked than that a frame that starts needs the wire for `need` of
  -- its class at most.
  pub record IsSharedRun (class : ℕ) (need : ℕ → ℕ) (curve : ℕ → ℕ) (curves : ℕ → ℕ → ℕ → ℕ) (higher : List ℕ) (a : Accepted) (plan : Plan)
      : Type 0 where
    pub run : IsScheduledRun ps mtu room class events a plan
    pub short : (k : ℕ) (x : Start) → slice_get (starts_in (answers_of events (new_port ps mtu room))) k ≡ Some x
        → x.«end» ≤ x.at + need x.class
    pub conform : ConformTo ps (need class) curve (offered ps mtu room class events)
    pub above : (pitch i j : ℕ) → 0 < pitch → slice_get higher i ≡ Some j → KeepStartCurve pitch (curves pitch j) (started ps mtu room j events)

  -- Each frame starts no later than so long after it came; as soon as that has passed it has started; at no time wait more than `waiting`;
  -- and where there is room for these the queue takes every frame that it is offered.
  pub record IsSharedInTime (class wait waiting : ℕ) : Type 0 where
    pub soon : (k : ℕ) (f : Came) (x : Start) → slice_get (queued ps mtu room class events) k ≡ Some f
        → slice_get (started ps mtu room class events) k ≡ Some x → x.at ≤ f.moment + wait
    pub starts : (k : ℕ) (f : Came) → slice_get (queued ps mtu room class events) k ≡ Some f
        → f.moment + wait < end_of_run ps mtu room events → k < length (started ps mtu room class events)
    pub few : AtMostWait waiting (queued ps mtu room class events) (started ps mtu room class events)
    pub all : waiting ≤ room → queued ps mtu room class events ≡ offered ps mtu room class events
