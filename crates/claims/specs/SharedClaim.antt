-- The whole claim for classes that share their windows: what their least bounds are worth in every run of a port, for ever.
--
-- Under strict priority a class waits for the higher ones that share windows with it (IEEE Std 802.1Q-2018, 8.6.8.1), and how often these
-- start is known by their own bounds. So classes are judged from the highest down, each by what is then known of all eight. A run is any
-- list of events on a new port: frames of all classes, clocks, commands and questions (8.6.8.4, 8.6.9). Times are in picoseconds.
use Rattle.std.specs.Prelude.{◌≡◌, ◌<◌, ◌≤◌, ◌⊎◌, ℕ, ◌+◌, Bool, true, false, List, [], All, length, slice_get, Some}
use Rattle.gates.specs.Gate.{Plan}
use Rattle.gates.specs.History.{Accepted}
use Rattle.abstract_port.specs.AbstractPort.{new_port}
use Rattle.abstract_port.specs.Answers.{answers_of}
use Rattle.abstract_port.specs.Laws.{starts_in}
use Rattle.abstract_port.specs.declared.Event.{Event}
use Rattle.abstract_port.specs.declared.Start.{Start}
use Rattle.any_traffic.specs.ArrivalCurve.{ConformTo}
use Rattle.any_traffic.specs.Runs.{AreScheduled, IsOnePlan, offered}
use Rattle.any_traffic.specs.SharedRuns.{IsSharedInTime}
use Rattle.any_traffic.specs.SlotCurve.{CoverUpTo}
use Rattle.burst_bounds.specs.declared.Bounds.{Bounds}
use Rattle.shared_bounds.specs.Least.{AreLeastOf}
use Rattle.shared_bounds.specs.Sharing.{Share}
use Rattle.shared_bounds.specs.Traffic.{IsTraffic, arrivals_of, covered_by, needs}
use Rattle.shared_bounds.specs.declared.ClassTraffic.{ClassTraffic}

-- 1. By the schedule alone

-- a higher one of the eight classes, which shares windows with a class
abbrev pub IsHigher : Plan → (class j : ℕ) → Type 0
IsHigher plan class j = (class < j) × (j < 8) × Share plan class j

-- Each class that is judged is so by its `traffic`: what is known of the eight classes. The higher ones that share windows with it are
-- judged, too, or send nothing; of those that are judged it is known how many slots at most the frames cover that come, and which bounds
-- they have. No class that is judged needs the wire for longer than is known of it where another one is. And the bounds of each are the least
-- by what is known, where some number of slots is looked at.
pub record AreJudged (plan : Plan) (traffic : ℕ → List ClassTraffic) (bounds : ℕ → Bounds) (judged silent : ℕ → Bool) : Type 0 where
  pub eight : (class : ℕ) → judged class ≡ true → length (traffic class) ≡ 8
  pub known : (class : ℕ) → judged class ≡ true → All IsTraffic (traffic class)
  pub higher : (class j : ℕ) → judged class ≡ true → IsHigher plan class j → (judged j ≡ true) ⊎ (silent j ≡ true)
  pub come : (class j pitch x : ℕ) → judged class ≡ true → IsHigher plan class j → judged j ≡ true → 0 < pitch
      → covered_by (traffic j) pitch j x ≤ covered_by (traffic class) pitch j x
  pub bound : (class j : ℕ) (t : ClassTraffic) → judged class ≡ true → IsHigher plan class j → judged j ≡ true
      → slice_get (traffic class) j ≡ Some t → t.bounds ≡ bounds j
  pub need : (class j : ℕ) → judged class ≡ true → judged j ≡ true → needs (traffic j) j ≤ needs (traffic class) j
  pub least : (class : ℕ) → judged class ≡ true
      → (limit : ℕ) × AreLeastOf plan class (traffic class) limit (bounds class).wait (bounds class).most

-- 2. In a run

-- One schedule is accepted, and no other command. Of each class that is judged, the frames that its queue is offered conform to the arrival
-- curve of its talkers and to their slot curve of each pitch, so that each counts for as long as those of its talker, and each needs the wire
-- for no longer than is known. None of them comes before the schedule is in force: so none waits from before. Of silent classes none comes.
-- Of any other class no more is asked than that a frame that starts needs the wire for no longer than is known.
pub record IsSharingRun (ps mtu room : ℕ) (plan : Plan) (traffic : ℕ → List ClassTraffic) (judged silent : ℕ → Bool) (events : List Event)
    : Type 0 where
  pub command : Accepted
  pub one : (class : ℕ) → class < 8 → IsOnePlan ps mtu room class events command plan
  pub conform : (class : ℕ) → class < 8 → judged class ≡ true
      → ConformTo ps (needs (traffic class) class) (arrivals_of (traffic class) class) (offered ps mtu room class events)
  pub cover : (class pitch : ℕ) → class < 8 → judged class ≡ true → 0 < pitch
      → CoverUpTo ps pitch (covered_by (traffic class) pitch class) (offered ps mtu room class events)
  pub scheduled : (class : ℕ) → class < 8 → judged class ≡ true → AreScheduled class events (new_port ps mtu room)
  pub quiet : (class : ℕ) → class < 8 → silent class ≡ true → offered ps mtu room class events ≡ []
  pub others : (class k : ℕ) (x : Start) → class < 8 → judged class ≡ true
      → slice_get (starts_in (answers_of events (new_port ps mtu room))) k ≡ Some x → judged x.class ≡ false → silent x.class ≡ false
      → x.«end» ≤ x.at + needs (traffic class) x.class

-- The claim: then each frame of a class that is judged starts within the wait of its class, counted from when it came; no more than the
-- most ever wait at once; and where there is room for these none is dropped.
abbrev pub SharedClaim : Type 0
SharedClaim =
    (plan : Plan) (traffic : ℕ → List ClassTraffic) (bounds : ℕ → Bounds) (judged silent : ℕ → Bool)
    → AreJudged plan traffic bounds judged silent
    → (ps mtu room : ℕ) (events : List Event) → IsSharingRun ps mtu room plan traffic judged silent events
    → (class : ℕ) → class < 8 → judged class ≡ true → IsSharedInTime ps mtu room events class (bounds class).wait (bounds class).most
