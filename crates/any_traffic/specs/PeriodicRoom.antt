-- How many frames of periodic flows with jitter wait at once at most, and that none is dropped where there is room for so many.
use Rattle.std.specs.Prelude.{◌≡◌, ◌<◌, ◌≤◌, ◌⊎◌, ℕ, suc, ◌+◌, ◌-◌, max, Bool, List}
use Rattle.gates.specs.Gate.{Plan}
use Rattle.gates.specs.History.{Accepted}
use Rattle.abstract_port.specs.declared.Event.{Event}
use Rattle.delay_bounds.specs.Walk.{may_by}
use Rattle.any_traffic.specs.LateForEver.{LateRecurs}
use Rattle.any_traffic.specs.PeriodicWindows.{ArePeriodic, ComeByFlows, IsFreeFrom, PeriodicFlow, can_by, must_before}
use Rattle.any_traffic.specs.Runs.{IsApartRun, left, offered, queued}
use Rattle.any_traffic.specs.Slots.{IsSlot}

module _ (may : ℕ → ℕ → Bool) (d : ℕ) (flows : List PeriodicFlow) where
  -- the frame behind k others in the late run comes at a moment, and starts at s
  pub record IsLateFrame (k s : ℕ) : Type 0 where
    pub moment : ℕ
    pub free : ℕ
    pub from : must_before flows moment ≤ k
    pub less : k < must_before flows (suc moment)
    pub is : IsFreeFrom may d flows moment free
    pub slot : IsSlot may d (max moment free) (k - must_before flows moment) s

  -- the first k frames of the late run have started before t
  abbrev pub HaveStarted : ℕ → ℕ → Type 0
  HaveStarted k t = (k ≡ 0) ⊎ ((s : ℕ) × IsLateFrame (k - 1) s × (s < t))

  -- of the frames that may have come by t all but `most` have started before it in the late run
  abbrev pub AreFewLate : ℕ → ℕ → Type 0
  AreFewLate most t = (k : ℕ) × (can_by flows t ≤ k + most) × HaveStarted k t

  -- The late run is as it was, so much later, with the frames that wait: those that come in that time have started, or as many; and of
  -- those that come before it each starts as the one behind as many more does, so much later, or both have started before.
  pub record LateStartsRecur (from every : ℕ) : Type 0 where
    pub recurs : LateRecurs may d flows from every
    pub more : ℕ
    pub is : must_before flows (from + every) ≡ must_before flows from + more
    pub gone : HaveStarted more (from + every)
    pub starts : (k s : ℕ) → k < must_before flows from → IsLateFrame k s
        → (r : ℕ) × IsLateFrame (k + more) r × (((s < from) × (r < from + every)) ⊎ (r ≡ s + every))

-- The law of room: in every run in which the class is kept apart, and each frame that its queue is offered came in its window of a flow, no
-- more than `most` wait at the end, and so at any time; and where there is room for these the queue takes every frame.
abbrev pub PeriodicRoomLaw : Type 0
PeriodicRoomLaw =
    (ps mtu room class d most : ℕ) (a : Accepted) (plan : Plan) (events : List Event) (flows : List PeriodicFlow) (numbers : List (ℕ × ℕ))
    → IsApartRun ps mtu room class events a plan → ArePeriodic d flows
    → ComeByFlows ps a.change flows numbers (offered ps mtu room class events)
    → ((t : ℕ) → AreFewLate (may_by plan class) d flows most t)
    → (left ps mtu room class events ≤ most) × (most ≤ room → queued ps mtu room class events ≡ offered ps mtu room class events)

-- The law of room, for ever: once the late run is as it was, the moments up to then are enough.
abbrev pub RoomEnoughLaw : Type 0
RoomEnoughLaw =
    (may : ℕ → ℕ → Bool) (d : ℕ) (flows : List PeriodicFlow) (from every most : ℕ)
    → ArePeriodic d flows → LateStartsRecur may d flows from every
    → ((t : ℕ) → t < from + every → AreFewLate may d flows most t) → (t : ℕ) → AreFewLate may d flows most t
