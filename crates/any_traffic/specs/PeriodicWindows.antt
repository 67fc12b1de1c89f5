-- Periodic flows with jitter: frame n of a flow comes at its offset and n periods, or up to its jitter later, for ever.
--
-- The late run of the flows is that in which each frame comes at its latest moment, and all need the wire for as long as the longest.
-- Moments count from the change moment of the schedule (IEEE Std 802.1Q-2018, 8.6.9), and times are in picoseconds.
use Rattle.std.specs.Prelude.{◌≡◌, ◌<◌, ◌≤◌, ℕ, zero, suc, ◌+◌, ◌-◌, ◌*◌, ◌/◌, max, Bool, List, Some, slice_get, sum_by}
use Rattle.wire_time.specs.Wire.{occupancy_of}
use Rattle.gates.specs.Gate.{Plan}
use Rattle.gates.specs.History.{Accepted}
use Rattle.abstract_port.specs.declared.Event.{Event}
use Rattle.abstract_port.specs.Served.{IsFirst}
use Rattle.abstract_port.specs.Traffic.{Came}
use Rattle.delay_bounds.specs.Walk.{may_by}
use Rattle.any_traffic.specs.ArrivalWindows.{ArrivalWindow, IsIn, StartsWithin}
use Rattle.any_traffic.specs.Runs.{IsApartRun, queued}
use Rattle.any_traffic.specs.Slots.{IsSlot}

-- 1. The frames

-- A flow: when its frames come, and for how long one needs the wire at the least and at the most.
pub record PeriodicFlow : Type 0 where
  pub offset : ℕ
  pub period : ℕ
  pub jitter : ℕ
  pub shortest : ℕ
  pub longest : ℕ

-- the window of its frame n
abbrev pub window_of : PeriodicFlow → ℕ → ArrivalWindow
window_of flow n = record { earliest = flow.offset + flow.period * n; latest = flow.offset + flow.period * n + flow.jitter }

-- each frame that came is one of a flow, in its window, and no other is the same one; `numbers` has its flow's place and its number
pub record ComeByFlows (ps change : ℕ) (flows : List PeriodicFlow) (numbers : List (ℕ × ℕ)) (came : List Came) : Type 0 where
  pub each : (k : ℕ) (f : Came) → slice_get came k ≡ Some f
      → (i n : ℕ) × (flow : PeriodicFlow) × (slice_get numbers k ≡ Some (i, n)) × (slice_get flows i ≡ Some flow)
      × IsIn change (window_of flow n) f.moment
      × (flow.shortest ≤ occupancy_of ps f.frame.len) × (occupancy_of ps f.frame.len ≤ flow.longest)
  pub own : (j k : ℕ) (x : ℕ × ℕ) → slice_get numbers j ≡ Some x → slice_get numbers k ≡ Some x → j ≡ k

-- the flows have a period, and need the wire for d at most
abbrev pub ArePeriodic : ℕ → List PeriodicFlow → Type 0
ArePeriodic d flows = (i : ℕ) (flow : PeriodicFlow) → slice_get flows i ≡ Some flow → (0 < flow.period) × (flow.longest ≤ d)

-- 2. How many

-- the number of frames that come before t, one each period from an offset on
abbrev pub before : (offset period t : ℕ) → ℕ
before offset period t = (t - offset + (period - 1)) / period

-- of all flows: those that come before t even if each is as late as it may be, and those that may have come by t
abbrev pub must_before : List PeriodicFlow → ℕ → ℕ
must_before flows t = sum_by (λ flow. before (flow.offset + flow.jitter) flow.period t) flows

abbrev pub can_by : List PeriodicFlow → ℕ → ℕ
can_by flows t = sum_by (λ flow. before flow.offset flow.period (t + 1)) flows

-- 3. The late run

module _ (may : ℕ → ℕ → Bool) (d : ℕ) where
  -- n frames come at t, and start one behind another, where the wire is free from a moment on; behind them it is free from a later one on
  abbrev pub AreSent : (t n free later : ℕ) → Type 0
  AreSent t zero free later = later ≡ free
  AreSent t (suc n) free later = (s : ℕ) × IsFirst may d (max t free) s × AreSent t n (s + d) later

  -- behind the frames that come before t in the late run the wire is free from a moment on
  abbrev pub IsFreeFrom : List PeriodicFlow → (t free : ℕ) → Type 0
  IsFreeFrom flows zero free = free ≡ 0
  IsFreeFrom flows (suc t) free = (was : ℕ) × IsFreeFrom flows t was × AreSent t (must_before flows (suc t) - must_before flows t) was free

  -- of the frames that may have come by t the last starts at s, where those that needn't have come before it do so at t
  abbrev pub IsLateStart : List PeriodicFlow → (t s : ℕ) → Type 0
  IsLateStart flows t s = (free : ℕ) × IsFreeFrom flows t free × IsSlot may d (max t free) (can_by flows t - must_before flows t - 1) s

-- The law of periodic windows: in every run in which the class is kept apart, and each frame that its queue takes came in its window of a
-- flow, each frame starts no later than the late start at its latest moment.
abbrev pub PeriodicWindowLaw : Type 0
PeriodicWindowLaw =
    (ps mtu room class d : ℕ) (a : Accepted) (plan : Plan) (events : List Event) (flows : List PeriodicFlow) (numbers : List (ℕ × ℕ))
    → IsApartRun ps mtu room class events a plan → ArePeriodic d flows
    → ComeByFlows ps a.change flows numbers (queued ps mtu room class events)
    → (k i n s : ℕ) (f : Came) (flow : PeriodicFlow)
    → slice_get (queued ps mtu room class events) k ≡ Some f → slice_get numbers k ≡ Some (i, n) → slice_get flows i ≡ Some flow
    → IsLateStart (may_by plan class) d flows (window_of flow n).latest s → StartsWithin ps mtu room class events a.change k s
