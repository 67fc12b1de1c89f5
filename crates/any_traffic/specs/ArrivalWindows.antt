-- Arrival windows: frames that each come within a time of their own, as those of synchronised talkers with jitter do.
use Rattle.std.specs.Prelude.{◌≡◌, ◌<◌, ◌≤◌, ℕ, ◌+◌, max, min, Bool, if◌then◌else◌, nat_le, List, [], ◌∷◌, Some, length, slice_get}
use Rattle.wire_time.specs.Wire.{occupancy_of}
use Rattle.gates.specs.Gate.{Plan}
use Rattle.gates.specs.History.{Accepted}
use Rattle.abstract_port.specs.declared.Start.{Start}
use Rattle.abstract_port.specs.declared.Event.{Event}
use Rattle.abstract_port.specs.Served.{IsFirst}
use Rattle.abstract_port.specs.Traffic.{Came}
use Rattle.delay_bounds.specs.Walk.{may_by}
use Rattle.any_traffic.specs.Runs.{IsApartRun, end_of_run, queued, started}

-- when a frame comes at the earliest and at the latest, in picoseconds since the change moment of the schedule
pub record ArrivalWindow : Type 0 where
  pub earliest : ℕ
  pub latest : ℕ

-- a moment of a run is in a window
abbrev pub IsIn : ℕ → ArrivalWindow → ℕ → Type 0
IsIn change w moment = (change + w.earliest ≤ moment) × (moment ≤ change + w.latest)

-- each frame that came did so in a window of its own, whose place `places` has, and needs the wire for d at most
pub record ComeInWindows (ps d change : ℕ) (windows : List ArrivalWindow) (places : List ℕ) (came : List Came) : Type 0 where
  pub each : (k : ℕ) (f : Came) → slice_get came k ≡ Some f
      → (i : ℕ) × (w : ArrivalWindow) × (slice_get places k ≡ Some i) × (slice_get windows i ≡ Some w) × IsIn change w f.moment
  pub own : (j k i : ℕ) → slice_get places j ≡ Some i → slice_get places k ≡ Some i → j ≡ k
  pub short : (k : ℕ) (f : Came) → slice_get came k ≡ Some f → occupancy_of ps f.frame.len ≤ d

-- the frames that may have come by `last`: when each comes if it is as late as it may be then
abbrev pub latest_by : ℕ → List ArrivalWindow → List ℕ
latest_by last [] = []
latest_by last (w ∷ windows) = if nat_le w.earliest last then min w.latest last ∷ latest_by last windows else latest_by last windows

-- The late run: frames that need the wire for d each come at these moments, and start one after another, each as soon as the class may have
-- the wire for d from when it comes and from when the one before it has ended. The wire is free from a moment on. The last of them starts
-- at s.
abbrev pub IsLastStart : (may : ℕ → ℕ → Bool) (d free : ℕ) → List ℕ → ℕ → Type 0
IsLastStart may d free [] s = ⊥
IsLastStart may d free (m ∷ []) s = IsFirst may d (max m free) s
IsLastStart may d free (m ∷ n ∷ moments) s = (r : ℕ) × IsFirst may d (max m free) r × IsLastStart may d (r + d) (n ∷ moments) s

-- what is known of the frame at a place, by a moment that counts from the change moment: it starts by then, and once that has passed it has
-- started
abbrev pub StartsWithin : (ps mtu room class : ℕ) (events : List Event) (change k s : ℕ) → Type 0
StartsWithin ps mtu room class events change k s =
    ((x : Start) → slice_get (started ps mtu room class events) k ≡ Some x → x.at ≤ change + s)
    × (change + s < end_of_run ps mtu room events → k < length (started ps mtu room class events))

-- The law of arrival windows: in every run in which the class is kept apart, and each frame that its queue takes came in a window of its
-- own, each frame starts no later than the last of those that may have come by its latest moment, in the late run of these. (The bound is
-- least where the windows stand in the order of their latest moments.)
abbrev pub WindowLaw : Type 0
WindowLaw =
    (ps mtu room class d : ℕ) (a : Accepted) (plan : Plan) (events : List Event) (windows : List ArrivalWindow) (places : List ℕ)
    → IsApartRun ps mtu room class events a plan → ComeInWindows ps d a.change windows places (queued ps mtu room class events)
    → (k i s : ℕ) (f : Came) (w : ArrivalWindow)
    → slice_get (queued ps mtu room class events) k ≡ Some f → slice_get places k ≡ Some i → slice_get windows i ≡ Some w
    → IsLastStart (may_by plan class) d 0 (latest_by w.latest windows) s → StartsWithin ps mtu room class events a.change k s
