-- That the claim for classes that share their windows speaks of something: there are such runs, and all of it can be met at once.
--
-- The claim (SharedClaim.antt) is of every run of a kind, and would hold of any bounds where there are none. So each premise here is one that
-- the standard, a port's limits or the claim ask, and none is more. Times are in picoseconds.
use Rattle.std.specs.Prelude.{◌≡◌, ◌<◌, ◌≤◌, ℕ, Bool, true, false, List, [], ◌∷◌, filter, slice_get, Some, None}
use Rattle.wire_time.specs.Moment.{greatest_moment}
use Rattle.wire_time.specs.Wire.{occupancy_of}
use Rattle.wire_time.specs.declared.TheConstants.{MIN_PS_PER_OCTET, MIN_MTU}
use Rattle.abstract_port.specs.AbstractPort.{AbstractPort, class_for, new_port, plan_asked, refusal}
use Rattle.abstract_port.specs.declared.Change.{Change}
use Rattle.abstract_port.specs.declared.Command.TheVariants.{Replace}
use Rattle.abstract_port.specs.declared.Event.{Event}
use Rattle.abstract_port.specs.Separation.{is_class}
use Rattle.abstract_port.specs.Traffic.{Came}
use Rattle.delay_bounds.specs.Walk.{may_by}
use Rattle.any_traffic.specs.ArrivalCurve.{ConformTo}
use Rattle.any_traffic.specs.Runs.{end_of_run, offered}
use Rattle.any_traffic.specs.SlotCurve.{CoverUpTo}
use Rattle.burst_bounds.specs.declared.Bounds.{Bounds}
use Rattle.shared_bounds.specs.Sharing.{Share}
use Rattle.shared_bounds.specs.Traffic.{arrivals_of, covered_by, needs}
use Rattle.shared_bounds.specs.declared.ClassTraffic.{ClassTraffic}
use Rattle.claims.specs.Runs.{IsTaken, in_force_from, scheduled}
use Rattle.claims.specs.SharedClaim.{AreJudged, IsSharingRun}

-- 1. There are such runs

-- frames come from one moment on, in the order of their moments, and by another
abbrev pub ComeWithin : (from until : ℕ) → List Came → Type 0
ComeWithin from until [] = from ≤ until
ComeWithin from until (f ∷ rest) = (from ≤ f.moment) × ComeWithin f.moment until rest

-- those of a class
abbrev pub frames_to : AbstractPort → (class : ℕ) → List Came → List Came
frames_to p class = filter (λ f. is_class class (class_for p f.frame.priority))

-- Frames of all classes can come to a new port by a moment. It is of a rate and an mtu that there are, accepts the schedule, and takes each
-- frame into a class. They come once the schedule is in force. Those of each class that is judged conform to the curves of its talkers;
-- none is of a silent class; and any other needs the wire for no longer than is known.
pub record CanShare (ps mtu room : ℕ) (change : Change) (traffic : ℕ → List ClassTraffic) (judged silent : ℕ → Bool) (came : List Came) (until : ℕ)
    : Type 0 where
  pub rate : MIN_PS_PER_OCTET ≤ ps
  pub large : MIN_MTU ≤ mtu
  pub accepted : refusal (new_port ps mtu room) (Replace change) ≡ None
  pub taken : (k : ℕ) (f : Came) → slice_get came k ≡ Some f
      → (class : ℕ) × (t : IsTaken (scheduled ps mtu room change) class (occupancy_of ps f.frame.len)) × (t.frame ≡ f.frame)
  pub within : ComeWithin (in_force_from ps mtu room change) until came
  pub clock : until ≤ greatest_moment
  pub conform : (class : ℕ) → class < 8 → judged class ≡ true
      → ConformTo ps (needs (traffic class) class) (arrivals_of (traffic class) class) (frames_to (scheduled ps mtu room change) class came)
  pub cover : (class pitch : ℕ) → class < 8 → judged class ≡ true → 0 < pitch
      → CoverUpTo ps pitch (covered_by (traffic class) pitch class) (frames_to (scheduled ps mtu room change) class came)
  pub quiet : (class : ℕ) → class < 8 → silent class ≡ true → frames_to (scheduled ps mtu room change) class came ≡ []
  pub others : (class j k : ℕ) (f : Came) → class < 8 → judged class ≡ true → j < 8 → judged j ≡ false → silent j ≡ false
      → slice_get (frames_to (scheduled ps mtu room change) j came) k ≡ Some f → occupancy_of ps f.frame.len ≤ needs (traffic class) j

-- The law: then they come, and no others, in a run of which the claim speaks, up to that moment. Its schedule is given at its beginning.
abbrev pub SharedRunsExist : Type 0
SharedRunsExist =
    (ps mtu room : ℕ) (change : Change) (traffic : ℕ → List ClassTraffic) (judged silent : ℕ → Bool) (came : List Came) (until : ℕ)
    → CanShare ps mtu room change traffic judged silent came until
    → (events : List Event) × (r : IsSharingRun ps mtu room (plan_asked change) traffic judged silent events)
    × ((class : ℕ) → offered ps mtu room class events ≡ frames_to (scheduled ps mtu room change) class came)
    × (end_of_run ps mtu room events ≡ until) × ((r.command).change ≡ in_force_from ps mtu room change)

-- 2. All of it can be met at once

-- By some schedule, whose gates shut at times, three classes are judged that share windows, so that of two of them one has one higher class,
-- and one has two; and frames of all eight come.
abbrev pub PremisesAreMet : Type 0
PremisesAreMet =
    (ps : ℕ) × (mtu : ℕ) × (room : ℕ) × (change : Change) × (traffic : ℕ → List ClassTraffic) × (bounds : ℕ → Bounds)
    × (judged : ℕ → Bool) × (silent : ℕ → Bool) × (came : List Came) × (until : ℕ)
    × AreJudged (plan_asked change) traffic bounds judged silent × CanShare ps mtu room change traffic judged silent came until
    × ((class : ℕ) → class < 8 → (u : ℕ) × (may_by (plan_asked change) class u 1 ≡ false))
    × ((class j : ℕ) → 5 ≤ class → class ≤ j → j < 8 → (judged class ≡ true) × Share (plan_asked change) class j)
    × ((class : ℕ) → class < 8 → (f : Came) × (slice_get (frames_to (scheduled ps mtu room change) class came) 0 ≡ Some f))
