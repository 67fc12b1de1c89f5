-- When there are runs of which the claim about flows speaks.
--
-- The claim (delay_bounds/specs/Claim.antt) is of every run of a kind, and would hold of any answer where there are none. So each premise here is one
-- that the standard, a port's limits or the claim ask, and none is more.
use Rattle.std.specs.Prelude.{◌≡◌, ◌<◌, ◌≤◌, ℕ, ◌+◌, ◌-◌, List, ◌∷◌, All, Some, None, slice_get}
use denote.Bor.{Bor}
use Rattle.wire_time.specs.Moment.{greatest_moment}
use Rattle.wire_time.specs.Wire.{occupancy_of, sdu_of}
use Rattle.wire_time.specs.declared.Frame.{Frame}
use Rattle.wire_time.specs.declared.TheConstants.{MIN_PS_PER_OCTET, MIN_MTU}
use Rattle.gates.specs.Gate.{Plan}
use Rattle.abstract_port.specs.AbstractPort.{AbstractPort, after_command, class_for, limit_of, new_command, new_port, plan_asked, refusal}
use Rattle.abstract_port.specs.declared.Change.{Change}
use Rattle.abstract_port.specs.declared.Command.{Command}
use Rattle.abstract_port.specs.declared.Command.TheVariants.{Replace, Delete}
use Rattle.abstract_port.specs.declared.Event.{Event}
use Rattle.abstract_port.specs.declared.Event.TheVariants.{Install}
use Rattle.abstract_port.specs.Separation.{IsApart}
use Rattle.delay_bounds.specs.Claim.{IsRun, coming, offsets_of}
use Rattle.delay_bounds.specs.declared.Flow.{Flow}

-- a frame that a port takes into a class, where there is room, and that occupies the wire for so long
pub record IsTaken (p : AbstractPort) (class need : ℕ) : Type 0 where
  pub frame : Frame
  -- its priority leads to the class (IEEE Std 802.1Q-2018, 8.6.6)
  pub leads : class_for p frame.priority ≡ Some class
  -- it is as long as its header at least
  pub sdu : ℕ
  pub whole : sdu_of frame ≡ Some sdu
  -- what follows the header is within the mtu, and within the limit of the class, if it has one (queueMaxSDUTable, 12.29.1)
  pub short : sdu ≤ p.mtu
  pub limited : 0 < limit_of p class → sdu ≤ limit_of p class
  pub lasts : occupancy_of p.ps frame.len ≡ need

-- a new port that has accepted a schedule
abbrev pub scheduled : ℕ → ℕ → ℕ → Change → AbstractPort
scheduled ps mtu room change = after_command (new_port ps mtu room) (Replace change)

-- the moment from which that schedule is in force
abbrev pub in_force_from : ℕ → ℕ → ℕ → Change → ℕ
in_force_from ps mtu room change = (new_command (new_port ps mtu room) (Replace change)).change

-- So many frames of flows can come to a new port, in a class that its schedule keeps apart.
pub record CanCome (ps mtu room class : ℕ) (change : Change) (flows : List Flow) (n : ℕ) : Type 0 where
  -- the port is of a rate and an mtu that there are
  pub rate : MIN_PS_PER_OCTET ≤ ps
  pub large : MIN_MTU ≤ mtu
  -- it accepts the schedule (8.6.9.3), which keeps the class apart: so the claim asks
  pub accepted : refusal (new_port ps mtu room) (Replace change) ≡ None
  pub apart : IsApart class (Replace change)
  -- then it takes frames of each flow into the class
  pub taken : All (λ f. IsTaken (scheduled ps mtu room change) class f.need) flows
  -- the last of the frames comes at a moment that the port's clock can have
  pub last : (moment place : ℕ) → slice_get (coming flows n (offsets_of flows)) (n - 1) ≡ Some (moment, place) → in_force_from ps mtu room change + moment ≤ greatest_moment

-- The law: where the frames can come, there is a run in which they do.
abbrev pub RunsExist : Type 0
RunsExist =
    (ps mtu room class n : ℕ) (change : Change) (flows : List Flow) → CanCome ps mtu room class change flows n
    → (events : List Event) × IsRun ps mtu room class (plan_asked change) flows n events

-- No run begins with a deletion: it has no plan, and keeps no class apart.
abbrev pub NoneDeletes : Type 0
NoneDeletes =
    (ps mtu room class : ℕ) (plan : Plan) (n : ℕ) (flows : List Flow) (command : Bor Command) (events : List Event) → command.now ≡ Delete
    → IsRun ps mtu room class plan flows n (Install command ∷ events) → ⊥
