-- What holds of every port that is made here.
use Rattle.std.specs.Prelude.{◌≡◌, ◌≤◌, ℕ, ◌+◌, All, length}
use Rattle.wire_time.specs.declared.TheConstants.{MIN_MTU, MAX_MTU, MIN_PS_PER_OCTET}
use Rattle.wire_time.specs.Wire.{occupancy_of, lead_of}
use Rattle.wire_time.specs.declared.Frame.{Frame}
use Rattle.gates.specs.Current.{IsCurrent}
use Rattle.abstract_port.specs.Queue.{IsRoom}
use Rattle.abstract_port.specs.FrameCounts.{AreCounted}
use Rattle.abstract_port.specs.AbstractPort.{AbstractPort, queue_of}

-- an mtu that a port may have, in octets
abbrev pub IsMtu : ℕ → Type 0
IsMtu mtu = (MIN_MTU ≤ mtu) × (mtu ≤ MAX_MTU)

-- a frame takes the wire for the lead at most
abbrev pub FitsLead : ℕ → ℕ → Frame → Type 0
FitsLead ps mtu f = occupancy_of ps f.len ≤ lead_of ps mtu

-- All that holds of every port: a rate, an mtu and a room that there are; eight queues and eight counts; a history that can be at its moment and holds nothing that is past; each waiting frame takes the wire for the lead
-- at most, and the wire is free when the lead from now is over.
pub record IsSoundPort (p : AbstractPort) : Type 0 where
  pub rate : MIN_PS_PER_OCTET ≤ p.ps
  pub mtu : IsMtu p.mtu
  pub room : IsRoom p.room
  pub queues : length p.queues ≡ 8
  pub counts : AreCounted p.counts p.no_class
  pub current : IsCurrent p.history p.now
  pub fits : (class : ℕ) → All (FitsLead p.ps p.mtu) (queue_of p class)
  pub wire : p.free ≤ p.now + lead_of p.ps p.mtu
