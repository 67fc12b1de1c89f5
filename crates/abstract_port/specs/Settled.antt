-- Settling: a port answers as the port that keeps of the history only the commands in force, pending and announced.
use Rattle.std.specs.Prelude.{◌≡◌, ◌≤◌, ℕ, List}
use Rattle.wire_time.specs.declared.TheConstants.{MIN_PS_PER_OCTET}
use Rattle.gates.specs.History.{Accepted, IsRising, ArePast}
use Rattle.abstract_port.specs.declared.Event.{Event}
use Rattle.abstract_port.specs.AbstractPort.{AbstractPort, settled}
use Rattle.abstract_port.specs.Answers.{answers_of, port_after}

-- a history as it can be at a moment: lead moments rise, and all but the last have come
pub record IsPossible (h : List Accepted) (m : ℕ) : Type 0 where
  pub rising : IsRising 0 h
  pub past : ArePast m h

-- a run from the port with what is kept answers as from the port itself, and ends at the same
pub record IsSettledRun (p : AbstractPort) (events : List Event) : Type 0 where
  pub answers_same : answers_of events (settled p) ≡ answers_of events p
  pub port_same : settled (port_after events (settled p)) ≡ settled (port_after events p)
  pub current : IsPossible (port_after events p).history (port_after events p).now

-- the law: every run of a port is such
abbrev pub IsSettling : Type 0
IsSettling = (p : AbstractPort) → MIN_PS_PER_OCTET ≤ p.ps → IsPossible p.history p.now → (events : List Event) → IsSettledRun p events
