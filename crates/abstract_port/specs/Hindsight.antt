-- Hindsight: a frame that starts finds its gate open for as long as it takes, by the commands of its time and by all later ones.
use Rattle.std.specs.Prelude.{◌≤◌, ℕ, ◌+◌, ◌-◌, IsTrue, List, [], ◌∷◌, ◌++◌, All}
use Rattle.wire_time.specs.declared.TheConstants.{MIN_PS_PER_OCTET, MIN_MTU}
use Rattle.wire_time.specs.Wire.{lead_of}
use Rattle.gates.specs.History.{Accepted, open_through}
use Rattle.abstract_port.specs.declared.Event.{Event}
use Rattle.abstract_port.specs.declared.Answer.{Answer}
use Rattle.abstract_port.specs.AbstractPort.{AbstractPort, queue_of}
use Rattle.abstract_port.specs.Sound.{FitsLead}
use Rattle.abstract_port.specs.Answers.{answers_of, port_after}
use Rattle.abstract_port.specs.declared.Answer.TheVariants as Answered

-- A port of a rate and an mtu that there are, whose waiting frames it has accepted: each takes the wire for the lead at most.
pub record IsFit (p : AbstractPort) : Type 0 where
  pub rate : MIN_PS_PER_OCTET ≤ p.ps
  pub mtu : MIN_MTU ≤ p.mtu
  pub fits : (class : ℕ) → All (FitsLead p.ps p.mtu) (queue_of p class)

-- a start finds its gate open up to its end
abbrev pub IsOpenBy : List Accepted → Answer → Type 0
IsOpenBy history (Answered.Start s) = IsTrue (open_through history s.class s.at (s.«end» - s.at))
IsOpenBy history _ = Unit {0}

-- commands that can be accepted from a moment on, with this lead moment or a later one
abbrev pub AreLater : ℕ → List Accepted → Type 0
AreLater e [] = Unit {0}
AreLater e (a ∷ rest) = (e ≤ a.lead) × (a.lead ≤ a.change) × AreLater e rest

-- Every start of a run finds its gate open up to its end: by the history at the end of the run, and by any that it can
-- become.
abbrev pub IsOpenInHindsight : AbstractPort → List Event → Type 0
IsOpenInHindsight p events =
    (later : List Accepted) → AreLater ((port_after events p).now + lead_of p.ps p.mtu) later
    → All (IsOpenBy ((port_after events p).history ++ later)) (answers_of events p)

-- the law: every run of a fit port is open in hindsight
abbrev pub IsHindsight : Type 0
IsHindsight = (p : AbstractPort) → IsFit p → (events : List Event) → IsOpenInHindsight p events
