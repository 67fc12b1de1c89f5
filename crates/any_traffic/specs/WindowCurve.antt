-- Periodic flows with jitter have arrival curves, too: so what is known by curves of a class holds of them.
use Rattle.std.specs.Prelude.{◌≤◌, ℕ, List, map}
use Rattle.wire_time.specs.declared.TheConstants.{MIN_MTU}
use Rattle.abstract_port.specs.declared.Event.{Event}
use Rattle.any_traffic.specs.ArrivalCurve.{ConformTo}
use Rattle.any_traffic.specs.PeriodicWindows.{ArePeriodic, ComeByFlows, PeriodicFlow}
use Rattle.any_traffic.specs.Runs.{offered}
use Rattle.any_traffic.specs.Sporadic.{Sporadic, curve_of_all}

-- a flow with windows, of which no more is known than how far its frames are apart
abbrev pub without_offset : PeriodicFlow → Sporadic
without_offset flow = record { need = flow.longest; period = flow.period; jitter = flow.jitter }

-- The law: where each frame that a queue is offered came in its window of a flow, they conform to the sum of the flows' curves.
abbrev pub WindowCurveLaw : Type 0
WindowCurveLaw =
    (ps mtu room class d change : ℕ) (flows : List PeriodicFlow) (numbers : List (ℕ × ℕ)) (events : List Event)
    → MIN_MTU ≤ mtu → ArePeriodic d flows → ComeByFlows ps change flows numbers (offered ps mtu room class events)
    → ConformTo ps d (curve_of_all (map without_offset flows)) (offered ps mtu room class events)
