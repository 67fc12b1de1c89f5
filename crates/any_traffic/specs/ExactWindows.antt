-- Exact traffic is the special case of windows with no jitter, and frames of one length: the late run is then the exact walk of
-- `delay_bounds`.
use Rattle.std.specs.Prelude.{◌≡◌, ◌<◌, ◌≤◌, ℕ, ◌+◌, List, map, Some, slice_get}
use Rattle.gates.specs.Gate.{Plan}
use Rattle.abstract_port.specs.declared.Event.{Event}
use Rattle.delay_bounds.specs.Bounds.{told_by}
use Rattle.delay_bounds.specs.Claim.{IsFrame, IsRun}
use Rattle.delay_bounds.specs.Waits.{AreAllTold}
use Rattle.delay_bounds.specs.Walk.{may_by}
use Rattle.delay_bounds.specs.declared.Flow.{Flow}
use Rattle.delay_bounds.specs.declared.Told.{Told}
use Rattle.any_traffic.specs.PeriodicWindows.{ComeByFlows, IsLateStart, PeriodicFlow}
use Rattle.any_traffic.specs.Runs.{offered}

-- an exact flow, as one with windows
abbrev pub as_periodic : Flow → PeriodicFlow
as_periodic flow = record { offset = flow.offset; period = flow.period; jitter = 0; shortest = flow.need; longest = flow.need }

-- The law: where every frame of the flows finds room and starts by the plan alone, the late start at the moment at which one comes is the
-- exact one of the last frame that comes then: its moment and its wait.
abbrev pub ExactLaw : Type 0
ExactLaw =
    (plan : Plan) (class room d k place moment other later : ℕ) (flows : List Flow) (t : Told)
    → ((i : ℕ) (flow : Flow) → slice_get flows i ≡ Some flow → (0 < flow.period) × (flow.need ≡ d)) → AreAllTold plan class room flows
    → IsFrame flows k place moment → IsFrame flows (k + 1) other later → moment < later → told_by plan class room flows k ≡ Some t
    → IsLateStart (may_by plan class) d (map as_periodic flows) moment (moment + t.wait)

-- the frames of a flow with windows, if they all come at their earliest, and have the longest length
abbrev pub at_earliest : PeriodicFlow → Flow
at_earliest flow = record { need = flow.longest; period = flow.period; offset = flow.offset }

-- The premises can be met: a run of which the exact claim speaks, with those frames, is one of the flows with windows
-- (`premises::bounds::is_run` finds such runs).
abbrev pub ExactRunLaw : Type 0
ExactRunLaw =
    (ps mtu room class n : ℕ) (plan : Plan) (flows : List PeriodicFlow) (events : List Event)
    (r : IsRun ps mtu room class plan (map at_earliest flows) n events)
    → ((i : ℕ) (flow : PeriodicFlow) → slice_get flows i ≡ Some flow → (0 < flow.period) × (flow.shortest ≤ flow.longest))
    → (numbers : List (ℕ × ℕ)) × ComeByFlows ps (r.command).change flows numbers (offered ps mtu room class events)
