-- A frame that comes at any moment, when no other frame of its class waits or is sent: how long it waits at most.
use Rattle.std.specs.Prelude.{◌≡◌, ◌<◌, ◌≤◌, ℕ, ◌+◌, List, [], ◌∷◌, Some}
use Rattle.wire_time.specs.declared.TheConstants.{MIN_PS_PER_OCTET, MIN_MTU}
use Rattle.wire_time.specs.Wire.{occupancy_of}
use Rattle.gates.specs.Gate.{Plan}
use Rattle.gates.specs.History.{Accepted}
use Rattle.abstract_port.specs.declared.Start.{Start}
use Rattle.abstract_port.specs.declared.Event.{Event}
use Rattle.abstract_port.specs.AbstractPort.{new_port}
use Rattle.abstract_port.specs.Answers.{answers_of}
use Rattle.abstract_port.specs.Laws.{starts_in}
use Rattle.abstract_port.specs.Separation.{IsKeptApart}
use Rattle.abstract_port.specs.Served.{IsFirst}
use Rattle.abstract_port.specs.Traffic.{Came, IsOnly, queued_in, starts_of_class}
use Rattle.delay_bounds.specs.Walk.{may_by}

-- The longest time, in picoseconds, until a class may have the wire for d, by a plan alone: from any moment on it may within this time, and from some
-- moment on not before.
pub record IsLongestWait (plan : Plan) (class d wait : ℕ) : Type 0 where
  pub within : (t : ℕ) → (s : ℕ) × IsFirst (may_by plan class) d t s × (s ≤ t + wait)
  pub reached : (t : ℕ) × IsFirst (may_by plan class) d t (t + wait)

-- Of frames that came and started, where the frame before them had left the wire by a moment: each that comes then or later, from the change moment on,
-- and needs the wire for d, starts within a time of its arrival.
abbrev pub AreSoon : (ps change d wait free : ℕ) → List Came → List Start → Type 0
AreSoon ps change d wait free came [] = Unit {0}
AreSoon ps change d wait free [] (x ∷ starts) = ⊥
AreSoon ps change d wait free (f ∷ came) (x ∷ starts) =
    (change ≤ f.moment → free ≤ f.moment → occupancy_of ps f.frame.len ≡ d → x.at ≤ f.moment + wait) × AreSoon ps change d wait x.«end» came starts

-- The law: in every run in which one schedule is accepted, which keeps the class apart, a frame that comes when no other of its class waits or is
-- sent starts within the longest wait of its plan, whatever comes when and whatever the other classes send.
abbrev pub AnyMomentLaw : Type 0
AnyMomentLaw =
    (ps mtu room class d wait : ℕ) (a : Accepted) (plan : Plan) (events : List Event)
    → MIN_PS_PER_OCTET ≤ ps → MIN_MTU ≤ mtu → class < 8 → a.plan ≡ Some plan → 0 < plan.cycle
    → IsKeptApart class events (new_port ps mtu room) → IsOnly a events (new_port ps mtu room) → IsLongestWait plan class d wait
    → AreSoon ps a.change d wait 0 (queued_in class events (new_port ps mtu room)) (starts_of_class class (starts_in (answers_of events (new_port ps mtu room))))
