-- The frames of one flow as they come to a port.
use Rattle.std.specs.Prelude.{◌≡◌, ◌⊎◌, ℕ, ◌+◌, ◌-◌, ◌^◌, min, List, [], ◌∷◌, None}
use denote.Bor.{Bor}
use Rattle.wire_time.specs.Wire.{occupancy_of}
use Rattle.wire_time.specs.declared.Frame.{Frame}
use Rattle.abstract_port.specs.declared.Command.{Command}
use Rattle.abstract_port.specs.declared.Command.TheVariants.{Replace}
use Rattle.abstract_port.specs.declared.Change.{Change}
use Rattle.abstract_port.specs.declared.Event.{Event}
use Rattle.abstract_port.specs.declared.Event.TheVariants.{Install}
use Rattle.abstract_port.specs.AbstractPort.{AbstractPort, new_command, new_port, plan_asked, refusal}
use Rattle.abstract_port.specs.Answers.{answers_to}
use Rattle.abstract_port.specs.Traffic.{Came, offered_by, offered_in}
use Rattle.delay_bounds.specs.Claim.{AreComing, IsRun, coming}
use Rattle.delay_bounds.specs.declared.Flow.{Flow}

-- 1. Events

-- a frame that comes now
abbrev pub came_now : AbstractPort → Frame → Came
came_now p f = record { moment = p.now; frame = f }

-- no command is accepted at an event
abbrev pub IsRefused : Event → AbstractPort → Type 0
IsRefused (Install c) p = refusal p c.now ≡ None → ⊥
IsRefused _ p = Unit {0}

-- no command is accepted in a run
abbrev pub AreRefused : List Event → AbstractPort → Type 0
AreRefused [] p = Unit {0}
AreRefused (event ∷ rest) p = IsRefused event p × AreRefused rest (answers_to event p).1

-- a frame of this length that comes now is the flow's next, which was to come so long after the change moment
abbrev pub IsDue : ℕ → ℕ → Flow → ℕ → ℕ → ℕ → Type 0
IsDue ps change flow next now len = (now ≡ change + next) × (occupancy_of ps len ≡ flow.need)

-- a time as a u128 has it, which is at most the greatest
abbrev pub capped : ℕ → ℕ
capped time = min time (2 ^ 128 - 1)

-- At an event no frame is offered, and the flow's next comes as before; or that is offered, and the one behind it comes a period later.
abbrev pub IsNextAt : ℕ → ℕ → ℕ → Flow → Event → AbstractPort → ℕ → ℕ → Type 0
IsNextAt ps class change flow event p next then =
    ((offered_by class event p ≡ []) × (then ≡ next))
    ⊎ ((f : Frame) × (offered_by class event p ≡ came_now p f ∷ []) × IsDue ps change flow next p.now f.len × (then ≡ capped (next + flow.period)))

-- At an event a command is accepted, or another frame is offered.
abbrev pub IsOtherAt : ℕ → ℕ → ℕ → Flow → Event → AbstractPort → ℕ → Type 0
IsOtherAt ps class change flow event p next =
    (IsRefused event p → ⊥) ⊎ ((f : Frame) × (offered_by class event p ≡ came_now p f ∷ []) × (IsDue ps change flow next p.now f.len → ⊥))

-- 2. Runs

-- The frames that the queue is offered in a run are the first of the flow, from that on which comes at `next`, and no command is accepted.
pub record AreNext (ps class change : ℕ) (flow : Flow) (next : ℕ) (events : List Event) (p : AbstractPort) : Type 0 where
  pub refused : AreRefused events p
  pub count : ℕ
  pub come : AreComing ps change (flow ∷ []) (coming (flow ∷ []) count (next ∷ [])) (offered_in class events p)

-- A command is accepted, and no other behind it; and the frames that the queue is offered then are the first of the flow.
abbrev pub IsFlowIn : ℕ → ℕ → Flow → Bor Command → List Event → AbstractPort → Type 0
IsFlowIn ps class flow command events p =
    (refusal p command.now ≡ None) × AreNext ps class (new_command p command.now).change flow flow.offset events (answers_to (Install command) p).1

-- Events that begin with a schedule which a new port accepts are a run of which the claim about the flow speaks.
pub record IsRunOf (ps mtu room class : ℕ) (command : Command) (flow : Flow) (events : List Event) : Type 0 where
  pub change : Change
  pub given : command ≡ Replace change
  pub accepted : refusal (new_port ps mtu room) command ≡ None
  pub count : ℕ
  pub run : IsRun ps mtu room class (plan_asked change) (flow ∷ []) count events
