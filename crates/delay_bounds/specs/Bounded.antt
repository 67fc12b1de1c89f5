-- What is answered of flows: their bounds, or why they have none.
use Rattle.std.specs.Prelude.{◌+◌, ◌*◌, ◌≡◌, ◌<◌, ◌≤◌, ℕ, max, Bool, true, false, List, length, Option, Some, None, IsSome, Result, Ok, Err}
use Rattle.wire_time.specs.Moment.{greatest_moment}
use Rattle.gates.specs.Gate.{Plan, in_ps}
use Rattle.delay_bounds.specs.Claim.{offsets_of, earliest, flow_at}
use Rattle.delay_bounds.specs.Bounds.{AreBounds, Track, from_on, first_fit, told_by}
use Rattle.delay_bounds.specs.ForEver.{counting, Recurs}
use Rattle.delay_bounds.specs.Overloaded.{IsOverloaded}
use Rattle.delay_bounds.specs.Stuck.{first_refused}
use Rattle.delay_bounds.specs.Walk.{may_by, begun, after}
use Rattle.delay_bounds.specs.declared.Bound.{Bound}
use Rattle.delay_bounds.specs.declared.Flow.{Flow}
use Rattle.delay_bounds.specs.declared.Told.{Told}
use Rattle.delay_bounds.specs.declared.FlowFrame.{FlowFrame}
use Rattle.delay_bounds.specs.declared.look.Look.{Look}
use Rattle.delay_bounds.specs.declared.look.Look.TheVariants.{Frames, First}
use Rattle.delay_bounds.specs.declared.line.Stop.{Stop}
use Rattle.delay_bounds.specs.declared.line.Stop.TheVariants as Stops
use Rattle.delay_bounds.specs.declared.Refused.{Refused}
use Rattle.delay_bounds.specs.declared.Unbound.{Unbound}
use Rattle.delay_bounds.specs.declared.Unbound.TheVariants.{Full, Never, Overloaded, Long, Late, Memory}

-- the greatest number of frames that ever wait at once, by a plan alone
pub record IsMost (plan : Plan) (class room : ℕ) (flows : List Flow) (most : ℕ) : Type 0 where
  pub within : (n : ℕ) (t : Told) → told_by plan class room flows n ≡ Some t → t.waiting ≤ most
  pub reached : (n : ℕ) × (t : Told) × (told_by plan class room flows n ≡ Some t) × (t.waiting ≡ most)

-- a frame of the flow comes then
abbrev pub ComesAt : Flow → ℕ → Type 0
ComesAt f t = (before : ℕ) × (t ≡ f.offset + f.period * before)

-- by a plan alone the frame is the next one there
pub record IsNext (plan : Plan) (class room : ℕ) (flows : List Flow) (f : FlowFrame) (z : Track) : Type 0 where
  pub there : after (may_by plan class) (in_ps plan.cycle) room flows f.earlier (begun (offsets_of flows)) ≡ Some z
  pub next : earliest z.nexts ≡ Some (f.moment, f.place)
  pub before : f.moment ≡ (flow_at flows f.place).offset + (flow_at flows f.place).period * f.before

-- to look from here on
abbrev pub is_from_here : Look → Bool
is_from_here Frames = true
is_from_here First = true
is_from_here _ = false

-- why flows have no bounds, where a walk stops at a frame, and where nothing starts any more this is the first to find no room
abbrev pub unbound_by : Stop → FlowFrame → Option Refused → Unbound
unbound_by Stops.Full f refused = Full f
unbound_by Stops.Never f refused = Never f refused
unbound_by Stops.Late f refused = Late

-- Why flows have no bounds: a frame finds no room; one finds room, but fits into no window of a cycle, and then this is the first to find none; so
-- many frames as may be were walked, and the class is overloaded; so many were; or a frame finds room, but can't start before the greatest moment.
abbrev pub IsUnbound : Plan → ℕ → ℕ → List Flow → ℕ → Unbound → Type 0
IsUnbound plan class room flows limit (Full f) = (z : Track) × IsNext plan class room flows f z × (room ≤ length (from_on f.moment z.starts))
IsUnbound plan class room flows limit (Never f refused) =
    (z : Track) × IsNext plan class room flows f z × (length (from_on f.moment z.starts) < room)
    × (first_fit (may_by plan class) (flow_at flows f.place).need (max f.moment z.free) (in_ps plan.cycle) ≡ None)
    × (refused ≡ first_refused room flows (counting z))
IsUnbound plan class room flows limit Overloaded =
    IsOverloaded plan class flows × IsSome (after (may_by plan class) (in_ps plan.cycle) room flows limit (begun (offsets_of flows)))
IsUnbound plan class room flows limit Long = IsSome (after (may_by plan class) (in_ps plan.cycle) room flows limit (begun (offsets_of flows)))
IsUnbound plan class room flows limit Late =
    (f : FlowFrame) × (z : Track) × IsNext plan class room flows f z × (length (from_on f.moment z.starts) < room) × (greatest_moment < max f.moment z.free)
IsUnbound plan class room flows limit Memory = Unit {0}

-- the bounds of each flow, the greatest number of frames that wait at once, and how many frames come in how long
pub record Answer : Type 0 where
  pub bounds : List Bound
  pub most : ℕ
  pub frames : ℕ
  pub every : ℕ

-- what an answer says of a plan alone
abbrev pub IsByPlan : Plan → ℕ → ℕ → List Flow → ℕ → Result Answer Unbound → Type 0
IsByPlan plan class room flows limit (Ok a) = AreBounds plan class room flows a.bounds × IsMost plan class room flows a.most × Recurs plan class room flows a.frames a.every
IsByPlan plan class room flows limit (Err why) = IsUnbound plan class room flows limit why

-- the bounds that it tells, or why there are none
abbrev pub told_bounds : Result Answer Unbound → Result (List Bound) Unbound
told_bounds (Ok a) = Ok a.bounds
told_bounds (Err why) = Err why
