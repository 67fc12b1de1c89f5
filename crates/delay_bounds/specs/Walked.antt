-- What `bound_flows` answers, exactly: the walk over the frames of flows, frame after frame, until its state comes again.
use Rattle.std.specs.Prelude.{ℕ, ◌<◌, All, ◌+◌, ◌-◌, ◌%◌, ◌==◌, zero, suc, max, Bool, true, false, ◌&&◌, if◌then◌else◌, nat_lt, nat_le, List, [], ◌∷◌, length, map, Option, Some, None, is_some, Result, Ok, Err}
use Rattle.std.specs.Option.{option_map_or}
use Rattle.wire_time.specs.Moment.{greatest_moment}
use Rattle.gates.specs.Gate.{Plan, IsSchedule, in_ps}
use Rattle.delay_bounds.specs.Claim.{IsFlow, earliest, flow_at, offsets_of}
use Rattle.delay_bounds.specs.Bounds.{Track, arrives, first_fit}
use Rattle.delay_bounds.specs.Backlog.{followed, no_backlog, taken_at, unended}
use Rattle.delay_bounds.specs.Bounded.{Answer, IsByPlan, is_from_here, told_bounds, unbound_by}
use Rattle.delay_bounds.specs.ForEver.{counting}
use Rattle.delay_bounds.specs.Noted.{noted, unseen}
use Rattle.delay_bounds.specs.Stuck.{before_of, first_refused}
use Rattle.delay_bounds.specs.Walk.{begun, may_by}
use Rattle.delay_bounds.specs.declared.Bound.{Bound}
use Rattle.delay_bounds.specs.declared.Flow.{Flow}
use Rattle.delay_bounds.specs.declared.FlowFrame.{FlowFrame}
use Rattle.delay_bounds.specs.declared.Told.{Told}
use Rattle.delay_bounds.specs.declared.Unbound.{Unbound}
use Rattle.delay_bounds.specs.declared.Unbound.TheVariants.{Long}
use Rattle.delay_bounds.specs.declared.look.Backlog.{Backlog}
use Rattle.delay_bounds.specs.declared.look.Look.{Look}
use Rattle.delay_bounds.specs.declared.look.Look.TheVariants as Looks
use Rattle.delay_bounds.specs.declared.line.Stop.{Stop}
use Rattle.delay_bounds.specs.declared.line.Stop.TheVariants as Stops

-- Where a walk stands after so many frames: its track, the bounds and the most so far; where it looks back to: after how many frames that
-- was, when the next one came, and the track then; and its backlog.
pub record Walking : Type 0 where
  pub frames : ℕ
  pub track : Track
  pub bounds : List Bound
  pub most : ℕ
  pub earlier : ℕ
  pub since : ℕ
  pub base : Track
  pub backlog : Backlog

-- 1. Looking back

-- whether moments are others, each so much later
unfoldable pub are_later : ℕ → List ℕ → List ℕ → Bool
are_later d [] [] = true
are_later d [] (y ∷ ys) = false
are_later d (x ∷ xs) [] = false
are_later d (x ∷ xs) (y ∷ ys) = x == y + d && are_later d xs ys

-- whether a track is another one, so much later
abbrev pub is_later : ℕ → Track → Track → Bool
is_later d new old = new.free == old.free + d && are_later d new.nexts old.nexts && are_later d new.starts old.starts

-- the latest first frame of all flows
unfoldable pub last_offset : List Flow → ℕ
last_offset [] = 0
last_offset (f ∷ rest) = max f.offset (last_offset rest)

-- whether the frames of a track whose next one comes at t come as those of one whose next came at `since`, whole cycles before
abbrev pub comes_again : ℕ → ℕ → ℕ → Track → Track → Bool
comes_again cycle since t new old = nat_lt since t && (t - since) % cycle == 0 && are_later (t - since) new.nexts old.nexts

-- What comes of a look at a track whose next frame comes at t, beside one whose next frame came at `since`: it is the same, whole cycles later;
-- or only the frames come as they did; or the first ones of all flows have come; or none of these.
abbrev pub look : ℕ → ℕ → ℕ → ℕ → Track → Track → Look
look cycle last since t new old =
    if comes_again cycle since t new old
    then (if is_later (t - since) new old then Looks.Again else Looks.Frames)
    else if nat_lt since last && nat_le last t then Looks.First else Looks.On

-- 2. A frame

-- why a frame doesn't start that comes at t, where these frames wait
abbrev pub stop_of : (ℕ → ℕ → Bool) → ℕ → ℕ → ℕ → Flow → ℕ → List ℕ → Option Stop
stop_of may cycle room t flow free waiting =
    if nat_le room (length waiting) then Some Stops.Full
    else if nat_lt greatest_moment (max t free) then Some Stops.Late
    else if is_some (first_fit may flow.need (max t free) cycle) then None
    else Some Stops.Never

-- the frame of the flow at a place that comes at a moment, after so many of all flows
abbrev pub frame_of : List Flow → ℕ × ℕ → ℕ → FlowFrame
frame_of flows e earlier = record { place = e.1; before = before_of (flow_at flows e.1) e.0; earlier = earlier; moment = e.0 }

-- 3. The walk

module _ (plan : Plan) (class room : ℕ) (flows : List Flow) where
  -- one frame more, as it is told of
  abbrev pub with_told : (Walking → Result Answer Unbound) → Walking → Option (Told × Track) → Result Answer Unbound
  with_told on w None = Err Long
  with_told on w (Some r) = on (record { frames = w.frames + 1; track = r.1; bounds = noted r.0 w.bounds; most = max (r.0).waiting w.most; earlier = w.earlier; since = w.since; base = w.base; backlog = w.backlog })

  -- the next frame starts, or the walk stops there
  abbrev pub by_stop : (Walking → Result Answer Unbound) → ℕ × ℕ → Track → Walking → Option Stop → Result Answer Unbound
  by_stop on e new w (Some stop) = Err (unbound_by stop (frame_of flows e w.frames) (first_refused room flows new))
  by_stop on e new w None = with_told on w (arrives (may_by plan class) (in_ps plan.cycle) room e.0 e.1 (flow_at flows e.1) new.free new.nexts new.starts)

  abbrev pub goes_on : (Walking → Result Answer Unbound) → ℕ × ℕ → Track → Walking → Result Answer Unbound
  goes_on on e new w = by_stop on e new w (stop_of (may_by plan class) (in_ps plan.cycle) room e.0 (flow_at flows e.1) new.free new.starts)

  -- where it stands behind a look, at which the next frame has come
  abbrev pub moved : Look → ℕ × ℕ → Track → Walking → Walking
  moved l e new w = record {
    frames = w.frames;
    track = w.track;
    bounds = w.bounds;
    most = w.most;
    earlier = if is_from_here l then w.frames else w.earlier;
    since = if is_from_here l then e.0 else w.since;
    base = if is_from_here l then new else w.base;
    backlog = followed (in_ps plan.cycle) l (taken_at e.0 new) w.backlog;
  }

  -- by a look back
  abbrev pub by_look : (Walking → Result Answer Unbound) → ℕ × ℕ → Track → Walking → Look → Result Answer Unbound
  by_look on e new w Looks.Again = Ok (record { bounds = w.bounds; most = w.most; frames = w.frames - w.earlier; every = e.0 - w.since })
  by_look on e new w l = goes_on on e new (moved l e new w)

  -- by the next frame
  abbrev pub by_next : (Walking → Result Answer Unbound) → Walking → Track → Option (ℕ × ℕ) → Result Answer Unbound
  by_next on w new None = Err Long
  by_next on w new (Some e) = by_look on e new w (look (in_ps plan.cycle) (last_offset flows) w.since e.0 new w.base)

  -- from where a walk stands, after so many frames more at most
  unfoldable pub walked : ℕ → Walking → Result Answer Unbound
  walked zero w = Err (unended w.backlog)
  walked (suc n) w = by_next (walked n) w (counting w.track) (earliest w.track.nexts)

-- before any frame
abbrev pub starting : List Flow → Walking
starting flows = record {
  frames = 0;
  track = begun (offsets_of flows);
  bounds = map (λ f. unseen) flows;
  most = 0;
  earlier = 0;
  since = option_map_or (λ e. e.0) (earliest (offsets_of flows)) 0;
  base = counting (begun (offsets_of flows));
  backlog = no_backlog;
}

-- the answer about the flows of a class in a plan, by a walk over so many frames at most: their bounds, or why they have none
abbrev pub answer_of : Plan → ℕ → ℕ → List Flow → ℕ → Result Answer Unbound
answer_of plan class room flows limit = walked plan class room flows limit (starting flows)

-- the bounds that are answered, or why there are none
abbrev pub bounds_answered : Plan → ℕ → ℕ → List Flow → ℕ → Result (List Bound) Unbound
bounds_answered plan class room flows limit = told_bounds (answer_of plan class room flows limit)

-- The law: what is answered says this of the plan alone.
abbrev pub PlanLaw : Type 0
PlanLaw = (plan : Plan) (class room limit : ℕ) (flows : List Flow) → IsSchedule plan → 0 < length flows → All IsFlow flows → IsByPlan plan class room flows limit (answer_of plan class room flows limit)
