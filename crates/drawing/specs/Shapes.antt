-- What is drawn of a run. Moments are in picoseconds.
use Rattle.std.specs.Prelude.{ℕ, ◌≡◌, ◌+◌, ◌-◌, ◌<◌, zero, suc, length, nat_lt, nat_le, ◌&&◌, Bool, List, [], ◌∷◌, Option, Some, None, slice_set, slice_index_or, if◌then◌else◌}
use Rattle.wire_time.specs.Moment.{greatest_moment}
use Rattle.abstract_port.specs.FrameCounts.{add_capped}
use Rattle.abstract_port.specs.declared.Start.{Start}
use Rattle.picture.specs.Drawn.{ClassLane, class_at}
use Rattle.picture.specs.Lanes.{Filled, no_shapes, pushed, joined_at}
use Rattle.picture.specs.declared.span.Shape.{Shape}
use Rattle.drawing.specs.declared.page.TheConstants.{LANES, WIRE}
use Rattle.drawing.specs.declared.view.View.{View}
use Rattle.drawing.specs.View.{shows}

-- 1. Lanes

-- nothing, in the lanes of eight classes and of the wire
abbrev pub empty_lanes : List Filled
empty_lanes = no_shapes ∷ no_shapes ∷ no_shapes ∷ no_shapes ∷ no_shapes ∷ no_shapes ∷ no_shapes ∷ no_shapes ∷ no_shapes ∷ []

-- what is drawn in a lane
abbrev pub lane_at : List Filled → ℕ → Filled
lane_at lanes lane = slice_index_or lanes lane no_shapes

-- one shape more in a lane, where something of it is shown
abbrev pub drawn_in : View → ℕ → Shape → List Filled → List Filled
drawn_in view lane shape lanes = if shows view shape.span then slice_set lanes lane (pushed shape (lane_at lanes lane)) else lanes

-- a frame, from one moment to another
abbrev pub shape_of : ℕ → ℕ → ℕ → Shape
shape_of from upto id = record { span = record { from = from; to = upto }; id = Some id }

-- 2. A run

-- The time that is shown; by lane, the frames on the wire, how long they wait, and those that were dropped; when the schedule changes; the
-- change of the last command, which a later one may replace; how many commands were accepted; and how long after it is given a command has its
-- lead moment.
pub record Shown : Type 0 where
  pub view : View
  pub frames : List Filled
  pub waits : List Filled
  pub drops : List Filled
  pub changes : Filled
  pub next : Option Shape
  pub accepted : ℕ
  pub lead : ℕ

-- nothing
abbrev pub nothing_shown : View → ℕ → Shown
nothing_shown view lead = record {
  view = view;
  frames = empty_lanes;
  waits = empty_lanes;
  drops = empty_lanes;
  changes = no_shapes;
  next = None;
  accepted = 0;
  lead = lead;
}

-- a frame of a class waits from its arrival to a later moment; its identifier is named where it has one
abbrev pub wait_drawn : View → ℕ → ℕ → ℕ → Option ℕ → List Filled → List Filled
wait_drawn view class came upto id lanes =
    if nat_lt came upto then drawn_in view class (record { span = record { from = came; to = upto }; id = id }) lanes else lanes

-- a frame has the wire from its start to its end, and is drawn in the lane of its class and in the wire's
abbrev pub frame_drawn : View → Start → List Filled → List Filled
frame_drawn view s lanes = drawn_in view WIRE (shape_of s.at s.«end» s.id) (drawn_in view s.class (shape_of s.at s.«end» s.id) lanes)

-- a start is drawn where its class has a lane, and its moment is at most the greatest: every port's start is such a one
abbrev pub is_drawn : Start → Bool
is_drawn s = nat_lt s.class WIRE && nat_le s.at greatest_moment

-- a frame that came at a moment starts
abbrev pub with_start : ℕ → Start → Shown → Shown
with_start came s x =
    if is_drawn s
    then record x { frames = frame_drawn x.view s x.frames; waits = wait_drawn x.view s.class came s.at (Some s.id) x.waits }
    else x

-- frames of a class that came at these moments still wait at another: their waits go on to it
unfoldable pub waits_on : ℕ → ℕ → List ℕ → Shown → Shown
waits_on class upto [] x = x
waits_on class upto (came ∷ rest) x = waits_on class upto rest (record x { waits = wait_drawn x.view class came upto None x.waits })

-- the lane of a class, or the wire's where there is none
abbrev pub lane_of : Option ℕ → ℕ
lane_of None = WIRE
lane_of (Some class) = if nat_lt class WIRE then class else WIRE

-- a frame was dropped when it came: it is marked in the lane of its class, or in the wire's where it has none
abbrev pub with_dropped : ℕ → Option ℕ → ℕ → Shown → Shown
with_dropped id class now x = record x { drops = drawn_in x.view (lane_of class) (shape_of now now id) x.drops }

-- a change, if there is one and it is shown; one after the greatest moment isn't drawn
abbrev pub change_drawn : View → Option Shape → Filled → Filled
change_drawn view None lane = lane
change_drawn view (Some s) lane = if nat_le s.span.from greatest_moment && shows view s.span then pushed s lane else lane

-- the change of a command, where it is in time: at or before the lead moment of the next command, which is given now; else that one replaces it
abbrev pub in_time : ℕ → ℕ → Option Shape → Option Shape
in_time lead now None = None
in_time lead now (Some s) = if nat_le (s.span.from - lead) now then Some s else None

-- one more command is accepted now: by it the schedule changes at a moment, and by the one before it, where that is in time
abbrev pub with_change : ℕ → ℕ → Shown → Shown
with_change now at x = record x {
  changes = change_drawn x.view (in_time x.lead now x.next) x.changes;
  next = Some (shape_of at at (add_capped x.accepted 1));
  accepted = add_capped x.accepted 1;
}

-- no command follows: the schedule changes by the last
abbrev pub with_last_change : Shown → Shown
with_last_change x = record x { changes = change_drawn x.view x.next x.changes; next = None }

-- 3. Too much for a picture

-- how many shapes there are in the first lanes
unfoldable pub shapes_to : ℕ → List Filled → ℕ
shapes_to zero lanes = 0
shapes_to (suc lane) lanes = shapes_to lane lanes + length (lane_at lanes lane).shapes

-- how many there are in all
abbrev pub shape_count : Shown → ℕ
shape_count x = shapes_to LANES x.frames + shapes_to LANES x.waits + shapes_to LANES x.drops + length x.changes.shapes

-- how many bands the first classes have, with the times at which they are mixed
unfoldable pub bands_to : ℕ → List ClassLane → List ClassLane → ℕ
bands_to zero classes mixed = 0
bands_to (suc class) classes mixed = bands_to class classes mixed + (length (class_at classes class).lane.shapes + length (class_at mixed class).lane.shapes)

-- neighbours in each lane are joined at a gap, and nothing else is different
pub record IsJoined (gap : ℕ) (old new : Shown) : Type 0 where
  pub frames : (lane : ℕ) → lane < LANES → lane_at new.frames lane ≡ joined_at gap (lane_at old.frames lane)
  pub waits : (lane : ℕ) → lane < LANES → lane_at new.waits lane ≡ joined_at gap (lane_at old.waits lane)
  pub drops : (lane : ℕ) → lane < LANES → lane_at new.drops lane ≡ joined_at gap (lane_at old.drops lane)
  pub changes : new.changes ≡ joined_at gap old.changes
  pub same : (new.view ≡ old.view) × (new.next ≡ old.next) × (new.accepted ≡ old.accepted) × (new.lead ≡ old.lead)
