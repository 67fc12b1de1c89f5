-- The shapes of a lane: where there are too many, neighbours that are close to one another are joined.
use Rattle.std.specs.Prelude.{◌≤◌, ℕ, ◌-◌, ◌*◌, ◌/◌, ◌&&◌, ◌||◌, not, is_some, Bool, false, true, min, max, nat_lt, nat_le, if◌then◌else◌, List, [], ◌∷◌, length, None}
use Rattle.wire_time.specs.Moment.{greatest_moment}
use Rattle.picture.specs.declared.TheConstants.{MAX_WIDTH, MOST_SHAPES}
use Rattle.picture.specs.declared.span.Shape.{Shape}

-- 1. Joining

-- how long it is from the end of a shape to the start of the next; 0 where they meet or overlap
abbrev pub distance : Shape → Shape → ℕ
distance a b = b.span.from - a.span.to

-- whether that is less than a gap, which no distance is where the gap is 0
abbrev pub is_near : ℕ → Shape → Shape → Bool
is_near gap a b = nat_lt (distance a b) gap

-- two shapes as one: from the start of the first to the later end
abbrev pub joined : Shape → Shape → Shape
joined a b = record { span = record { from = a.span.from; to = max a.span.to b.span.to }; id = None }

-- whether a shape is shorter than a gap, or joined already
abbrev pub is_short : ℕ → Shape → Bool
is_short gap s = not (is_some s.id) || nat_lt (s.span.to - s.span.from) gap

-- whether neighbours are joined at a gap: those that are near, or of those only the short
abbrev pub are_joined : ℕ → Bool → Shape → Shape → Bool
are_joined gap only_short a b = if only_short then is_near gap a b && (is_short gap a && is_short gap b) else is_near gap a b

-- a shape and those that follow it, where one is joined to what was joined before it by such a test
unfoldable pub join_by : (Shape → Shape → Bool) → Shape → List Shape → List Shape
join_by test a [] = a ∷ []
join_by test a (b ∷ rest) = if test a b then join_by test (joined a b) rest else a ∷ join_by test b rest

-- a list of shapes, so joined
abbrev pub join_all_by : (Shape → Shape → Bool) → List Shape → List Shape
join_all_by test [] = []
join_all_by test (a ∷ rest) = join_by test a rest

-- by whether they are near
abbrev pub join_from : ℕ → Shape → List Shape → List Shape
join_from gap a rest = join_by (are_joined gap false) a rest

abbrev pub join : ℕ → List Shape → List Shape
join gap shapes = join_all_by (are_joined gap false) shapes

-- one shape more at the end, joined to the last where it is near to it
unfoldable pub put : ℕ → List Shape → Shape → List Shape
put gap [] s = s ∷ []
put gap (a ∷ []) s = if is_near gap a s then joined a s ∷ [] else a ∷ s ∷ []
put gap (a ∷ b ∷ rest) s = a ∷ put gap (b ∷ rest) s

-- 2. Making room

-- the least distance of neighbours; where there are none, the greatest that there is
unfoldable pub least_distance : List Shape → ℕ
least_distance [] = greatest_moment
least_distance (a ∷ []) = greatest_moment
least_distance (a ∷ b ∷ rest) = min (least_distance (b ∷ rest)) (distance a b)

-- a gap at which some of these shapes are joined: twice the least distance, which is at least the gap so far
abbrev pub wider : List Shape → ℕ
wider shapes = max (2 * least_distance shapes) 1

-- shapes, and the gap at which they were joined; 0: none was
pub record Filled : Type 0 where
  pub shapes : List Shape
  pub gap : ℕ

-- shapes, joined at a wider gap where there are too many
abbrev pub roomy : ℕ → List Shape → Filled
roomy gap shapes =
    if nat_le (length shapes) MOST_SHAPES
    then record { shapes = shapes; gap = gap }
    else record { shapes = join (wider shapes) shapes; gap = wider shapes }

-- how long a pixel is at most that shows these shapes in the widest picture, to the end of the last, rounded down
abbrev pub pixel_to : ℕ → List Shape → ℕ
pixel_to upto [] = 0
pixel_to upto (a ∷ rest) = (upto - a.span.from) / MAX_WIDTH

-- where there are too many, the short are joined: those that no pixel shows apart
abbrev pub bunched : ℕ → List Shape → List Shape
bunched upto shapes = if nat_le (length shapes) MOST_SHAPES then shapes else join_all_by (are_joined (pixel_to upto shapes) true) shapes

-- a lane with one shape more
abbrev pub pushed : Shape → Filled → Filled
pushed s lane = roomy lane.gap (put lane.gap lane.shapes s)

-- a lane with one band more: where there are too many, bands that are as long as a pixel stay as they are
abbrev pub band_pushed : Shape → Filled → Filled
band_pushed s lane = roomy lane.gap (bunched s.span.to (put lane.gap lane.shapes s))

-- a lane whose neighbours are joined at a gap
abbrev pub joined_at : ℕ → Filled → Filled
joined_at gap lane = record { shapes = join gap lane.shapes; gap = max lane.gap gap }

-- no shapes yet
abbrev pub no_shapes : Filled
no_shapes = record { shapes = []; gap = 0 }

-- no shape starts after the greatest moment
abbrev pub AreEarly : List Shape → Type 0
AreEarly [] = Unit {0}
AreEarly (s ∷ rest) = (s.span.from ≤ greatest_moment) × AreEarly rest

-- shapes that a lane may have
pub record IsLane (shapes : List Shape) : Type 0 where
  pub few : length shapes ≤ MOST_SHAPES
  pub early : AreEarly shapes
