-- The laws of bands and of lanes, each the promise of a function of its name.
use Rattle.std.specs.Prelude.{◌≡◌, ◌<◌, ◌≤◌, ℕ, ◌-◌, ◌*◌, ◌⊎◌, true, false, List, [], ◌∷◌, Option, Some, None, unwrap_or, length}
use Rattle.gates.specs.Gate.{opens}
use Rattle.gates.specs.Open.{open_while}
use Rattle.picture.specs.declared.TheConstants.{MAX_WIDTH, MOST_SHAPES}
use Rattle.picture.specs.declared.span.Span.{Span}
use Rattle.picture.specs.declared.span.Shape.{Shape}
use Rattle.picture.specs.Bands.{Going}
use Rattle.picture.specs.Lanes.{Filled, distance, is_short, join, pushed}

-- 1. Bands

-- A class may begin to be open at m: that is where the drawing began, or just before it was closed.
abbrev pub MayBegin : (ℕ → ℕ) → ℕ → ℕ → ℕ → Type 0
MayBegin masks class start m = (m ≡ start) ⊎ ((start < m) × (opens (masks (m - 1)) class ≡ false))

-- a class is open from one moment on and before another, and that is as early as it can begin
pub record IsOpenSince (masks : ℕ → ℕ) (class start from m : ℕ) : Type 0 where
  pub within : start ≤ from
  pub some : from < m
  pub through : open_while masks class from (m - from) ≡ true
  pub begins : MayBegin masks class start from

-- A band is a longest time for which its class stays open, of the moments from `start` on and before m: open throughout, closed at its
-- end, and closed just before it where the drawing did not begin there.
pub record IsLongest (masks : ℕ → ℕ) (class start m : ℕ) (band : Span) : Type 0 where
  pub opened : IsOpenSince masks class start band.from band.to
  pub ends : opens (masks band.to) class ≡ false
  pub before : band.to < m

-- each band is
abbrev pub AreLongest : (ℕ → ℕ) → ℕ → ℕ → ℕ → List Span → Type 0
AreLongest masks class start m [] = Unit {0}
AreLongest masks class start m (band ∷ rest) = IsLongest masks class start m band × AreLongest masks class start m rest

-- a moment lies in one of the bands
abbrev pub LiesIn : ℕ → List Span → Type 0
LiesIn k [] = ⊥
LiesIn k (band ∷ rest) = ((band.from ≤ k) × (k < band.to)) ⊎ LiesIn k rest

-- The band that runs at m, if one does, is longest so far; where none runs one may begin.
abbrev pub RunsSo : (ℕ → ℕ) → ℕ → ℕ → ℕ → Option ℕ → Type 0
RunsSo masks class start m None = MayBegin masks class start m
RunsSo masks class start m (Some from) = IsOpenSince masks class start from m

-- a moment is one of the band that runs
abbrev pub RunsAt : ℕ → Option ℕ → Type 0
RunsAt k None = ⊥
RunsAt k (Some from) = from ≤ k

-- Each band ends at the start of the next or before it, and the last at m or before it.
abbrev pub AreInOrder : List Span → ℕ → Type 0
AreInOrder [] m = Unit {0}
AreInOrder (a ∷ []) m = a.to ≤ m
AreInOrder (a ∷ b ∷ rest) m = (a.to ≤ b.from) × AreInOrder (b ∷ rest) m

-- The bands of the moments from `start` on and before m are the longest times for which the class is open: each is one, they are in order, and each moment
-- at which the class is open lies in one of them or in the band that runs.
pub record AreBands (masks : ℕ → ℕ) (class start m : ℕ) (g : Going) : Type 0 where
  pub onward : start ≤ m
  pub runs : RunsSo masks class start m g.since
  pub complete : AreLongest masks class start m g.bands
  pub ordered : AreInOrder g.bands (unwrap_or g.since m)
  pub all : (k : ℕ) → start ≤ k → k < m → opens (masks k) class ≡ true → LiesIn k g.bands ⊎ RunsAt k g.since

-- 2. Lanes

-- shapes that are put into a lane, one after another
unfoldable pub push_shapes : List Shape → Filled → Filled
push_shapes [] lane = lane
push_shapes (s ∷ rest) lane = push_shapes rest (pushed s lane)

-- neighbours are so far from one another
abbrev pub AreApart : ℕ → List Shape → Type 0
AreApart gap [] = Unit {0}
AreApart gap (a ∷ []) = Unit {0}
AreApart gap (a ∷ b ∷ rest) = (gap ≤ distance a b) × AreApart gap (b ∷ rest)

-- no shape starts before the one in front of it
abbrev pub AreRising : List Shape → Type 0
AreRising [] = Unit {0}
AreRising (a ∷ []) = Unit {0}
AreRising (a ∷ b ∷ rest) = (a.span.from ≤ b.span.from) × AreRising (b ∷ rest)

-- each shape ends at its start or after it
abbrev pub AreForward : List Shape → Type 0
AreForward [] = Unit {0}
AreForward (a ∷ rest) = (a.span.from ≤ a.span.to) × AreForward rest

-- the start of the last shape, after one
abbrev pub last_start : Shape → List Shape → ℕ
last_start a [] = a.span.from
last_start a (b ∷ rest) = last_start b rest

-- how long it is from the start of the first shape to that of the last
abbrev pub extent : List Shape → ℕ
extent [] = 0
extent (a ∷ rest) = last_start a rest - a.span.from

-- A gap is a picosecond at most, at which only shapes that touch or overlap are joined, or no longer than a pixel of a picture that has
-- these shapes in its width.
abbrev pub IsNarrow : ℕ → List Shape → Type 0
IsNarrow gap shapes = (gap ≤ 1) ⊎ (gap * MAX_WIDTH ≤ extent shapes)

-- A lane has these shapes: at most so many, which are those, with neighbours joined at its gap; and where they come by rising start the
-- gap is narrow.
pub record IsLaneOf (shapes : List Shape) (lane : Filled) : Type 0 where
  pub joined : lane.shapes ≡ join lane.gap shapes
  pub few : length lane.shapes ≤ MOST_SHAPES
  pub narrow : AreRising shapes → AreForward shapes → IsNarrow lane.gap shapes

-- the whole time of a shape lies in that of one of others
abbrev pub IsWithin : Shape → List Shape → Type 0
IsWithin s [] = ⊥
IsWithin s (a ∷ rest) = ((a.span.from ≤ s.span.from) × (s.span.to ≤ a.span.to)) ⊎ IsWithin s rest

abbrev pub AreWithin : List Shape → List Shape → Type 0
AreWithin [] others = Unit {0}
AreWithin (s ∷ rest) others = IsWithin s others × AreWithin rest others

-- a shape is one of others
abbrev pub IsOneOf : Shape → List Shape → Type 0
IsOneOf s [] = ⊥
IsOneOf s (a ∷ rest) = (s ≡ a) ⊎ IsOneOf s rest

-- each is one of others, or is named after no frame
abbrev pub AreOwn : List Shape → List Shape → Type 0
AreOwn [] others = Unit {0}
AreOwn (s ∷ rest) others = ((s.id ≡ None) ⊎ IsOneOf s others) × AreOwn rest others

-- What joining does to shapes. At a gap of 0 nothing; else neighbours are at least the gap from one another. No shape has a frame's
-- name but one that was there so, and of shapes by rising start each lies within one of those that are left.
pub record Joins (gap : ℕ) (shapes : List Shape) : Type 0 where
  pub unchanged : join 0 shapes ≡ shapes
  pub apart : AreApart gap (join gap shapes)
  pub own : AreOwn (join gap shapes) shapes
  pub whole : AreRising shapes → AreWithin shapes (join gap shapes)

-- each of these shapes is shorter than a gap or joined already, or one of others
abbrev pub AreLongKept : ℕ → List Shape → List Shape → Type 0
AreLongKept gap [] others = Unit {0}
AreLongKept gap (s ∷ rest) others = ((is_short gap s ≡ true) ⊎ IsOneOf s others) × AreLongKept gap rest others
