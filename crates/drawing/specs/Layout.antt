-- Where the lanes and the labels of a picture lie.
use Rattle.std.specs.Prelude.{ℕ, ◌+◌, ◌-◌, ◌*◌, min, max, nat_lt, if◌then◌else◌}
use Rattle.drawing.specs.declared.page.Place.{Place}
use Rattle.drawing.specs.declared.page.TheConstants.{CLASS_TOP, HALF_CHARACTER, LANE_STEP, WIRE}

-- where a lane begins, in pixels from above: class 7 is the first, class 0 the eighth, and the wire the ninth
abbrev pub top_of : ℕ → ℕ
top_of lane = if nat_lt lane WIRE then CLASS_TOP + (7 - lane) * LANE_STEP else CLASS_TOP + WIRE * LANE_STEP

-- Where a part of a row lies that shows a time from one place to another: it is at least so wide, and does not go past the end of the row. All
-- are in hundredths of a pixel.
abbrev pub place_of : (end least left right : ℕ) → Place
place_of end least left right = let width = max (right - left) least in record { left = min left (end - width); width = width }

-- where the middle of a label of so many characters stands, in hundredths of a pixel, in a picture that is so many pixels wide: at its place,
-- or as near to it as the label is still whole
abbrev pub label_at : ℕ → ℕ → ℕ → ℕ
label_at width place characters = max (min place (100 * width - HALF_CHARACTER * characters)) (HALF_CHARACTER * characters)
