-- Where times lie in a viewport.
use Rattle.std.specs.Prelude.{ℕ, ◌-◌, ◌*◌, ◌/◌, ◌+◌, ◌%◌, ◌==◌, ◌&&◌, min, max, nat_lt, nat_le, if◌then◌else◌, Option, Some, None}
use Rattle.wire_time.specs.Moment.{greatest_moment}
use Rattle.picture.specs.declared.TheConstants.{MIN_WIDTH, MAX_WIDTH}
use Rattle.picture.specs.declared.span.Span.{Span}
use Rattle.picture.specs.Pane.{Pane}

-- the viewport of two moments and a width, where each is within its limits
abbrev pub viewport_of : ℕ → ℕ → ℕ → Option Pane
viewport_of from to width =
    if nat_lt from to && nat_le to greatest_moment && nat_le MIN_WIDTH width && nat_le width MAX_WIDTH
    then Some (record { from = from; to = to; width = width })
    else None

-- a moment, taken into a viewport
abbrev pub taken_in : Pane → ℕ → ℕ
taken_in w moment = max w.from (min moment w.to)

-- how far from the left edge it lies, in hundredths of a pixel
abbrev pub x_in : Pane → ℕ → ℕ
x_in w moment = ((taken_in w moment - w.from) * (100 * w.width)) / (w.to - w.from)

-- how long the time is that a pixel shows, rounded up
abbrev pub pixel_of : Pane → ℕ
pixel_of w = (w.to - w.from) / w.width + min 1 ((w.to - w.from) % w.width)

-- What of a time lies in a viewport: the moments of both. A time of no length is its moment.
abbrev pub cut_to : Pane → Span → Option Span
cut_to w span =
    let from = max span.from w.from in
    let to = min span.to w.to in
    if nat_lt from to then Some (record { from = from; to = to })
    else if span.from == span.to && nat_le w.from span.from && nat_lt span.to w.to then Some span
    else None
