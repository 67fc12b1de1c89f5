-- The axis of time of a picture, as text. Moments and times are in picoseconds, places in hundredths of a pixel.
use Rattle.std.specs.Prelude.{ℕ, zero, suc, ◌+◌, ◌-◌, ◌*◌, ◌/◌, ◌%◌, ◌^◌, max, min, nat_le, nat_lt, ◌==◌, Bool, List, [], ◌∷◌, ◌++◌, length, codes, decimal, if◌then◌else◌}
use Rattle.std.specs.List.{concat}
use Rattle.picture.specs.Ticks.{name_of, ps_of, tick, unit_of}
use Rattle.picture.specs.declared.ticks.Unit.{Unit}
use Rattle.drawing.specs.Marks.{at_x, label_in, label_text, line_text}
use Rattle.drawing.specs.declared.page.Page.{Page}
use Rattle.drawing.specs.declared.page.TheConstants.{AXIS, BOTTOM, CLASS_TOP, HALF_CHARACTER, LEFT, ORIGIN}

-- the texts of so many numbers, from one on
unfoldable pub each : (ℕ → List ℕ) → (first count : ℕ) → List ℕ
each text first zero = []
each text first (suc count) = text first ++ each text (first + 1) count

-- how long after the moment that the axis counts from another is
abbrev pub counted : Page → ℕ → ℕ
counted page m = m - page.origin

-- The first of the steps 1, 2, 5, 10 and so on of which so many are at least as long as a time: one of the first, which are as many as the time is long, is.
unfoldable pub step_from : (tries place length most : ℕ) → ℕ
step_from zero place length most = tick place
step_from (suc tries) place length most = if nat_le length (tick place * most) then tick place else step_from tries (place + 1) length most

abbrev pub step_of : (length most : ℕ) → ℕ
step_of length most = step_from length 0 length most

-- how wide the part of the picture is that shows time
abbrev pub plot_of : Page → ℕ
plot_of page = 100 * page.viewport.width

-- the step of which so many are as long as the time that is shown
abbrev pub step_for : Page → ℕ → ℕ
step_for page most = step_of (page.viewport.to - page.viewport.from) most

-- the step at which ticks are 80 pixels apart, and how many characters the last label has then
abbrev pub coarse_step : Page → ℕ
coarse_step page = step_for page (plot_of page / 8000)

abbrev pub label_length : Page → ℕ
label_length page = length (decimal (counted page page.viewport.to / ps_of (unit_of (coarse_step page)))) + 3

-- the step at which as many ticks as have room for such a label are as long as the time, two at least, and none are nearer than those
abbrev pub most_ticks : Page → ℕ
most_ticks page = max (plot_of page / (label_length page * (2 * HALF_CHARACTER) + 1200)) 2

abbrev pub roomy_step : Page → ℕ
roomy_step page = max (step_for page (most_ticks page)) (coarse_step page)

-- the first and the last multiple of a step that is shown, and whether those are two
abbrev pub first_tick : Page → ℕ → ℕ
first_tick page step = counted page page.viewport.from / step + min 1 (counted page page.viewport.from % step)

abbrev pub last_tick : Page → ℕ → ℕ
last_tick page step = counted page page.viewport.to / step

abbrev pub has_two_ticks : Page → ℕ → Bool
has_two_ticks page step = nat_lt (first_tick page step) (last_tick page step)

-- a step, where it shows two ticks; else another
abbrev pub two_or : Page → (step other : ℕ) → ℕ
two_or page step other = if has_two_ticks page step then step else other

-- the step of the axis: the one with room for labels, or where that has no two ticks, the greatest that has: a fifth of the time, rounded up, is one
abbrev pub axis_step : Page → ℕ
axis_step page =
    two_or page (roomy_step page) (two_or page (step_for page 2) (two_or page (step_for page 3) (two_or page (step_for page 4) (step_for page 5))))

-- what a tick says: so many of a unit
abbrev pub tick_name : ℕ → List ℕ → List ℕ
tick_name number unit = concat (decimal number ∷ codes " " ∷ unit ∷ codes "</text>\n" ∷ [])

-- a tick at a place, with its line through the lanes
abbrev pub tick_text : Page → (x number : ℕ) → List ℕ → List ℕ
tick_text page x number unit =
    line_text (codes "g") x (CLASS_TOP - 6) BOTTOM ++ (label_text (label_in page x (length (decimal number) + 3)) AXIS ++ tick_name number unit)

-- the tick of a time after the moment that the axis counts from
abbrev pub tick_at : Page → Unit → ℕ → List ℕ
tick_at page unit time = tick_text page (at_x page (min (page.origin + time) (2 ^ 128 - 1))) (time / ps_of unit) (name_of unit)

-- a tick at each multiple of a step, and the axis
abbrev pub ticks_text : Page → (step first last : ℕ) → List ℕ
ticks_text page step first last = each (λ tick. tick_at page (unit_of step) (tick * step)) first (last + 1 - first)

abbrev pub axis_text : Page → List ℕ
axis_text page = ticks_text page (axis_step page) (first_tick page (axis_step page)) (last_tick page (axis_step page))

-- what the axis counts from, where that isn't moment 0
abbrev pub origin_name : ℕ → List ℕ → List ℕ
origin_name number unit = concat (
    codes "<text x=\"" ∷ decimal LEFT ∷ codes "\" y=\"" ∷ decimal ORIGIN ∷ codes "\">counted from " ∷ decimal number ∷ codes " " ∷ unit ∷ codes "</text>\n" ∷ [])

abbrev pub origin_text : Page → List ℕ
origin_text page = if page.origin == 0 then [] else origin_name (page.origin / ps_of (unit_of page.origin)) (name_of (unit_of page.origin))
