-- The marks of a picture, as text. Places are in hundredths of a pixel, heights in pixels.
use Rattle.std.specs.Prelude.{ℕ, ◌≤◌, ◌+◌, ◌-◌, ◌*◌, ◌/◌, ◌%◌, max, nat_lt, nat_le, ◌==◌, ◌&&◌, ◌||◌, not, is_some, Bool, Option, Some, None, List, [], ◌∷◌, ◌++◌, length, codes, decimal, if◌then◌else◌}
use Rattle.std.specs.List.{concat, flat_map}
use Rattle.picture.specs.Viewports.{cut_to, x_in}
use Rattle.picture.specs.declared.span.Shape.{Shape}
use Rattle.picture.specs.declared.span.Span.{Span}
use Rattle.drawing.specs.Layout.{label_at, place_of}
use Rattle.drawing.specs.declared.page.Page.{Page}
use Rattle.drawing.specs.declared.page.Place.{Place}
use Rattle.drawing.specs.declared.page.TheConstants.{BOTTOM, CLASS_TOP, LANE_HEIGHT, LEFT, MAX_WIDTH, RIGHT}
use Rattle.drawing.specs.declared.marks.Grey.{Grey}
use Rattle.drawing.specs.declared.marks.TheConstants.{LABEL_WIDTH, LEAST_BAND, LEAST_BAR, LEAST_EDGED}

-- a place in pixels, with two digits behind the point, before what follows it
abbrev pub at_place : ℕ → List (List ℕ) → List (List ℕ)
at_place place rest = decimal (place / 100) ∷ codes "." ∷ decimal (place / 10 % 10) ∷ decimal (place % 10) ∷ rest

-- a rectangle that looks so; where it is narrow it has no edge
abbrev pub rect_text : (look : List ℕ) → (left width top height : ℕ) → List ℕ
rect_text look left width top height = concat (
    codes "<rect class=\"" ∷ look ∷ (if nat_lt width LEAST_EDGED then codes " s" else [])
    ∷ codes "\" x=\"" ∷ at_place left (codes "\" y=\"" ∷ decimal top
    ∷ codes "\" width=\"" ∷ at_place width (codes "\" height=\"" ∷ decimal height ∷ codes "\"/>\n" ∷ [])))

-- a line from above to below
abbrev pub line_text : (look : List ℕ) → (x top bottom : ℕ) → List ℕ
line_text look x top bottom = concat (
    codes "<path class=\"" ∷ look ∷ codes "\" d=\"M" ∷ at_place x (codes " " ∷ decimal top ∷ codes "V" ∷ decimal bottom ∷ codes "\"/>\n" ∷ []))

-- the number of a frame in the middle of its bar
abbrev pub id_text : (middle top id : ℕ) → List ℕ
id_text middle top id = concat (
    codes "<text class=\"n\" x=\"" ∷ decimal (middle / 100) ∷ codes "\" y=\"" ∷ decimal (top + 22) ∷ codes "\">" ∷ decimal id ∷ codes "</text>\n" ∷ [])

-- where a moment lies, and where a part of a row does that shows a time
abbrev pub at_x : Page → ℕ → ℕ
at_x page m = 100 * LEFT + x_in page.viewport m

abbrev pub place_in : Page → ℕ → Span → Place
place_in page least s = place_of (100 * (LEFT + page.viewport.width)) least (at_x page s.from) (at_x page s.to)

-- the number of a frame, where its bar has room for it
abbrev pub number_text : Place → ℕ → Option ℕ → List ℕ
number_text p top None = []
number_text p top (Some id) = if nat_le (400 + 600 * length (decimal id)) p.width then id_text (p.left + p.width / 2) top id else []

-- the bar of a frame, or of frames that are joined, in a row that begins at this height: what of it is shown
abbrev pub bar_of : Page → ℕ → Option ℕ → Option Span → List ℕ
bar_of page top id None = []
bar_of page top id (Some s) =
    rect_text (codes "f") (place_in page LEAST_BAR s).left (place_in page LEAST_BAR s).width (top + 10) (LANE_HEIGHT - 12) ++ number_text (place_in page LEAST_BAR s) top id

abbrev pub bar_text : Page → ℕ → Shape → List ℕ
bar_text page top shape = bar_of page top shape.id (cut_to page.viewport shape.span)

-- the bars of a row, one after another
abbrev pub bars_text : Page → ℕ → List Shape → List ℕ
bars_text page top shapes = flat_map (bar_text page top) shapes

-- the mark of an arrival, where it is shown
abbrev pub arrival_text : Bool → ℕ → ℕ → List ℕ
arrival_text is_shown x top = if is_shown then line_text (codes "w") x (top + 2) (top + 26) else []

-- the point of a wait that goes on at the end of the picture
abbrev pub point_text : Bool → List ℕ
point_text is_over = if is_over then codes "" else codes "l-6 -4m6 4l-6 4"

-- the line of a wait
abbrev pub wait_line : (left right top : ℕ) → Bool → List ℕ
wait_line left right top is_over = concat (
    codes "<path class=\"w\" d=\"M" ∷ at_place left (codes " " ∷ decimal (top + 6) ∷ codes "H" ∷ at_place right (point_text is_over ∷ codes "\"/>\n" ∷ [])))

-- the wait of a frame: what of it is shown
abbrev pub wait_of : Page → ℕ → Span → Option Span → List ℕ
wait_of page top whole None = []
wait_of page top whole (Some s) = arrival_text (s.from == whole.from) (at_x page s.from) top ++ wait_line (at_x page s.from) (at_x page s.to) top (nat_lt whole.to page.viewport.to)

abbrev pub wait_text : Page → ℕ → Shape → List ℕ
wait_text page top shape = wait_of page top shape.span (cut_to page.viewport shape.span)

abbrev pub waits_text : Page → ℕ → List Shape → List ℕ
waits_text page top shapes = flat_map (wait_text page top) shapes

-- frames that were dropped, from the first to the last of them: a cross, or two that are joined
abbrev pub cross_text : (left top : ℕ) → List ℕ
cross_text left top = concat (codes "<path class=\"d\" d=\"M" ∷ decimal (left / 100 - 4) ∷ codes " " ∷ decimal (top + 10) ∷ codes "l8 8m0 -8l-8 8" ∷ [])

abbrev pub second_cross : (left right : ℕ) → List ℕ
second_cross left right =
    if nat_lt (left / 100) (right / 100)
    then concat (codes "m4 -4H" ∷ decimal (right / 100) ∷ codes "m-4 -4l8 8m0 -8l-8 8\"/>\n" ∷ [])
    else codes "\"/>\n"

abbrev pub drop_of : Page → ℕ → Option Span → List ℕ
drop_of page top None = []
drop_of page top (Some s) = cross_text (at_x page s.from) top ++ second_cross (at_x page s.from) (at_x page s.to)

abbrev pub drop_text : Page → ℕ → Shape → List ℕ
drop_text page top shape = drop_of page top (cut_to page.viewport shape.span)

abbrev pub drops_text : Page → ℕ → List Shape → List ℕ
drops_text page top shapes = flat_map (drop_text page top) shapes

-- a band is light where it is one open time, and a pixel wide at least
abbrev pub is_light : Option ℕ → (left right : ℕ) → Bool
is_light id left right = is_some id && nat_le (left + LEAST_BAND) right

-- what of a light band is shown, in a row that begins at this height
abbrev pub light_at : (top : ℕ) → Option ℕ → (left right : ℕ) → List ℕ
light_at top id left right = if is_light id left right then rect_text (codes "o") left (right - left) top LANE_HEIGHT else []

abbrev pub light_of : Page → ℕ → Option ℕ → Option Span → List ℕ
light_of page top id None = []
light_of page top id (Some s) = light_at top id (at_x page s.from) (at_x page s.to)

abbrev pub light_text : Page → ℕ → Shape → List ℕ
light_text page top shape = light_of page top shape.id (cut_to page.viewport shape.span)

-- the light bands of a row, one after another
abbrev pub lights_text : Page → ℕ → List Shape → List ℕ
lights_text page top shapes = flat_map (light_text page top) shapes

-- The grey of a row: pixels from one on and before another, none where both are 0; and where the band before ends, 0 where there is none.
abbrev pub no_grey : Grey
no_grey = record { from = 0; to = 0; edge = 0 }

-- it lies in a row
pub record IsInRow (g : Grey) : Type 0 where
  pub forward : g.from ≤ g.to
  pub within : g.to ≤ LEFT + MAX_WIDTH + 1
  pub near : g.edge ≤ 100 * (LEFT + MAX_WIDTH)

-- with the pixels that a time reaches into from one place to another: one with the grey before it, where the two touch
abbrev pub more_grey : (first after edge : ℕ) → Grey → Grey
more_grey first after edge g =
    if nat_lt g.to first || g.to == 0
    then record { from = first; to = after; edge = edge }
    else record { from = g.from; to = max g.to after; edge = edge }

abbrev pub grey_over : (left right edge : ℕ) → Grey → Grey
grey_over left right edge g = more_grey (left / 100) (max (left / 100 + 1) ((right + 99) / 100)) edge g

-- Where a band follows: grey is what is nearer than a pixel to the one before, and what isn't light.
abbrev pub grey_by : Bool → (left right : ℕ) → Grey → Grey
grey_by is_light left right g =
    if nat_lt left (g.edge + LEAST_BAND)
    then grey_over g.edge (if is_light then left else right) right g
    else if is_light then record g { edge = right } else grey_over left right right g

abbrev pub grey_of : Page → Bool → Option ℕ → Option Span → Grey → Grey
grey_of page is_mixed id None g = g
grey_of page is_mixed id (Some s) g = grey_by (not is_mixed && is_light id (at_x page s.from) (at_x page s.to)) (at_x page s.from) (at_x page s.to) g

abbrev pub grey_after : Page → Bool → Shape → Grey → Grey
grey_after page is_mixed shape g = grey_of page is_mixed shape.id (cut_to page.viewport shape.span) g

-- the grey of a row after all its bands, or after all times at which its class is mixed
abbrev pub grey_after_all : Page → Bool → List Shape → Grey → Grey
grey_after_all page is_mixed [] g = g
grey_after_all page is_mixed (shape ∷ rest) g = grey_after_all page is_mixed rest (grey_after page is_mixed shape g)

-- whether something of it is grey
abbrev pub has_grey : Page → Bool → List Shape → Bool
has_grey page is_mixed shapes = nat_lt 0 (grey_after_all page is_mixed shapes no_grey).to

-- grey pixels in a row that begins at this height, and those that no later band adds to
abbrev pub grey_text : ℕ → Grey → List ℕ
grey_text top g = if g.to == 0 then [] else rect_text (codes "p") (g.from * 100) (g.to * 100 - g.from * 100) top LANE_HEIGHT

abbrev pub grey_before : ℕ → (old new : Grey) → List ℕ
grey_before top old new = if old.from == new.from then [] else grey_text top old

-- the grey pixels of a row, one after another
abbrev pub greys_text : Page → ℕ → Bool → List Shape → Grey → List ℕ
greys_text page top is_mixed [] g = grey_text top g
greys_text page top is_mixed (shape ∷ rest) g =
    grey_before top g (grey_after page is_mixed shape g) ++ greys_text page top is_mixed rest (grey_after page is_mixed shape g)

-- the beginning of a label whose middle lies at this place, on this line
abbrev pub label_text : (middle line : ℕ) → List ℕ
label_text middle line = concat (codes "<text class=\"m\" x=\"" ∷ decimal (middle / 100) ∷ codes "\" y=\"" ∷ decimal line ∷ codes "\">" ∷ [])

-- where it is that of so many characters that belongs to a place
abbrev pub label_in : Page → (place characters : ℕ) → ℕ
label_in page place characters = label_at (LEFT + page.viewport.width + RIGHT) place characters

-- the name of a change: the number of its command, or that changes are joined
abbrev pub number_length : Option ℕ → ℕ
number_length None = 0
number_length (Some number) = length (decimal number)

abbrev pub change_number : Option ℕ → List ℕ
change_number None = codes "changes</text>\n"
change_number (Some number) = concat (codes "change " ∷ decimal number ∷ codes "</text>\n" ∷ [])

abbrev pub change_name : Page → ℕ → Option ℕ → List ℕ
change_name page x number = label_text (label_in page x (7 + number_length number)) (CLASS_TOP - 14) ++ change_number number

-- changes of the schedule, from the first to the last of them: a line, or two that are joined above
abbrev pub last_change : (left right : ℕ) → List ℕ
last_change left right =
    if nat_lt (left / 100) (right / 100)
    then concat (
    codes "<path class=\"c\" d=\"M" ∷ decimal (left / 100) ∷ codes " " ∷ decimal (CLASS_TOP - 10)
    ∷ codes "H" ∷ decimal (right / 100) ∷ codes "V" ∷ decimal BOTTOM ∷ codes "\"/>\n" ∷ [])
    else []

abbrev pub change_lines : (left right : ℕ) → List ℕ
change_lines left right = line_text (codes "c") left (CLASS_TOP - 10) BOTTOM ++ last_change left right

-- a change that is shown, with its name where there is room: from a place on
abbrev pub name_of_change : Page → (free x : ℕ) → Option ℕ → List ℕ
name_of_change page free x number = if nat_le free x then change_name page x number else []

abbrev pub change_of : Page → ℕ → Option ℕ → Option Span → List ℕ
change_of page free id None = []
change_of page free id (Some s) = change_lines (at_x page s.from) (at_x page s.to) ++ name_of_change page free (at_x page s.from) id

abbrev pub change_text : Page → ℕ → Shape → List ℕ
change_text page free shape = change_of page free shape.id (cut_to page.viewport shape.span)

-- from where on there is room for the next name
abbrev pub free_by : Page → ℕ → Option Span → ℕ
free_by page free None = free
free_by page free (Some s) = if nat_le free (at_x page s.from) then at_x page s.from + LABEL_WIDTH else free

abbrev pub free_after : Page → ℕ → Shape → ℕ
free_after page free shape = free_by page free (cut_to page.viewport shape.span)

-- all changes, one after another
abbrev pub changes_text : Page → ℕ → List Shape → List ℕ
changes_text page free [] = []
changes_text page free (shape ∷ rest) = change_text page free shape ++ changes_text page (free_after page free shape) rest
