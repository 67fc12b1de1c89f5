-- The text of a picture, part by part. Places are in pixels, but for those of shapes.
use Rattle.std.specs.Prelude.{ℕ, zero, suc, ◌+◌, ◌-◌, ◌*◌, ◌/◌, Bool, true, false, ◌||◌, nat_lt, List, [], ◌∷◌, ◌++◌, map, codes, decimal, if◌then◌else◌}
use Rattle.std.specs.List.{concat}
use Rattle.picture.specs.Drawn.{Drawing, class_at}
use Rattle.picture.specs.Lanes.{joined_at}
use Rattle.picture.specs.Viewports.{pixel_of}
use Rattle.drawing.specs.Axis.{axis_text, origin_text}
unfoldable use Rattle.drawing.specs.Axis.{each}
use Rattle.drawing.specs.Layout.{top_of}
use Rattle.drawing.specs.Marks.{bars_text, changes_text, drops_text, greys_text, has_grey, lights_text, no_grey, rect_text, waits_text}
use Rattle.drawing.specs.Shapes.{Shown, lane_at, shape_count}
unfoldable use Rattle.drawing.specs.Shapes.{bands_to}
use Rattle.drawing.specs.declared.page.Page.{Page}
use Rattle.drawing.specs.declared.page.TheConstants.{HEIGHT, LANES, LEFT, LEGEND, RIGHT, WIRE}
use Rattle.drawing.specs.declared.svg.TheConstants.{MIXED_LINE}
use Rattle.drawing.specs.declared.view_fit.TheConstants.{MOST_APART}

-- 1. Behind the marks

-- what the picture is called: its rate, in Mb/s, and its mtu
abbrev pub speed_text : (megabits mtu : ℕ) → List ℕ → List ℕ
speed_text megabits mtu end = concat (codes "Transmit port at " ∷ decimal megabits ∷ codes " Mb/s, mtu " ∷ decimal mtu ∷ codes " octets" ∷ end ∷ [])

abbrev pub name_text : Page → List ℕ → List ℕ
name_text page end = speed_text (8000000 / page.rate) page.mtu end

-- its size
abbrev pub size_text : (width height : ℕ) → List ℕ
size_text width height = concat (
    codes "<svg xmlns=\"http://www.w3.org/2000/svg\" width=\"" ∷ decimal width ∷ codes "\" height=\"" ∷ decimal height
    ∷ codes "\" viewBox=\"0 0 " ∷ decimal width ∷ codes " " ∷ decimal height ∷ codes "\" role=\"img\">\n<title>" ∷ [])

-- how its parts look
abbrev pub style_text : List ℕ
style_text = concat (
    codes "<style>\nsvg{background:#fff}\ntext{font:11px sans-serif;fill:#222}\n.t{font-size:15px;font-weight:bold}\n"
    ∷ codes ".o{fill:#cfe3f5;stroke:#6b8fb0;stroke-width:.5}\n.f{fill:#1f4e79;stroke:#fff;stroke-width:.5}\n"
    ∷ codes ".p{fill:#a8b4c0;stroke:#6b8fb0;stroke-width:.5}\n.s{stroke-width:0}\n.n{fill:#fff;font-size:10px;text-anchor:middle}\n"
    ∷ codes ".w{stroke:#b35900;stroke-width:1.5;fill:none}\n.d{stroke:#b00020;stroke-width:2;fill:none}\n"
    ∷ codes ".c{stroke:#222;stroke-dasharray:4 3;fill:none}\n.g{stroke:#999;stroke-width:.5;stroke-opacity:.5}\n"
    ∷ codes ".m{text-anchor:middle}\n@media (prefers-color-scheme:dark){\nsvg{background:#161616}\ntext{fill:#e6e6e6}\n"
    ∷ codes ".o{fill:#24415c;stroke:#7ea6c9}\n.p{fill:#4d5660;stroke:#7ea6c9}\n.f{fill:#9fd0ff;stroke:#161616}\n.n{fill:#10202e}\n"
    ∷ codes ".w{stroke:#ffb35c}\n.d{stroke:#ff7b8a}\n.c{stroke:#e6e6e6}\n}\n</style>\n"
    ∷ [])

-- where its name stands above the lanes
abbrev pub title_text : List ℕ
title_text = concat (codes "<text class=\"t\" x=\"" ∷ decimal LEFT ∷ codes "\" y=\"20\">" ∷ [])

abbrev pub head_text : Page → ℕ → List ℕ
head_text page height =
    size_text (LEFT + page.viewport.width + RIGHT) height
    ++ (name_text page (codes "</title>\n") ++ (style_text ++ (title_text ++ name_text page (codes "</text>\n"))))

-- the names of the lanes
abbrev pub class_name : ℕ → List ℕ
class_name class = concat (codes "<text x=\"8\" y=\"" ∷ decimal (top_of class + 18) ∷ codes "\">class " ∷ decimal class ∷ codes "</text>\n" ∷ [])

abbrev pub class_names : List ℕ
class_names = each class_name 0 WIRE

abbrev pub wire_name : List ℕ
wire_name = concat (codes "<text x=\"8\" y=\"" ∷ decimal (top_of WIRE + 18) ∷ codes "\">wire</text>\n" ∷ [])

abbrev pub names_text : List ℕ
names_text = class_names ++ wire_name

abbrev pub ground_text : Page → ℕ → List ℕ
ground_text page height = head_text page height ++ (axis_text page ++ (origin_text page ++ names_text))

-- 2. The marks

-- the bands of a class: the light ones, and over them what is grey, by the bands and by the times at which it is open and closed
abbrev pub class_bands : Page → Drawing → ℕ → List ℕ
class_bands page bands class =
    lights_text page (top_of class) (class_at bands.classes class).lane.shapes
    ++ (greys_text page (top_of class) false (class_at bands.classes class).lane.shapes no_grey
    ++ greys_text page (top_of class) true (class_at bands.mixed class).lane.shapes no_grey)

abbrev pub all_bands : Page → Drawing → List ℕ
all_bands page bands = each (class_bands page bands) 0 WIRE

-- what is drawn in a lane
abbrev pub lane_text : Page → Shown → ℕ → List ℕ
lane_text page shown lane =
    waits_text page (top_of lane) (lane_at shown.waits lane).shapes
    ++ (bars_text page (top_of lane) (lane_at shown.frames lane).shapes ++ drops_text page (top_of lane) (lane_at shown.drops lane).shapes)

abbrev pub lanes_text : Page → Shown → List ℕ
lanes_text page shown = each (lane_text page shown) 0 LANES

abbrev pub marks_text : Page → Drawing → Shown → List ℕ
marks_text page bands shown = all_bands page bands ++ (lanes_text page shown ++ changes_text page 0 shown.changes.shapes)

-- 3. The legend

-- a text at a place, on a line; a path that looks so; and what a rectangle and a path mean
abbrev pub legend_text : (x line : ℕ) → List ℕ → List ℕ
legend_text x line text = concat (codes "<text x=\"" ∷ decimal x ∷ codes "\" y=\"" ∷ decimal line ∷ codes "\">" ∷ text ∷ codes "</text>\n" ∷ [])

abbrev pub legend_path : (look : List ℕ) → (x : ℕ) → (path : List ℕ) → List ℕ
legend_path look x path = concat (codes "<path class=\"" ∷ look ∷ codes "\" d=\"M" ∷ decimal x ∷ codes " " ∷ decimal LEGEND ∷ path ∷ codes "\"/>\n" ∷ [])

abbrev pub legend_rect : (look : List ℕ) → (x line : ℕ) → (text : List ℕ) → List ℕ
legend_rect look x line text = rect_text look (x * 100) 2200 (line - 10) 12 ++ legend_text (x + 28) line text

abbrev pub legend_mark : (look : List ℕ) → (x : ℕ) → (path : List ℕ) → (gap : ℕ) → (text : List ℕ) → List ℕ
legend_mark look x path gap text = legend_path look x path ++ legend_text (x + gap) LEGEND text

abbrev pub legend : List ℕ
legend =
    legend_rect (codes "o") LEFT LEGEND (codes "open")
    ++ (legend_rect (codes "f") (LEFT + 70) LEGEND (codes "frame")
    ++ (legend_mark (codes "w") (LEFT + 142) (codes "v-9m0 5h22") 28 (codes "waits")
    ++ (legend_mark (codes "d") (LEFT + 216) (codes "l8 -8m0 8l-8 -8") 14 (codes "dropped")
    ++ legend_mark (codes "c") (LEFT + 290) (codes "v-12") 8 (codes "change"))))

-- whether something of a class's lane is grey, and whether something of one of so many is
abbrev pub is_mixed : Page → Drawing → ℕ → Bool
is_mixed page bands class =
    has_grey page false (class_at bands.classes class).lane.shapes || has_grey page true (class_at bands.mixed class).lane.shapes

unfoldable pub some_mixed : Page → Drawing → (first count : ℕ) → Bool
some_mixed page bands first zero = false
some_mixed page bands first (suc count) = is_mixed page bands first || some_mixed page bands (first + 1) count

abbrev pub has_mixed : Page → Drawing → Bool
has_mixed page bands = some_mixed page bands 0 WIRE

-- what grey means
abbrev pub mixed_legend : Bool → List ℕ
mixed_legend mixed = if mixed then legend_rect (codes "p") LEFT (LEGEND + MIXED_LINE) (codes "open and closed, too close to show each") else []

abbrev pub foot_text : Bool → List ℕ
foot_text mixed = legend ++ (mixed_legend mixed ++ codes "</svg>\n")

-- 4. All of it

-- how high a picture is, in pixels: where something is grey it has one line more
abbrev pub height_of : Bool → ℕ
height_of mixed = if mixed then HEIGHT + MIXED_LINE else HEIGHT

-- the picture of these bands and shapes
abbrev pub picture_text : Page → Drawing → Shown → List ℕ
picture_text page bands shown =
    ground_text page (height_of (has_mixed page bands)) ++ (marks_text page bands shown ++ foot_text (has_mixed page bands))

-- 5. Too much for a picture

-- whether there are so many bands and shapes that those shapes are joined that are nearer to one another than a pixel
abbrev pub is_crowded : Drawing → Shown → Bool
is_crowded bands shown = nat_lt MOST_APART (bands_to WIRE bands.classes bands.mixed + shape_count shown)

-- all that are nearer than a gap
abbrev pub coarse_shown : ℕ → Shown → Shown
coarse_shown gap x = record x {
  frames = map (joined_at gap) x.frames;
  waits = map (joined_at gap) x.waits;
  drops = map (joined_at gap) x.drops;
  changes = joined_at gap x.changes;
}

-- the picture of all bands and shapes, where there are too many of them with the shapes so joined
abbrev pub fitted_text : Page → Drawing → Shown → List ℕ
fitted_text page bands shown =
    if is_crowded bands shown
    then picture_text page bands (coarse_shown (pixel_of page.viewport) shown)
    else picture_text page bands shown
