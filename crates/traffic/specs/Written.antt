-- The lines of a script that has the frames of streams.
use Rattle.std.specs.Prelude.{ℕ, ◌==◌, List, [], ◌∷◌, ◌++◌, Option, Some, None, Bool, true, false, decimal, codes, if◌then◌else◌}
use Rattle.std.specs.List.{concat}
use Rattle.wire_time.specs.declared.Frame.{Frame}
use Rattle.traffic.specs.declared.course.Coming.{Coming}

-- the clock line of a moment
abbrev pub clock_line : ℕ → List ℕ
clock_line moment = concat (codes "clock " ∷ decimal moment ∷ codes "\n" ∷ [])

-- a clock line, unless the one of the same moment is written
abbrev pub clock_to : Option ℕ → ℕ → List ℕ
clock_to None moment = clock_line moment
clock_to (Some written) moment = if written == moment then [] else clock_line moment

-- what ends the line of a frame
abbrev pub frame_end : Bool → List ℕ
frame_end true = codes " tagged\n"
frame_end false = codes "\n"

-- the line of a frame
abbrev pub frame_line : Frame → List ℕ
frame_line f = concat (codes "frame " ∷ decimal f.id ∷ codes " " ∷ decimal f.priority ∷ codes " " ∷ decimal f.len ∷ frame_end f.tagged ∷ [])

-- frames with a clock line before the first of each moment, but of the one that is written already
unfoldable pub lines_of : Option ℕ → List Coming → List ℕ
lines_of written [] = []
lines_of written (f ∷ fs) = clock_to written f.moment ++ frame_line f.frame ++ lines_of (Some f.moment) fs
