-- What a merged script says, read as scripts are read: the law.
use Rattle.std.specs.Prelude.{◌≡◌, ◌≤◌, ◌<◌, ◌+◌, ◌^◌, ◌==◌, ℕ, Bool, true, false, List, [], ◌∷◌, ◌++◌, Option, Some, None, Ok, option_map, decimal, codes, if◌then◌else◌}
use Rattle.std.specs.List.{concat}
use Rattle.wire_time.specs.Moment.{greatest_moment}
use Rattle.wire_time.specs.declared.Frame.{Frame}
use Rattle.text.specs.Script.{Script, End, Broken, Line, script_of}
use Rattle.text.specs.declared.line_reader.lines.TheConstants.{MAX_LINES}
use Rattle.abstract_port.specs.declared.Event.TheVariants.{Arrive, Clock}
use Rattle.text.specs.Words.{words_of}
use Rattle.script.specs.Requests.{said_in}
use Rattle.script.specs.declared.script_line.Said.TheVariants as Says
use Rattle.traffic.specs.Merge.{clock_after, frames_before, frames_from, merged, moment_of, passed_line}
use Rattle.traffic.specs.Outcome.{outcome_of}
use Rattle.traffic.specs.Plan.{plan_frames, table_of}
use Rattle.traffic.specs.Room.{line_count, passed_on}
use Rattle.traffic.specs.declared.course.Coming.{Coming}
use Rattle.traffic.specs.declared.plan.Plan.{Plan}

-- 1. The lines of a merged script, without their line feeds

-- a clock line, unless the one of the same moment is written
abbrev pub clock_words : ℕ → List ℕ
clock_words moment = concat (codes "clock " ∷ decimal moment ∷ [])

abbrev pub clock_lines : Option ℕ → ℕ → List (List ℕ)
clock_lines None moment = clock_words moment ∷ []
clock_lines (Some written) moment = if written == moment then [] else clock_words moment ∷ []

-- the line of a frame
abbrev pub tag_words : Bool → List ℕ
tag_words true = codes " tagged"
tag_words false = []

abbrev pub frame_words : Frame → List ℕ
frame_words f = concat (codes "frame " ∷ decimal f.id ∷ codes " " ∷ decimal f.priority ∷ codes " " ∷ decimal f.len ∷ tag_words f.tagged ∷ [])

-- the lines of frames by rising moment
unfoldable pub frame_lines : Option ℕ → List Coming → List (List ℕ)
frame_lines written [] = []
frame_lines written (f ∷ fs) = clock_lines written f.moment ++ (frame_words f.frame ∷ frame_lines (Some f.moment) fs)

-- the lines of a script, each as it is passed on, among them
unfoldable pub merged_lines : Option ℕ → Script → List Coming → List (List ℕ)
merged_lines clock End frames = frame_lines clock frames
merged_lines clock (Broken number limit) frames = []
merged_lines clock (Line number line rest) frames =
    frame_lines clock (frames_before (moment_of (clock_after clock line)) frames)
    ++ (passed_line line ∷ merged_lines (clock_after clock line) rest (frames_from (moment_of (clock_after clock line)) frames))

-- 2. The law

-- the lines of a script, where none passes a limit
unfoldable pub lines_in : Script → Option (List (List ℕ))
lines_in End = Some []
lines_in (Broken number limit) = None
lines_in (Line number line rest) = option_map (λ lines. line ∷ lines) (lines_in rest)

-- a frame whose numbers are those of a script's frame
pub record IsComing (f : Coming) : Type 0 where
  pub moment : f.moment ≤ greatest_moment
  pub id : f.frame.id < 2 ^ 64
  pub priority : f.frame.priority < 2 ^ 8
  pub len : f.frame.len < 2 ^ 32

abbrev pub AreComing : List Coming → Type 0
AreComing [] = Unit {0}
AreComing (f ∷ fs) = IsComing f × AreComing fs

-- 1. Where a table and a script have no fault, what is written has just the lines of the table's frames and those of the script, each as it is
-- passed on, and so it is read: none is joined with another, and none passes a limit. 2. So it is of the lines before a fault of the script, and of
-- any frames, where their lines and the room for those of the script are together a script's. 3. A line as it is passed on has the words of the line.
-- 4. The line of a frame says that frame, and a clock line its moment.
pub record MergedLaw : Type 0 where
  pub whole : (plan : Plan) (table script : List ℕ) → (outcome_of plan table script).fault ≡ None
      → lines_in (script_of (outcome_of plan table script).text) ≡ Some (merged_lines None (script_of script) (plan_frames plan (table_of plan (script_of table)).streams))
  pub front : (room : ℕ) (script : List ℕ) (frames : List Coming) → AreComing frames → room + line_count None frames ≤ MAX_LINES
      → lines_in (script_of (merged None (passed_on room (script_of script)) frames)) ≡ Some (merged_lines None (passed_on room (script_of script)) frames)
  pub words : (line : List ℕ) → words_of (passed_line line) ≡ words_of line
  pub frames : (f : Coming) → IsComing f → said_in (frame_words f.frame) ≡ Ok (Some (Says.Asked (Arrive f.frame)))
  pub clocks : (moment : ℕ) → moment ≤ greatest_moment → said_in (clock_words moment) ≡ Ok (Some (Says.Asked (Clock moment)))
