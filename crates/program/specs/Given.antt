-- What the words of the program say of its settings.
use Rattle.std.specs.Prelude.{◌≡◌, ◌⊎◌, List, ℕ, [], ◌∷◌, Bool, true, false, if◌then◌else◌, Option, Some, None, Result, Ok, Err, codes}
use Rattle.std.specs.Io.KnownBytes.{append_known}
use Rattle.std.specs.List.{concat}
use Rattle.std.specs.Option.{option_map_or}
use Rattle.std.specs.Str.{bytes_eq}
use Rattle.clap.specs.Matches.{first_value}
use Rattle.clap.specs.declared.parser.matches.Found.{Found}
use Rattle.frame_table.specs.ByStream.{IsByStreamEnding}
use Rattle.frame_table.specs.OfCapture.{IsCaptureEnding}
use Rattle.frame_table.specs.Outcome.{whole_frames}
use Rattle.capture.specs.declared.writer.TheConstants.{CAPTURE_END}
use Rattle.wire_time.specs.Moment.{greatest_moment}
use Rattle.drawing.specs.Given.{DrawWords}
use Rattle.drawing.specs.OfCapture.{IsCapturePicture}
use Rattle.drawing.specs.Options.{options_of}
use Rattle.drawing.specs.PictureEnd.{IsDrawEnding}
use Rattle.drawing.specs.declared.options.DrawOptions.{DrawOptions}
use Rattle.replay.specs.Texts.{open_text}
use Rattle.replay.specs.Timing.{timing_given}
use Rattle.replay.specs.declared.timing.BadTiming.{BadTiming}
use Rattle.replay.specs.declared.timing.Timing.{Timing}
use Rattle.job.specs.RunEnd.{IsUnanswered}
use Rattle.program.specs.Reading.{form_in, form_text}
use Rattle.program.specs.declared.capture_input.BadForm.{BadForm}
use Rattle.program.specs.declared.capture_input.CaptureForm.{CaptureForm}
use Rattle.schedule_check.specs.CheckEnd.{checks_given}
use Rattle.schedule_check.specs.declared.settings.CheckSettings.{CheckSettings}
use Rattle.script.specs.ScriptEnd.{IsEnding, IsRefusal, settings_given}
use Rattle.script.specs.Given.{GivenWords}
use Rattle.script.specs.Setup.{Setup}
use Rattle.job.specs.declared.report.Ended.{Ended}
use Rattle.script.specs.declared.settings.BadValue.{BadValue}
use Rattle.traffic.specs.StreamsEnd.{GivenWords as StreamsGiven, IsStreamsEnding, plan_given}
use Rattle.traffic.specs.declared.plan.Plan.{Plan}
use Rattle.paths.specs.PathsEnd.{IsPathsEnding}
use Rattle.plan.specs.PlanEnd.{IsPlanEnding}
use Rattle.table_capture.specs.CaptureEnd.{IsCaptureEnding as IsTableCapture}
use Rattle.stream_bounds.specs.BoundsEnd.{IsBoundsEnding, IsBoundsRefusal, bounds_given}
use Rattle.stream_bounds.specs.declared.settings.BoundsSettings.{BoundsSettings}
use Rattle.stream_bounds.specs.declared.settings.BoundsValue.{BoundsValue}

-- the text where memory is out
abbrev pub memory_text : List ℕ
memory_text = codes "taprio_port: out of memory\n"

-- whether a flag is given: it is then true
abbrev pub flag_in : List ℕ → Found → Bool
flag_in name found = option_map_or (λ text. bytes_eq text (codes "true")) (first_value found name) false

-- whether a frame that is dropped or left counts for a strict run
abbrev pub looks_at_frames : Found → Bool
looks_at_frames found = flag_in (codes "strict-frames") found

-- whether the run is strict: `--strict-frames` asks for all that `--strict` asks for
abbrev pub is_strict : Found → Bool
is_strict found = if looks_at_frames found then true else flag_in (codes "strict") found

-- the text of an output that is one of the inputs
abbrev pub over_input_text : List ℕ → List ℕ
over_input_text path = concat (codes "taprio_port: OUT is one of the inputs: " ∷ path ∷ codes "\n" ∷ [])

-- what the words give to the options of a port
abbrev pub words_in : Found → GivenWords
words_in found =
    record { rate = first_value found (codes "rate"); mtu = first_value found (codes "mtu"); room = first_value found (codes "room"); until = first_value found (codes "until"); summary = flag_in (codes "summary") found }

-- what the words give to the options of a picture
abbrev pub draw_words_in : Found → DrawWords
draw_words_in found = record { from = first_value found (codes "from"); to = first_value found (codes "to"); width = first_value found (codes "width") }

-- the settings of the values that are given to the options, with a moment of at most `greatest`
abbrev pub settings_in : ℕ → Found → Result Setup BadValue
settings_in greatest found = settings_given greatest (words_in found)

-- what the time stamps of both captures of a replay say, by the values that are given to its options
abbrev pub timing_in : Found → Result Timing BadTiming
timing_in found = timing_given (first_value found (codes "stamp")) (first_value found (codes "shift"))

-- the settings of the values that are given to the options of a check
abbrev pub checks_in : Found → Result CheckSettings BadValue
checks_in found =
    checks_given (first_value found (codes "rate")) (first_value found (codes "mtu")) (first_value found (codes "map")) (first_value found (codes "frame"))
    (flag_in (codes "shares") found) (flag_in (codes "windows") found) (flag_in (codes "script") found)

-- what the values that are given to the options say of a picture
abbrev pub draws_in : Found → Result DrawOptions BadValue
draws_in found = options_of (draw_words_in found)

-- what the words that are given to the options of `streams` say
abbrev pub streams_in : Found → StreamsGiven
streams_in found = record {
  from = first_value found (codes "from");
  late = flag_in (codes "late") found;
  seed = first_value found (codes "seed");
}

-- how the frames of a table come by them
abbrev pub plan_in : Found → Result Plan BadValue
plan_in found = plan_given (streams_in found)

-- The end of a run on a table, where a script to write among the frames is named or none is. Without one, that of the table and a script of no octets; else that of
-- the table and of some octets, since what a file gives is not known, or of the path that can't be opened; or of a value that is bad, which comes first.
abbrev pub IsGivenScript : Result Plan BadValue → Option (List ℕ) → Option (List ℕ) → Ended → (old got errors_old errors_new : Option (List ℕ)) → Type 0
IsGivenScript plan None table ended old got errors_old errors_new = IsStreamsEnding plan table (Some []) ended old got errors_old errors_new
IsGivenScript (Ok plan) (Some path) table ended old got errors_old errors_new =
    ((script : Option (List ℕ)) × IsStreamsEnding (Ok plan) table script ended old got errors_old errors_new) ⊎ IsUnanswered 4 (open_text path) ended old got errors_old errors_new
IsGivenScript (Err value) (Some path) table ended old got errors_old errors_new = IsRefusal value ended old got errors_old errors_new

-- The end of a run that writes a file, and answers nothing: what the file got is the capture of the table.
pub record IsIntoFile (plan : Plan) (table : Option (List ℕ)) (ended : Ended) (old got errors_old errors_new : Option (List ℕ)) : Type 0 where
  pub file_old : Option (List ℕ)
  pub file_got : Option (List ℕ)
  pub ending : IsTableCapture plan table ended file_old file_got errors_old errors_new
  pub unwritten : List ℕ
  pub answered : append_known got unwritten ≡ old

-- or memory is out, before anything is read
abbrev pub IsIntoOpened : Plan → Option (List ℕ) → Ended → (old got errors_old errors_new : Option (List ℕ)) → Type 0
IsIntoOpened plan table ended old got errors_old errors_new =
    IsUnanswered 4 memory_text ended old got errors_old errors_new ⊎ IsIntoFile plan table ended old got errors_old errors_new

-- The end of a run that writes a capture to a path: `-` is the standard output; else it is the file of that path, unless that can't be made, or is the standard
-- input.
abbrev pub IsCaptureTo : (answers : Bool) → List ℕ → Plan → Option (List ℕ) → Ended → (old got errors_old errors_new : Option (List ℕ)) → Type 0
IsCaptureTo true path plan table ended old got errors_old errors_new = IsTableCapture plan table ended old got errors_old errors_new
IsCaptureTo false path plan table ended old got errors_old errors_new =
    IsIntoOpened plan table ended old got errors_old errors_new
    ⊎ (IsUnanswered 4 (open_text path) ended old got errors_old errors_new ⊎ IsUnanswered 2 (over_input_text path) ended old got errors_old errors_new)

-- so by a plan, whose bad value comes first
abbrev pub IsGivenTableCapture : Result Plan BadValue → List ℕ → Option (List ℕ) → Ended → (old got errors_old errors_new : Option (List ℕ)) → Type 0
IsGivenTableCapture (Ok plan) path table ended old got errors_old errors_new = IsCaptureTo (bytes_eq path (codes "-")) path plan table ended old got errors_old errors_new
IsGivenTableCapture (Err value) path table ended old got errors_old errors_new = IsRefusal value ended old got errors_old errors_new

-- the end of a run of `streams`, where the words name an output capture or none: a script does not go with one
abbrev pub IsGivenStreams : Result Plan BadValue → (capture script : Option (List ℕ)) → Option (List ℕ) → Ended → (old got errors_old errors_new : Option (List ℕ)) → Type 0
IsGivenStreams plan None script table ended old got errors_old errors_new = IsGivenScript plan script table ended old got errors_old errors_new
IsGivenStreams plan (Some path) script table ended old got errors_old errors_new = IsGivenTableCapture plan path table ended old got errors_old errors_new

-- the settings of the values that are given to the options of bounds
abbrev pub bounds_in : Found → Result BoundsSettings BoundsValue
bounds_in found =
    bounds_given (words_in found) (first_value found (codes "map")) (first_value found (codes "frames")) (first_value found (codes "silent"))
    (record {
      strict = flag_in (codes "strict") found;
      slack = flag_in (codes "slack") found;
      why = flag_in (codes "why") found;
      leftovers = flag_in (codes "leftovers") found;
    })

-- The end of a run on schedules and the table that the words name: that of the schedules and of some octets, since what a file gives is not known, or
-- of the path that can't be opened; or of a value that is bad, which comes first. There is no end where the words name no table: they are refused then.
abbrev pub IsGivenBounds : Result BoundsSettings BoundsValue → Option (List ℕ) → Option (List ℕ) → Ended → (old got errors_old errors_new : Option (List ℕ)) → Type 0
IsGivenBounds settings None schedules ended old got errors_old errors_new = Unit {0}
IsGivenBounds (Ok settings) (Some path) schedules ended old got errors_old errors_new =
    ((table : Option (List ℕ)) × IsBoundsEnding settings table schedules ended old got errors_old errors_new) ⊎ IsUnanswered 4 (open_text path) ended old got errors_old errors_new
IsGivenBounds (Err value) (Some path) schedules ended old got errors_old errors_new = IsBoundsRefusal value ended old got errors_old errors_new

-- The end of a run on schedules and the network that the words name: that of the schedules and of some octets, since what a file gives is not known,
-- or of the path that can't be opened; or of a value that is bad, which comes first. There is no end where the words name no network: they are
-- refused then.
abbrev pub IsGivenPaths : Result BoundsSettings BoundsValue → (next path schedules : Option (List ℕ)) → Ended → (old got errors_old errors_new : Option (List ℕ)) → Type 0
IsGivenPaths settings next None schedules ended old got errors_old errors_new = Unit {0}
IsGivenPaths (Ok settings) next (Some path) schedules ended old got errors_old errors_new =
    ((network : Option (List ℕ)) × IsPathsEnding settings next network schedules ended old got errors_old errors_new) ⊎ IsUnanswered 4 (open_text path) ended old got errors_old errors_new
IsGivenPaths (Err value) next (Some path) schedules ended old got errors_old errors_new = IsBoundsRefusal value ended old got errors_old errors_new

-- The end of a plan for the table that the words name, by the settings of the port: that of some octets, since what a file gives is not known, or of the
-- path that can't be opened; or of a value that is bad, which comes first: the first of the port's, where one is. There is no end where the words name no
-- table: they are refused then.
abbrev pub IsGivenPlan : Result Setup BadValue → (explain : Bool) → Option (List ℕ) → Ended → (old got errors_old errors_new : Option (List ℕ)) → Type 0
IsGivenPlan port explain None ended old got errors_old errors_new = Unit {0}
IsGivenPlan (Ok port) explain (Some path) ended old got errors_old errors_new =
    ((table : Option (List ℕ)) × IsPlanEnding port explain table ended old got errors_old errors_new)
    ⊎ (IsUnanswered 4 (open_text path) ended old got errors_old errors_new
    ⊎ ((text : List ℕ) × IsUnanswered 2 text ended old got errors_old errors_new))
IsGivenPlan (Err value) explain (Some path) ended old got errors_old errors_new = IsRefusal value ended old got errors_old errors_new

-- the settings of the values that are given to `frames` or `draw`: with a capture the moment to run to is one of a replay
abbrev pub settings_beside : Option (List ℕ) → Found → Result Setup BadValue
settings_beside None found = settings_in greatest_moment found
settings_beside (Some path) found = settings_in CAPTURE_END found

-- The end of a run on a script and a capture that the words name: that of the script and of some octets, since what a file gives is not known, or of the
-- path that can't be opened; or of a value that is bad, which comes first, and that of the capture's form after the port's.
abbrev pub IsGivenCapture : Result Setup BadValue → Result CaptureForm BadForm → List ℕ → Option (List ℕ) → Ended → (old got errors_old errors_new : Option (List ℕ)) → Type 0
IsGivenCapture (Ok setup) (Err bad) path input ended old got errors_old errors_new = IsUnanswered 2 (form_text bad) ended old got errors_old errors_new
IsGivenCapture (Ok setup) (Ok form) path input ended old got errors_old errors_new =
    ((capture : Option (List ℕ)) × IsCaptureEnding setup input capture ended old got errors_old errors_new) ⊎ IsUnanswered 4 (open_text path) ended old got errors_old errors_new
IsGivenCapture (Err value) form path input ended old got errors_old errors_new = IsRefusal value ended old got errors_old errors_new

-- The end of a run on a script, where the words name a table of streams or none. With none, that of the table of the script's frames; else that of the
-- table with their streams and of some octets, since what a file gives is not known, or of the path that can't be opened; or of a value that is bad, which
-- comes first.
abbrev pub IsGivenTable : Result Setup BadValue → Option (List ℕ) → Option (List ℕ) → Ended → (old got errors_old errors_new : Option (List ℕ)) → Type 0
IsGivenTable settings None input ended old got errors_old errors_new = IsEnding whole_frames settings input ended old got errors_old errors_new
IsGivenTable (Ok settings) (Some path) input ended old got errors_old errors_new =
    ((table : Option (List ℕ)) × IsByStreamEnding settings table input ended old got errors_old errors_new) ⊎ IsUnanswered 4 (open_text path) ended old got errors_old errors_new
IsGivenTable (Err value) (Some path) input ended old got errors_old errors_new = IsRefusal value ended old got errors_old errors_new

-- the end of a run of `frames`, where the words name a capture or none: a table of streams does not go with one
abbrev pub IsGivenFrames : Found → (capture streams : Option (List ℕ)) → Option (List ℕ) → Ended → (old got errors_old errors_new : Option (List ℕ)) → Type 0
IsGivenFrames found None streams input ended old got errors_old errors_new = IsGivenTable (settings_beside None found) streams input ended old got errors_old errors_new
IsGivenFrames found (Some path) streams input ended old got errors_old errors_new =
    IsGivenCapture (settings_beside (Some path) found) (form_in found) path input ended old got errors_old errors_new

-- The end of a picture of a script and a capture that the words name, by the values of the port, then by those of the picture, then by those of the capture's
-- form, the first bad one of which is told: that of the script and of some octets, since what a file gives is not known, or of the path that can't be opened.
abbrev pub IsPictureBeside : Result Setup BadValue → Result DrawOptions BadValue → Result CaptureForm BadForm → List ℕ → Option (List ℕ) → Ended → (old got errors_old errors_new : Option (List ℕ)) → Type 0
IsPictureBeside (Err value) options form path input ended old got errors_old errors_new = IsRefusal value ended old got errors_old errors_new
IsPictureBeside (Ok setup) (Err value) form path input ended old got errors_old errors_new = IsRefusal value ended old got errors_old errors_new
IsPictureBeside (Ok setup) (Ok options) (Err bad) path input ended old got errors_old errors_new = IsUnanswered 2 (form_text bad) ended old got errors_old errors_new
IsPictureBeside (Ok setup) (Ok options) (Ok form) path input ended old got errors_old errors_new =
    ((capture : Option (List ℕ)) × IsCapturePicture setup options input capture ended old got errors_old errors_new) ⊎ IsUnanswered 4 (open_text path) ended old got errors_old errors_new

-- the end of a run of `draw`, where the words name a capture or none
abbrev pub IsGivenPicture : Found → (capture : Option (List ℕ)) → Option (List ℕ) → Ended → (old got errors_old errors_new : Option (List ℕ)) → Type 0
IsGivenPicture found None input ended old got errors_old errors_new = IsDrawEnding (settings_beside None found) (draws_in found) input ended old got errors_old errors_new
IsGivenPicture found (Some path) input ended old got errors_old errors_new =
    IsPictureBeside (settings_beside (Some path) found) (draws_in found) (form_in found) path input ended old got errors_old errors_new
