-- What the program answers to its words: a job, help, or why they are refused.
use Rattle.std.specs.Prelude.{◌≡◌, ◌⊎◌, List, ℕ, [], Bool, true, false, Option, Some, None, Result, Ok, Err, codes, unwrap_or}
use Rattle.std.specs.Io.KnownBytes.{Appends, append_known}
use Rattle.text.specs.Writes.{AppendsFront}
use Rattle.clap.specs.Matches.{first_value, found_of}
use Rattle.clap.specs.Simple.{subcommand_of, subcommand_rows_of}
use Rattle.clap.specs.Takes.{takes}
use Rattle.clap.specs.Walk.{Text, rows_of}
use Rattle.clap.specs.declared.error.kind.ErrorKind.{ErrorKind}
use Rattle.clap.specs.declared.error.kind.ErrorKind.TheVariants as Kinds
use Rattle.clap.specs.declared.parser.matches.ArgMatches.{ArgMatches}
use Rattle.clap.specs.declared.parser.matches.Found.{Found}
use Rattle.wire_time.specs.Moment.{greatest_moment}
use Rattle.capture.specs.declared.writer.TheConstants.{CAPTURE_END}
use Rattle.job.specs.RunEnd.{IsUnanswered}
use Rattle.job.specs.declared.report.Ended.{Ended}
use Rattle.script.specs.ScriptEnd.{IsEnding, IsRefusal, whole_script}
use Rattle.script.specs.Setup.{Setup}
use Rattle.script.specs.declared.settings.BadValue.{BadValue}
use Rattle.schedule_check.specs.Checked.{whole_check}
use Rattle.schedule_check.specs.Windows.{IsTeller, Teller}
use Rattle.replay.specs.Texts.{open_text}
use Rattle.replay.specs.Timing.{timing_text}
use Rattle.replay.specs.Words.{IsReplayEnding, got}
use Rattle.replay.specs.declared.timing.BadTiming.{BadTiming}
use Rattle.replay.specs.declared.timing.Timing.{Timing}
use Rattle.program.specs.Given.{IsGivenBounds, IsGivenFrames, IsGivenPaths, IsGivenPicture, IsGivenPlan, IsGivenStreams, flag_in, bounds_in, checks_in, is_strict, memory_text, over_input_text, plan_in, settings_in, timing_in}
use Rattle.program.specs.Compared.{IsGivenCompare, compare_in}
use Rattle.program.specs.Plain.{input_of}
use Rattle.program.specs.Reading.{form_in, form_text, read_as}
use Rattle.program.specs.declared.capture_input.BadForm.{BadForm}
use Rattle.program.specs.declared.capture_input.CaptureForm.{CaptureForm}
use Rattle.program.specs.Strict.{IsStrictEnding}
use Rattle.program.specs.Table.{name_of, program_app}
use Rattle.program.specs.declared.job_name.JobName.{JobName}
use Rattle.program.specs.declared.job_name.JobName.TheVariants as Names

-- The end of a replay of what is open, with the capture that is read: that of some script, since what a file gives is not known, and of some output
-- capture.
pub record IsReplayed (settings : Setup) (timing : Timing) (capture : Option (List ℕ)) (ended : Ended) (old new errors_old errors_new : Option (List ℕ)) : Type 0 where
  pub script : Option (List ℕ)
  pub departures_old : Option (List ℕ)
  pub departures_new : Option (List ℕ)
  pub ending : IsReplayEnding settings timing script capture ended (got old departures_old) (got new departures_new) errors_old errors_new

-- The end of a replay of what is open: memory is out before anything is read; or that of the files, with the standard input as the capture where none
-- is open, read in its format.
abbrev pub IsReplayedOrForgotten : Setup → Timing → CaptureForm → Option (Option (List ℕ)) → Option (List ℕ) → Ended → (old new errors_old errors_new : Option (List ℕ)) → Type 0
IsReplayedOrForgotten settings timing form capture input ended old new errors_old errors_new =
    IsUnanswered 4 memory_text ended old new errors_old errors_new
    ⊎ IsReplayed settings timing (read_as form (unwrap_or capture input)) ended old new errors_old errors_new

-- the capture of a replay is the standard input where the words say so, and else some octets of a file; it is read in its form
abbrev pub IsCapture : CaptureForm → Found → Option (List ℕ) → Option (List ℕ) → Type 0
IsCapture form found input capture = first_value found (codes "capture") ≡ Some (codes "-") → capture ≡ read_as form input

-- The end of a replay with these settings: a value is refused; or a word about time stamps; or one about the form of the capture; or a file can't be opened,
-- or the output is an input, or memory is out, before anything is read; or that of the files.
abbrev pub IsReplayBy : Result Setup BadValue → Result Timing BadTiming → Result CaptureForm BadForm → Found → Option (List ℕ) → Ended → (old new errors_old errors_new : Option (List ℕ)) → Type 0
IsReplayBy (Err value) timing form found input ended old new errors_old errors_new = IsRefusal value ended old new errors_old errors_new
IsReplayBy (Ok settings) (Err bad) form found input ended old new errors_old errors_new = IsUnanswered 2 (timing_text bad) ended old new errors_old errors_new
IsReplayBy (Ok settings) (Ok timing) (Err bad) found input ended old new errors_old errors_new = IsUnanswered 2 (form_text bad) ended old new errors_old errors_new
IsReplayBy (Ok settings) (Ok timing) (Ok form) found input ended old new errors_old errors_new =
    ((path : List ℕ) × IsUnanswered 4 (open_text path) ended old new errors_old errors_new)
    ⊎ (((path : List ℕ) × IsUnanswered 2 (over_input_text path) ended old new errors_old errors_new)
    ⊎ (IsUnanswered 4 memory_text ended old new errors_old errors_new
    ⊎ ((capture : Option (List ℕ)) × IsCapture form found input capture × IsReplayed settings timing capture ended old new errors_old errors_new)))

-- The end of a replay by what the words give.
abbrev pub IsGivenReplay : Found → Option (List ℕ) → Ended → (old new errors_old errors_new : Option (List ℕ)) → Type 0
IsGivenReplay found input ended old new errors_old errors_new =
    IsReplayBy (settings_in CAPTURE_END found) (timing_in found) (form_in found) found input ended old new errors_old errors_new

-- The end of a job by what the words give it, on what the standard input has.
abbrev pub IsJobEnding : JobName → Found → Option (List ℕ) → Ended → (old new errors_old errors_new : Option (List ℕ)) → Type 0
IsJobEnding Names.Script found input ended old new errors_old errors_new =
    IsEnding whole_script (settings_in greatest_moment found) input ended old new errors_old errors_new
IsJobEnding Names.Replay found input ended old new errors_old errors_new = IsGivenReplay found input ended old new errors_old errors_new
IsJobEnding Names.Check found input ended old new errors_old errors_new =
    (tell : Teller) → IsTeller tell → IsEnding (whole_check tell) (checks_in found) input ended old new errors_old errors_new
IsJobEnding Names.Streams found input ended old new errors_old errors_new =
    IsGivenStreams (plan_in found) (first_value found (codes "capture")) (first_value found (codes "with")) input ended old new errors_old errors_new
IsJobEnding Names.Bounds found input ended old new errors_old errors_new =
    IsGivenBounds (bounds_in found) (first_value found (codes "table")) input ended old new errors_old errors_new
IsJobEnding Names.Paths found input ended old new errors_old errors_new =
    IsGivenPaths (bounds_in found) (first_value found (codes "next")) (first_value found (codes "network")) input ended old new errors_old errors_new
IsJobEnding Names.Plan found input ended old new errors_old errors_new =
    IsGivenPlan (settings_in greatest_moment found) (flag_in (codes "explain") found) (first_value found (codes "table")) ended old new errors_old errors_new
IsJobEnding Names.Draw found input ended old new errors_old errors_new =
    IsGivenPicture found (first_value found (codes "capture")) input ended old new errors_old errors_new
IsJobEnding Names.Frames found input ended old new errors_old errors_new =
    IsGivenFrames found (first_value found (codes "capture")) (first_value found (codes "by-stream")) input ended old new errors_old errors_new
IsJobEnding Names.Compare found input ended old new errors_old errors_new = IsGivenCompare (compare_in found) ended old new errors_old errors_new

-- an end, and the same of a strict run, which has status 1 where something was found and all else is done
abbrev pub IsJudged : Bool → Ended → Ended → Type 0
IsJudged strict run ended =
    (ended ≡ run) ⊎ ((strict ≡ true) × (run.status ≡ 0) × (ended ≡ record { status = 1; told = run.told }))

-- The end of a job whose fault's text is kept until it is told, and which is judged by what it found.
pub record IsWatchedEnding (job : JobName) (found : Found) (input : Option (List ℕ)) (ended : Ended) (old new : Option (List ℕ)) : Type 0 where
  pub run : Ended
  pub text : List ℕ
  pub ending : IsJobEnding job found input run old new (Some []) (Some text)
  pub judged : IsJudged (is_strict found) run ended
  pub strict : IsStrictEnding job found input run ended

-- a text that is written and let out, or else a prefix of it is written
abbrev pub Tells : Bool → Option (List ℕ) → Option (List ℕ) → List ℕ → Type 0
Tells true old new text = Appends old new text
Tells false old new text = AppendsFront old new text

-- The end where the words ask for help or for the version: this text is answered, and all of it is let out.
pub record IsHelp (text : List ℕ) (ended : Ended) (old new : Option (List ℕ)) : Type 0 where
  pub status : ended.status ≡ 0
  pub unwritten : List ℕ
  pub told : Tells ended.told old (append_known new unwritten) text
  pub let_out : ended.told ≡ true → unwritten ≡ []

-- The end where the words are refused: this text is reported, and nothing is answered.
abbrev pub IsUsage : List ℕ → Ended → (old new errors_old errors_new : Option (List ℕ)) → Type 0
IsUsage text ended old new errors_old errors_new = IsUnanswered 2 text ended old new errors_old errors_new

-- the words ask for help or for the version
abbrev pub IsAsked : ErrorKind → Type 0
IsAsked kind = (kind ≡ Kinds.DisplayHelp) ⊎ (kind ≡ Kinds.DisplayVersion)

-- the words are refused
abbrev pub IsFault : ErrorKind → Type 0
IsFault kind = (IsAsked kind → ⊥) × (kind ≡ Kinds.OutOfMemory → ⊥)

-- The end where no job is answered, by the kind of why: memory is out; or some text is answered where the words ask for help or for the version, and nothing
-- is reported; or some text is reported.
abbrev pub IsRefusedBy : ErrorKind → Ended → (old new errors_old errors_new : Option (List ℕ)) → Type 0
IsRefusedBy kind ended old new errors_old errors_new =
    IsUnanswered 4 memory_text ended old new errors_old errors_new
    ⊎ ((text : List ℕ) × ((IsAsked kind × IsHelp text ended old new × (errors_new ≡ errors_old))
    ⊎ (IsFault kind × IsUsage text ended old new errors_old errors_new)))

-- The end where the parser refuses the words, by a kind of why: of words that the program takes, that memory is out.
pub record IsRefused (words : List Text) (ended : Ended) (old new errors_old errors_new : Option (List ℕ)) : Type 0 where
  pub kind : ErrorKind
  pub taken : takes program_app words ≡ true → kind ≡ Kinds.OutOfMemory
  pub ending : IsRefusedBy kind ended old new errors_old errors_new

-- the job of this name is the one that was found among the words, with what they give it
abbrev pub IsFound : ArgMatches → JobName → ArgMatches → Type 0
IsFound matches job given = subcommand_rows_of matches ≡ Some (name_of job, rows_of (found_of given))

-- the words name this job, and give it this
abbrev pub IsNamed : List Text → JobName → Found → Type 0
IsNamed words job found = subcommand_of program_app words ≡ Some (name_of job, rows_of found)

-- The end of the job that the words name, with what they give it, on the lines of the standard input that they ask for.
pub record IsNamedEnding (words : List Text) (input : Option (List ℕ)) (ended : Ended) (old new : Option (List ℕ)) : Type 0 where
  pub job : JobName
  pub found : Found
  pub named : IsNamed words job found
  pub ending : IsWatchedEnding job found (input_of job found input) ended old new

-- The end where the words name no job.
pub record IsJobless (words : List Text) (ended : Ended) (old new errors_old errors_new : Option (List ℕ)) : Type 0 where
  pub none : (job : JobName) (found : Found) → IsNamed words job found → ⊥
  pub ending : IsUsage [] ended old new errors_old errors_new

-- The end of the program on its words, the first of which is its own name: of the job that they name, with what they give it; or of help, or of words that are refused.
abbrev pub IsProgramEnding : List Text → Option (List ℕ) → Ended → (old new errors_old errors_new : Option (List ℕ)) → Type 0
IsProgramEnding words input ended old new errors_old errors_new =
    IsNamedEnding words input ended old new ⊎ (IsRefused words ended old new errors_old errors_new ⊎ IsJobless words ended old new errors_old errors_new)
