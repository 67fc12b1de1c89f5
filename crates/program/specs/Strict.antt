-- What counts for a strict run, and the exit status that it ends with.
use Rattle.std.specs.Prelude.{◌≡◌, ◌==◌, ◌&&◌, ◌||◌, ◌⊎◌, ℕ, Bool, true, false, List, [], ◌∷◌, Option, Some, None, Result, codes, IfOk, IfSome, if◌then◌else◌}
use Rattle.abstract_port.specs.AbstractPort.{new_port}
use Rattle.abstract_port.specs.declared.Command.{Command}
use Rattle.capture.specs.Records.{Entry}
use Rattle.capture.specs.declared.fault.CapFault.{CapFault}
use Rattle.capture.specs.declared.reader.End.{End}
use Rattle.capture.specs.declared.writer.TheConstants.{CAPTURE_END}
use Rattle.clap.specs.Matches.{first_value}
use Rattle.clap.specs.declared.parser.matches.Found.{Found}
use Rattle.frame_table.specs.Alerts as Frames
use Rattle.frame_table.specs.Alerts.{by_stream_alerts, capture_alerts, frames_alerts}
use Rattle.job.specs.declared.report.Ended.{Ended}
use Rattle.text.specs.Script.{script_of}
use Rattle.replay.specs.Outcome.{ReadsAs}
use Rattle.schedule_check.specs.Alerts as Checks
use Rattle.schedule_check.specs.Alerts.{alerts_in}
use Rattle.schedule_check.specs.declared.settings.CheckSettings.{CheckSettings}
use Rattle.script.specs.Alerts as Scripts
use Rattle.script.specs.Alerts.{Alert, Failed, Judged, Left, Lost, Passed, Stream, run_alerts}
use Rattle.script.specs.Outcome.{reading_of}
use Rattle.script.specs.Setup.{Setup}
use Rattle.script.specs.declared.settings.BadValue.{BadValue}
use Rattle.port_text.specs.Reader.{IsReader}
use Rattle.port_text.specs.declared.tc_reader.fault.TcFault.{TcFault}
use Rattle.wire_time.specs.Moment.{greatest_moment}
use Rattle.program.specs.Reading.{form_in}
use Rattle.program.specs.Given.{checks_in, looks_at_frames, is_strict, settings_in}
use Rattle.program.specs.declared.job_name.JobName.{JobName}
use Rattle.program.specs.declared.job_name.JobName.TheVariants as Names

-- 1. Alerts

-- whether an alert counts: a failed tc line and a missed deadline always, a frame that is dropped or left where frames are looked at
abbrev pub counts : Bool → Alert → Bool
counts frames (Failed why) = true
counts frames (Lost moment frame why) = frames
counts frames (Left class count) = frames
counts frames (Passed number line) = false
counts frames (Stream number first count timed) = false
counts frames (Judged id stream None) = false
counts frames (Judged id stream (Some why)) = true

-- whether one of them does
abbrev pub any_counts : Bool → List Alert → Bool
any_counts frames [] = false
any_counts frames (alert ∷ rest) = counts frames alert || any_counts frames rest

-- whether that is all: of a line that is passed on, and of a stream of a table, more has to be known
abbrev pub is_plain : Alert → Bool
is_plain (Passed number line) = false
is_plain (Stream number first count timed) = false
is_plain alert = true

abbrev pub are_plain : List Alert → Bool
are_plain [] = true
are_plain (alert ∷ rest) = is_plain alert && are_plain rest

-- what who watches knows: whether frames are looked at, whether something was found, and whether a stream that has a deadline was read
pub record Sight : Type 0 where
  pub frames : Bool
  pub found : Bool
  pub timed : Bool

abbrev pub sight : Bool → Bool → Bool → Sight
sight frames found timed = record { frames = frames; found = found; timed = timed }

-- Who watches was told these alerts: something is found where something was found before, or one of them counts; of plain ones only then, and no stream
-- was read. What is looked at stays.
pub record IsSeen (alerts : List Alert) (before after : Sight) : Type 0 where
  pub looks : after.frames ≡ before.frames
  pub kept : (before.found || any_counts before.frames alerts) ≡ true → after.found ≡ true
  pub exact : are_plain alerts ≡ true → after.found ≡ (before.found || any_counts before.frames alerts)
  pub timed : are_plain alerts ≡ true → after.timed ≡ before.timed

-- 2. The status

-- the status of a run that ended with this one: 1 where it is strict, ended well, and something was found
abbrev pub status_by : Bool → Bool → ℕ → ℕ
status_by strict found status = if status == 0 && (strict && found) then 1 else status

-- The status of a job that ended well, by its alerts. Where none counts, a job may still find that there was nothing for it to look at.
abbrev pub IsStrictEnd : (strict frames nothing : Bool) → List Alert → Ended → Ended → Type 0
IsStrictEnd strict frames nothing alerts run ended =
    run.status ≡ 0 → ((any_counts frames alerts ≡ true) ⊎ (nothing ≡ false)) → ended.status ≡ status_by strict (any_counts frames alerts) run.status

-- so of the alerts of a script; where frames are looked at, it may be that none came
abbrev pub IsStrictScript : Found → Option (List ℕ) → Ended → Ended → Setup → Type 0
IsStrictScript found input run ended s = (read : List (List ℕ) → Result Command TcFault) → IsReader read → IfSome input (λ octets.
    IsStrictEnd (is_strict found) (looks_at_frames found) (looks_at_frames found) (run_alerts s.until (reading_of read (script_of octets)) (new_port s.rate s.mtu s.room)) run ended)

-- and of those of a check; it may be that there was no command
abbrev pub IsStrictCheck : Found → Option (List ℕ) → Ended → Ended → CheckSettings → Type 0
IsStrictCheck found input run ended s = (read : List (List ℕ) → Result Command TcFault) → IsReader read → IfSome input (λ octets.
    IsStrictEnd (is_strict found) (looks_at_frames found) true (alerts_in s read (script_of octets)) run ended)

-- and of those of the table of a script's frames
abbrev pub IsStrictFrames : Found → Option (List ℕ) → Ended → Ended → Setup → Type 0
IsStrictFrames found input run ended s = (read : List (List ℕ) → Result Command TcFault) → IsReader read → IfSome input (λ octets.
    IsStrictEnd (is_strict found) (looks_at_frames found) false (frames_alerts None read s octets) run ended)

-- with a table of streams it may be that streams share ids, or that no frame is judged by a deadline
abbrev pub IsStrictByStream : Found → (table input : Option (List ℕ)) → Ended → Ended → Setup → Type 0
IsStrictByStream found table input run ended s = (read : List (List ℕ) → Result Command TcFault) → IsReader read → IfSome table (λ streams. IfSome input (λ octets.
    IsStrictEnd (is_strict found) (looks_at_frames found) true (by_stream_alerts read s streams octets) run ended))

-- with a capture
abbrev pub IsStrictCapture : Found → (capture input : Option (List ℕ)) → Ended → Ended → Setup → Type 0
IsStrictCapture found capture input run ended s = (read : List (List ℕ) → Result Command TcFault) → IsReader read → IfSome input (λ lines. IfSome capture (λ octets.
    (records : Result (List Entry × End) CapFault) → ReadsAs octets records → IsStrictEnd (is_strict found) (looks_at_frames found) false (capture_alerts read s lines records) run ended))

-- A file that the words name gives some octets, since what it gives is not known; or it can't be opened.
abbrev pub IsOfFile : (Option (List ℕ) → Setup → Type 0) → Ended → Setup → Type 0
IsOfFile holds run s = ((octets : Option (List ℕ)) × holds octets s) ⊎ (run.status ≡ 4)

-- by the files that the words name
abbrev pub IsStrictByFiles : Found → (capture streams : Option (List ℕ)) → Option (List ℕ) → Ended → Ended → Type 0
IsStrictByFiles found None None input run ended = IfOk (settings_in greatest_moment found) (IsStrictFrames found input run ended)
IsStrictByFiles found None (Some path) input run ended = IfOk (settings_in greatest_moment found) (IsOfFile (λ table. IsStrictByStream found table input run ended) run)
IsStrictByFiles found (Some path) streams input run ended =
    IfOk (form_in found) (λ form. IfOk (settings_in CAPTURE_END found) (IsOfFile (λ capture. IsStrictCapture found capture input run ended) run))

-- The exit status of a script, a check or a table of frames whose values are good, by the alerts of its input, and by the status with which the job itself
-- ended.
abbrev pub IsStrictEnding : JobName → Found → Option (List ℕ) → Ended → Ended → Type 0
IsStrictEnding Names.Script found input run ended = IfOk (settings_in greatest_moment found) (IsStrictScript found input run ended)
IsStrictEnding Names.Check found input run ended = IfOk (checks_in found) (IsStrictCheck found input run ended)
IsStrictEnding Names.Frames found input run ended = IsStrictByFiles found (first_value found (codes "capture")) (first_value found (codes "by-stream")) input run ended
IsStrictEnding job found input run ended = Unit {0}

-- 3. Calls

-- whether a job may find that there was nothing for it to look at
abbrev pub may_find_nothing : JobName → (frames timed : Bool) → Bool
may_find_nothing Names.Script frames timed = frames
may_find_nothing Names.Frames frames timed = timed
may_find_nothing job frames timed = true

-- who watches the table of frames was told its alerts, by the files that the words name; of a file that can't be opened nothing
abbrev pub IsWatchedBeside : {H : Type 0} → (List Alert → H → H → Type 0) → Result Setup BadValue → Option (List ℕ) → Ended → H → H → Type 0
IsWatchedBeside alerted settings input ended h k = IfOk settings (IsOfFile (λ capture s. Frames.IsWatchedCaptureEnding alerted s input capture ended h k) ended)

abbrev pub IsWatchedTable : {H : Type 0} → (List Alert → H → H → Type 0) → Result Setup BadValue → Option (List ℕ) → Option (List ℕ) → Ended → H → H → Type 0
IsWatchedTable alerted settings None input ended h k = Frames.IsWatchedEnding alerted settings input ended h k
IsWatchedTable alerted settings (Some path) input ended h k = IfOk settings (IsOfFile (λ table s. Frames.IsWatchedByStreamEnding alerted s table input ended h k) ended)

abbrev pub IsWatchedByFiles : {H : Type 0} → (List Alert → H → H → Type 0) → Found → (capture streams : Option (List ℕ)) → Option (List ℕ) → Ended → H → H → Type 0
IsWatchedByFiles alerted found None streams input ended h k = IsWatchedTable alerted (settings_in greatest_moment found) streams input ended h k
IsWatchedByFiles alerted found (Some path) streams input ended h k =
    IfOk (form_in found) (λ form. IsWatchedBeside alerted (settings_in CAPTURE_END found) input ended h k)

-- who watches a script, a check or a table of frames was told its alerts
abbrev pub IsWatchedJob : {H : Type 0} → (List Alert → H → H → Type 0) → JobName → Found → Option (List ℕ) → Ended → H → H → Type 0
IsWatchedJob alerted Names.Script found input ended h k = Scripts.IsWatchedEnding alerted (settings_in greatest_moment found) input ended h k
IsWatchedJob alerted Names.Check found input ended h k = Checks.IsWatchedEnding alerted (checks_in found) input ended h k
IsWatchedJob alerted Names.Frames found input ended h k = IsWatchedByFiles alerted found (first_value found (codes "capture")) (first_value found (codes "by-stream")) input ended h k
IsWatchedJob alerted job found input ended h k = Unit {0}
