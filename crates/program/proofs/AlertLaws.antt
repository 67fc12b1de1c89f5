-- The alerts of a script and of a check, and what the program does by them.
use Rattle.std.proofs.Common.{◌≡◌, ◌||◌, ◌⊎◌, inl, inr, ℕ, zero, suc, ◌+◌, Bool, true, false, cond, List, [], ◌∷◌, ◌++◌, length, Option, Some, None, Result, Ok, Err, refl, sym, ap, ◌∙◌, subst}
use Rattle.std.specs.Prelude.{◌==◌, IfOk, codes}
use Rattle.clap.specs.declared.parser.matches.Found.{Found}
use Rattle.abstract_port.specs.AbstractPort.{AbstractPort, new_port, queue_of}
use Rattle.abstract_port.specs.Answers.{port_after}
use Rattle.abstract_port.specs.declared.Answer.TheVariants as Answers
use Rattle.abstract_port.specs.declared.Command.{Command}
use Rattle.capture.specs.Records.{Entry}
use Rattle.capture.specs.declared.fault.CapFault.{CapFault}
use Rattle.capture.specs.declared.reader.End.{End}
use Rattle.capture.specs.declared.writer.TheConstants.{CAPTURE_END}
use Rattle.clap.specs.Matches.{first_value}
use Rattle.frame_table.specs.Alerts as Frames
use Rattle.frame_table.specs.Alerts.{WatchedRun, both_alerts, by_stream_alerts, capture_alerts, frames_alerts, records_alerts}
use Rattle.frame_table.specs.Waits.{none_wait}
use Rattle.frame_table.proofs.AskedLaws.{plain_alerts, plain_asked}
use Rattle.job.specs.Report.{Telling}
use Rattle.job.specs.Texts.{run_status}
use Rattle.job.specs.declared.fault.Fault.{Fault}
use Rattle.job.specs.declared.fault.Fault.TheVariants as Faults
use Rattle.job.specs.declared.report.Ended.{Ended}
use Rattle.text.specs.Script.{Script, Broken, Line, script_of}
use Rattle.text.specs.Script as Lines
use Rattle.schedule_check.specs.Alerts.{alerts_in, line_wrong, with_alert}
use Rattle.schedule_check.specs.Alerts as Checks
use Rattle.schedule_check.specs.Checked.{is_command}
use Rattle.schedule_check.specs.declared.settings.CheckSettings.{CheckSettings}
use Rattle.replay.specs.Lines as Beside
use Rattle.replay.specs.Merge.{all_requests}
use Rattle.replay.specs.Outcome.{is_too_late}
use Rattle.replay.specs.Texts.{replay_telling}
use Rattle.script.specs.Alerts as Scripts
use Rattle.script.specs.Alerts.{Alert, Left, alert_of, alerts_from, alerts_of, end_unless, left_alert, run_alerts}
use Rattle.script.specs.Outcome.{Reading, clock_after, reading_of}
use Rattle.script.specs.Requests.{Request}
use Rattle.script.specs.Responses.{events_of}
use Rattle.script.specs.Setup.{Setup}
use Rattle.script.specs.Texts.{script_telling}
use Rattle.script.specs.Told.{Answered, Came, Misread, Told, told_of}
use Rattle.script.specs.declared.faults.BadLine.{BadLine}
use Rattle.script.specs.declared.faults.ScriptFault.{ScriptFault}
use Rattle.script.specs.declared.settings.BadValue.{BadValue}
use Rattle.script.specs.declared.watch.Failure.{Failure}
use Rattle.port_text.specs.declared.tc_reader.fault.TcFault.{TcFault}
use Rattle.traffic.specs.Faults.{streams_telling}
use Rattle.text.specs.Words.{words_of}
use Rattle.script.proofs.ReportLaws.{if_known}
use Rattle.wire_time.specs.Moment.{greatest_moment}
use Rattle.program.specs.Reading.{form_in}
use Rattle.program.specs.Given.{checks_in, is_strict, looks_at_frames, settings_in}
use Rattle.program.specs.Strict.{IsOfFile, IsSeen, IsStrictByFiles, IsStrictByStream, IsStrictCapture, IsStrictCheck, IsStrictEnd, IsStrictEnding, IsStrictFrames, IsStrictScript, IsWatchedByFiles, IsWatchedJob, Sight, any_counts, are_plain, may_find_nothing, status_by}
use Rattle.program.specs.declared.job_name.JobName.{JobName}
use Rattle.program.specs.declared.job_name.JobName.TheVariants as Names
use Rattle.program.specs.StrictLaws.{plain-both}

-- 1. All of a script's alerts are plain

plain-alert : (t : Told) → are_plain (alert_of t) ≡ true
plain-alert (Answered now (Came frame class) (Answers.Dropped id why)) = refl
plain-alert (Answered now cause (Answers.Refused why)) = refl
plain-alert (Misread fault) = refl
plain-alert told = refl

plain-told : (told : List Told) → are_plain (alerts_of told) ≡ true
plain-told [] = refl
plain-told (t ∷ rest) = plain-both (alert_of t) (alerts_of rest) (plain-alert t) (plain-told rest)

plain-left : (class n : ℕ) → are_plain (left_alert class n) ≡ true
plain-left class n = by (n == 0)
  where
    by : (b : Bool) → are_plain (cond b [] (Left class n ∷ [])) ≡ true
    by true = refl
    by false = refl

plain-from : (n class : ℕ) (p : AbstractPort) → are_plain (alerts_from n class p) ≡ true
unfolding alerts_from
plain-from zero class p = refl
plain-from (suc n) class p = plain-both (left_alert class (length (queue_of p class))) (alerts_from n (class + 1) p) (plain-left class (length (queue_of p class))) (plain-from n (class + 1) p)

plain-end : (until : Option ℕ) (fault : Option BadLine) (p : AbstractPort) → are_plain (end_unless until fault p) ≡ true
plain-end until None p = plain-from 8 0 (port_after (events_of (clock_after until)) p)
plain-end until (Some fault) p = refl

pub plain-run : (until : Option ℕ) (reading : Reading) (p : AbstractPort) → are_plain (run_alerts until reading p) ≡ true
plain-run until reading p =
    let there = port_after (events_of reading.requests) p in
    plain-both (alerts_of (told_of reading.requests p)) (end_unless until reading.fault there) (plain-told (told_of reading.requests p)) (plain-end until reading.fault there)

-- 2. All of a check's are

plain-wrong : (wrong : Option Failure) → are_plain (Checks.alert_of wrong) ≡ true
plain-wrong None = refl
plain-wrong (Some why) = refl

plain-line : (is : Result Bool ScriptFault) (wrong : Option Failure) (rest : List Alert) → are_plain rest ≡ true → are_plain (with_alert is (Checks.alert_of wrong) rest) ≡ true
plain-line (Err fault) wrong rest plain = refl
plain-line (Ok false) wrong rest plain = plain
plain-line (Ok true) wrong rest plain = plain-both (Checks.alert_of wrong) rest (plain-wrong wrong) plain

pub plain-check : (s : CheckSettings) (read : List (List ℕ) → Result Command TcFault) (script : Script) → are_plain (alerts_in s read script) ≡ true
plain-check s read Lines.End = refl
plain-check s read (Broken number limit) = refl
plain-check s read (Line number octets rest) = plain-line (is_command s.script (words_of octets)) (line_wrong s (read (words_of octets))) (alerts_in s read rest) (plain-check s read rest)

-- 3. And all of a table of frames, but for those of a table of streams

pub plain-frames : (read : List (List ℕ) → Result Command TcFault) (s : Setup) (octets : List ℕ) → are_plain (frames_alerts None read s octets) ≡ true
plain-frames read s octets =
    let reading = reading_of read (script_of octets) in
    let p = new_port s.rate s.mtu s.room in
    ap are_plain (sym (plain_alerts None refl s.until reading p none_wait)) ∙ plain-told (told_of reading.requests p)

plain-records : (s : Setup) (script : List Request) (records : Result (List Entry × End) CapFault) → are_plain (records_alerts s script records) ≡ true
plain-records s script (Err fault) = refl
plain-records s script (Ok records) =
    let all = all_requests script records.0 s.until in
    let p = new_port s.rate s.mtu s.room in
    ap are_plain (plain_asked None refl all None p none_wait) ∙ plain-told (told_of all p)

plain-both-inputs : (s : Setup) (script : List Request) (fault : Option BadLine) (records : Result (List Entry × End) CapFault) → are_plain (both_alerts s script fault records) ≡ true
plain-both-inputs s script None records = plain-records s script records
plain-both-inputs s script (Some fault) records = refl

pub plain-capture : (read : List (List ℕ) → Result Command TcFault) (s : Setup) (octets : List ℕ) (records : Result (List Entry × End) CapFault) → are_plain (capture_alerts read s octets records) ≡ true
plain-capture read s octets records = by (is_too_late s.until)
  where
    by : (late : Bool) → are_plain (cond late [] (both_alerts s (Beside.reading_of read (script_of octets)).requests (Beside.reading_of read (script_of octets)).fault records)) ≡ true
    by true = refl
    by false = plain-both-inputs s (Beside.reading_of read (script_of octets)).requests (Beside.reading_of read (script_of octets)).fault records

-- 4. The status

-- where the status is 0, all alerts were told
pub told_well : {H I : Type 0} (alerted : List Alert → H → H → Type 0) (telling : Telling I) (all : List Alert) (run : Result (Unit {0}) (Fault I)) (ended : Ended) (h k : H) → ended.status ≡ run_status telling run → ended.status ≡ 0 → WatchedRun alerted all run h k → alerted all h k
told_well alerted telling all (Ok done) ended h k is well w = w
told_well alerted telling all (Err (Faults.Input fault)) ended h k is well w = w
told_well alerted telling all (Err Faults.Read) ended h k is well w = absurd (let no : 4 ≡ 0 = sym is ∙ well in cc)
told_well alerted telling all (Err Faults.Write) ended h k is well w = absurd (let no : 4 ≡ 0 = sym is ∙ well in cc)
told_well alerted telling all (Err Faults.Memory) ended h k is well w = absurd (let no : 4 ≡ 0 = sym is ∙ well in cc)

-- the status by what was found by the alerts, and after a look at whether there was nothing
strict_end : (strict frames nothing : Bool) (alerts : List Alert) (run ended : Ended) (before here : Sight) (found : Bool) → (nothing ≡ false → are_plain alerts ≡ true) → before.frames ≡ frames → before.found ≡ false → IsSeen alerts before here → (here.found ≡ true → found ≡ true)
    → (nothing ≡ false → found ≡ here.found) → ended.status ≡ status_by strict found run.status → ((any_counts frames alerts ≡ true) ⊎ (nothing ≡ false)) → ended.status ≡ status_by strict (any_counts frames alerts) run.status
strict_end strict frames nothing alerts run ended before here found plain same none seen kept stays status which = status ∙ ap (λ b. status_by strict b run.status) (by which)
  where
    counted : (before.found || any_counts before.frames alerts) ≡ any_counts frames alerts
    counted = ap (λ b. b || any_counts before.frames alerts) none ∙ ap (λ x. any_counts x alerts) same

    by : (any_counts frames alerts ≡ true) ⊎ (nothing ≡ false) → found ≡ any_counts frames alerts
    by (inl some) = kept (seen.kept (counted ∙ some)) ∙ sym some
    by (inr nought) = stays nought ∙ (seen.exact (plain nought) ∙ counted)

-- where the form of a capture is good
where_formed : {F E P Q : Type 0} (r : Result F E) → (P → Q) → IfOk r (λ _. P) → IfOk r (λ _. Q)
where_formed (Ok form) f p = f p
where_formed (Err bad) f p = tt

-- for who watches, by what it knows
module _ {H : Type 0} (alerted : List Alert → H → H → Type 0) (know : H → Sight) (seen : (xs : List Alert) (s t : H) → alerted xs s t → IsSeen xs (know s) (know t)) where
  module _ (given : Found) (input : Option (List ℕ)) (run ended : Ended) (h k : H) (last : Bool) (looked : (know h).frames ≡ looks_at_frames given) (before : (know h).found ≡ false) (untimed : (know h).timed ≡ false) (kept : (know k).found ≡ true → last ≡ true)
      (status : ended.status ≡ status_by (is_strict given) last run.status) where
    -- of an input whose alerts were told
    by_alerts : {I : Type 0} (telling : Telling I) (nothing : Bool) (all : List Alert) (result : Result (Unit {0}) (Fault I)) → run.status ≡ run_status telling result → (nothing ≡ false → are_plain all ≡ true) → (IsSeen all (know h) (know k) → nothing ≡ false → last ≡ (know k).found)
        → WatchedRun alerted all result h k → IsStrictEnd (is_strict given) (looks_at_frames given) nothing all run ended
    by_alerts telling nothing all result is plain stays w well which =
        let told = seen all h k (told_well alerted telling all result run h k is well w) in
        strict_end (is_strict given) (looks_at_frames given) nothing all run ended (know h) (know k) last plain looked before told kept (stays told) status which

    of_script : (settings : Result Setup BadValue) → Scripts.IsWatchedEnding alerted settings input run h k → ((know k).frames ≡ false → last ≡ (know k).found) → IfOk settings (IsStrictScript given input run ended)
    of_script (Err value) w stays = tt
    of_script (Ok s) (result, is, watched) stays = λ read reads. if_known input (λ octets w.
        let reading = reading_of read (script_of octets) in
        let p = new_port s.rate s.mtu s.room in
        by_alerts script_telling (looks_at_frames given) (run_alerts s.until reading p) result is (λ none. plain-run s.until reading p) (λ told none. stays (told.looks ∙ looked ∙ none)) w) (watched read reads)

    of_check : (settings : Result CheckSettings BadValue) → Checks.IsWatchedEnding alerted settings input run h k → IfOk settings (IsStrictCheck given input run ended)
    of_check (Err value) w = tt
    of_check (Ok s) (result, is, watched) = λ read reads. if_known input (λ octets w.
        by_alerts script_telling true (alerts_in s read (script_of octets)) result is (λ never. absurd (cc)) (λ told never. absurd (cc)) w) (watched read reads)

    of_frames : (settings : Result Setup BadValue) → Frames.IsWatchedEnding alerted settings input run h k → ((know k).timed ≡ false → last ≡ (know k).found) → IfOk settings (IsStrictFrames given input run ended)
    of_frames (Err value) w stays = tt
    of_frames (Ok s) (result, is, watched) stays = λ read reads. if_known input (λ octets w.
        by_alerts script_telling false (frames_alerts None read s octets) result is (λ none. plain-frames read s octets) (λ told none. stays (told.timed (plain-frames read s octets) ∙ untimed)) w) (watched read reads)

    of_by_stream : (s : Setup) (table : Option (List ℕ)) → Frames.IsWatchedByStreamEnding alerted s table input run h k → IsStrictByStream given table input run ended s
    of_by_stream s table (result, is, watched) = λ read reads. if_known table (λ streams w. if_known input (λ octets w.
        by_alerts streams_telling true (by_stream_alerts read s streams octets) result is (λ never. absurd (cc)) (λ told never. absurd (cc)) w) w) (watched read reads)

    of_capture : (s : Setup) (capture : Option (List ℕ)) → Frames.IsWatchedCaptureEnding alerted s input capture run h k → ((know k).timed ≡ false → last ≡ (know k).found) → IsStrictCapture given capture input run ended s
    of_capture s capture (result, is, watched) stays = λ read reads. if_known input (λ lines w. if_known capture (λ octets w records are.
        by_alerts replay_telling false (capture_alerts read s lines records) result is (λ none. plain-capture read s lines records) (λ told none. stays (told.timed (plain-capture read s lines records) ∙ untimed)) (w records are)) w) (watched read reads)

    of_file : (P Q : Option (List ℕ) → Setup → Type 0) (settings : Result Setup BadValue) → ((octets : Option (List ℕ)) (s : Setup) → P octets s → Q octets s) → IfOk settings (IsOfFile P run) → IfOk settings (IsOfFile Q run)
    of_file P Q (Err value) f w = tt
    of_file P Q (Ok s) f (inl (octets, p)) = inl (octets, f octets s p)
    of_file P Q (Ok s) f (inr unopened) = inr unopened

    of_files : (capture streams : Option (List ℕ)) → IsWatchedByFiles alerted given capture streams input run h k → ((know k).timed ≡ false → last ≡ (know k).found) → IsStrictByFiles given capture streams input run ended
    of_files None None w stays = of_frames (settings_in greatest_moment given) w stays
    of_files None (Some path) w stays = of_file _ _ (settings_in greatest_moment given) (λ table s w. of_by_stream s table w) w
    of_files (Some path) streams w stays =
        where_formed (form_in given) (λ w. of_file _ _ (settings_in CAPTURE_END given) (λ capture s w. of_capture s capture w stays) w) w

    pub strict_by : (job : JobName) → IsWatchedJob alerted job given input run h k → (may_find_nothing job (know k).frames (know k).timed ≡ false → last ≡ (know k).found) → IsStrictEnding job given input run ended
    strict_by Names.Script w stays = of_script (settings_in greatest_moment given) w stays
    strict_by Names.Check w stays = of_check (checks_in given) w
    strict_by Names.Compare w stays = tt
    strict_by Names.Frames w stays = of_files (first_value given (codes "capture")) (first_value given (codes "by-stream")) w stays
    strict_by Names.Replay w stays = tt
    strict_by Names.Streams w stays = tt
    strict_by Names.Bounds w stays = tt
    strict_by Names.Paths w stays = tt
    strict_by Names.Plan w stays = tt
    strict_by Names.Draw w stays = tt
