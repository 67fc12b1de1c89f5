-- A run on a script and a capture, from what its parts leave.
use Rattle.std.proofs.Common.{◌≡◌, ℕ, List, length, false, true, Option, Some, None, Result, Ok, Err, refl, sym, ap, ◌∙◌, subst, ◌∷◌, ◌++◌, []}
use Rattle.std.specs.Io.KnownBytes.{Appends}
use Rattle.text.proofs.Fronts.{Appends-nil, sent_none}
use Rattle.capture.specs.CaptureReader.{Left}
use Rattle.capture.specs.FileHeader.{format_of}
use Rattle.job.specs.declared.fault.Fault.TheVariants as Faults
use Rattle.job.specs.declared.halt.Halt.TheVariants as Halts
use Rattle.text.specs.Script.{script_of}
use Rattle.replay.specs.ByEvents.{StopsIn}
use Rattle.replay.specs.Lines as Beside
use Rattle.replay.specs.Outcome.{IsOpenFault}
use Rattle.replay.specs.WholeScript.{IsScriptFault}
use Rattle.replay.specs.RecordsLeft.{ComesMoved}
use Rattle.replay.specs.declared.faults.ReplayInput.TheVariants as Inputs
use Rattle.replay.specs.declared.faults.Stop.{Stop}
use Rattle.replay.specs.declared.faults.Stop.TheVariants as Stops
use Rattle.replay.proofs.EndLaws.{no_fault, some_fault}
use Rattle.replay.proofs.RecordLaws.{unmoved}
use Rattle.replay.proofs.ReplayLaws.{known_at}
use Rattle.script.specs.Alerts.{Alert, AlertedFront, Alerting}
use Rattle.script.specs.Setup.{Setup}
use Rattle.script.proofs.AlertLaws.{alerts_same}
use Rattle.frame_table.specs.Alerts.{both_alerts, records_alerts}
use Rattle.frame_table.specs.OfCapture.{frames_read, frames_said, refused}
use Rattle.frame_table.proofs.TabledLaws.{Cut, Took, halted_in, unread}
use Rattle.frame_table.proofs.WalkLaws.{begun, ends_short, ends_well}
use Rattle.frame_table.specs.Words.{Asks, BadLine, CapFault, Clock, Comes, Command, End, EndsHere, Entry, FallsShort, Fault, IsSoundPort, Outcome, Place, ReadsAs, Reading, ReplayInput, Request, RunsBoth, RunsOut, Stands, Stream, TcFault, WatchedRun, capture_alerts, end_fault, ending_alerts, ending_text, fault_of, frames_of_capture, is_too_late, run_end, run_of_both, to_run_end}

-- a call stopped before the end of the records is known to be met
pub both_fail : (stop : Stop) (entries : List Entry) (last : End) (r : Result (Option (ℕ × CapFault)) Stop) (old new : Option (List ℕ)) (whole : Outcome BadLine) → r ≡ Err stop → RunsOut {T = Unit {0}} (Err (fault_of stop)) old new whole → RunsBoth entries last r old new whole
both_fail stop entries last r old new whole is w = subst (λ (q : Result (Option (ℕ × CapFault)) Stop). RunsBoth entries last q old new whole) (sym is) (failed stop w)
  where
    failed : (stop : Stop) → RunsOut {T = Unit {0}} (Err (fault_of stop)) old new whole → RunsBoth entries last (Err stop) old new whole
    failed Stops.Read w = record { ending = tt; out = w }
    failed Stops.Write w = record { ending = tt; out = w }
    failed Stops.Memory w = record { ending = tt; out = w }

-- how a run ends whose capture ends so
pub both_ended : (entries : List Entry) (last : End) (r : Result (Option (ℕ × CapFault)) Stop) (old new : Option (List ℕ)) (whole : Outcome BadLine) → RunsBoth entries last r old new whole
    → RunsOut (run_of_both r) old new (record { text = whole.text; fault = end_fault (length entries) last })
both_ended entries last (Ok None) old new whole b = (no_fault entries last (length entries) b.ending, b.out.1)
both_ended entries last (Ok (Some (number, fault))) old new whole b = (some_fault entries last number fault b.ending, b.out.1)
both_ended entries last (Err Stops.Read) old new whole b = b.out
both_ended entries last (Err Stops.Write) old new whole b = b.out
both_ended entries last (Err Stops.Memory) old new whole b = b.out

-- and what was told then
pub both_told : {H : Type 0} (alerted : List Alert → H → H → Type 0) (all : List Alert) (r : Result (Option (ℕ × CapFault)) Stop) (h k : H) → Alerting alerted all r h k → WatchedRun alerted all (run_of_both r) h k
both_told alerted all (Ok None) h k a = a
both_told alerted all (Ok (Some (number, fault))) h k a = a
both_told alerted all (Err Stops.Read) h k a = a
both_told alerted all (Err Stops.Write) h k a = a
both_told alerted all (Err Stops.Memory) h k a = a

-- out of memory before anything is written
pub memory_wanting : (old : Option (List ℕ)) (whole : Outcome ReplayInput) → RunsOut {T = Unit {0}} (Err Faults.Memory) old old whole
memory_wanting old whole = (whole.text, sent_none old whole.text)

-- the moment to run to is too late
pub told_late : (read : List (List ℕ) → Result Command TcFault) (s : Setup) (lines : List ℕ) (records : Result (List Entry × End) CapFault) → is_too_late s.until ≡ true → capture_alerts read s lines records ≡ []
told_late read s lines records late = rw late refl

module _ (read : List (List ℕ) → Result Command TcFault) (s : Setup) (lines : List ℕ) (records : Result (List Entry × End) CapFault) (late : is_too_late s.until ≡ false) where
  abbrev reading : Reading
  reading = Beside.reading_of read (script_of lines)

  now : frames_of_capture read s lines records ≡ frames_said s reading.requests reading.fault records
  now = rw late refl

  pub frames_good : reading.fault ≡ None → frames_of_capture read s lines records ≡ frames_read s reading.requests records
  frames_good e = now ∙ ap (λ (f : Option BadLine). frames_said s reading.requests f records) e

  told_now : capture_alerts read s lines records ≡ both_alerts s reading.requests reading.fault records
  told_now = rw late refl

  pub told_good : reading.fault ≡ None → capture_alerts read s lines records ≡ records_alerts s reading.requests records
  told_good e = told_now ∙ ap (λ (f : Option BadLine). both_alerts s reading.requests f records) e

  -- the script has a fault, or can't be read
  pub script_refused : (fault : Fault ReplayInput) (old : Option (List ℕ)) → IsScriptFault fault reading → RunsOut {T = Unit {0}} (Err fault) old old (frames_of_capture read s lines records)
  script_refused (Faults.Input (Inputs.Script bad)) old h =
      let P : Outcome ReplayInput → Type 0 = λ o. RunsOut {T = Unit {0}} (Err (Faults.Input (Inputs.Script bad))) old old o in
      subst P (sym (now ∙ ap (λ (f : Option BadLine). frames_said s reading.requests f records) h)) (refl, Appends-nil old)
  script_refused Faults.Read old h = ((frames_of_capture read s lines records).text, sent_none old _)
  script_refused Faults.Memory old h = ((frames_of_capture read s lines records).text, sent_none old _)
  script_refused Faults.Write old h = absurd h
  script_refused (Faults.Input Inputs.Until) old h = absurd h
  script_refused (Faults.Input (Inputs.Capture number fault)) old h = absurd h

  header_read : (octets : List ℕ) (fault : CapFault) (rs : Result (List Entry × End) CapFault) → ReadsAs octets rs → format_of octets ≡ Err fault → frames_read s reading.requests rs ≡ refused (Inputs.Capture 0 fault)
  header_read octets fault (Ok x) reads e = absurd (let both = sym reads.1.0 ∙ e in cc)
  header_read octets fault (Err f) reads e = (let both : Err f ≡ Err fault = sym reads ∙ e in cc)

  -- the header of the capture has a fault, or can't be read
  pub header_refused : (octets : List ℕ) → ReadsAs octets records → reading.fault ≡ None → (known : Option (List ℕ)) → known ≡ Some octets → (fault : Fault ReplayInput) (old : Option (List ℕ)) → IsOpenFault known fault
      → RunsOut {T = Unit {0}} (Err fault) old old (frames_of_capture read s lines records)
  header_refused octets reads good known is (Faults.Input (Inputs.Capture number fault)) old h =
      let P : Outcome ReplayInput → Type 0 = λ o. RunsOut {T = Unit {0}} (Err (Faults.Input (Inputs.Capture number fault))) old old o in
      subst P (sym (frames_good good ∙ header_read octets fault records reads (known_at known octets _ is h.1) ∙ ap (λ (n : ℕ). refused (Inputs.Capture n fault)) (sym h.0))) (refl, Appends-nil old)
  header_refused octets reads good known is Faults.Read old h = ((frames_of_capture read s lines records).text, sent_none old _)
  header_refused octets reads good known is Faults.Memory old h = ((frames_of_capture read s lines records).text, sent_none old _)
  header_refused octets reads good known is Faults.Write old h = absurd h
  header_refused octets reads good known is (Faults.Input Inputs.Until) old h = absurd h
  header_refused octets reads good known is (Faults.Input (Inputs.Script bad)) old h = absurd h

  -- what is told then: nothing
  pub told_by_script : {H T : Type 0} (alerted : List Alert → H → H → Type 0) (fault : Fault ReplayInput) (r : Result T (Fault ReplayInput)) (h k : H) → IsScriptFault fault reading → r ≡ Err fault → alerted [] h k → WatchedRun alerted (capture_alerts read s lines records) r h k
  told_by_script {H} {T} alerted fault r h k f e a = subst (λ (x : Result T (Fault ReplayInput)). WatchedRun alerted (capture_alerts read s lines records) x h k) (sym e) (by fault f)
    where
      front : AlertedFront alerted (capture_alerts read s lines records) h k
      front = record { first = []; rest = capture_alerts read s lines records; alerted_first = a; parts = refl }

      by : (fault : Fault ReplayInput) → IsScriptFault fault reading → WatchedRun {T = T} alerted (capture_alerts read s lines records) (Err fault) h k
      by (Faults.Input (Inputs.Script bad)) f = alerts_same alerted [] (capture_alerts read s lines records) h k (sym (told_now ∙ ap (λ (f : Option BadLine). both_alerts s reading.requests f records) f)) a
      by Faults.Read f = front
      by Faults.Memory f = front
      by Faults.Write f = absurd f
      by (Faults.Input Inputs.Until) f = absurd f
      by (Faults.Input (Inputs.Capture number fault)) f = absurd f

  told_header : (octets : List ℕ) (fault : CapFault) (rs : Result (List Entry × End) CapFault) → ReadsAs octets rs → format_of octets ≡ Err fault → records_alerts s reading.requests rs ≡ []
  told_header octets fault (Ok x) reads e = absurd (let both = sym reads.1.0 ∙ e in cc)
  told_header octets fault (Err f) reads e = refl

  pub told_by_header : {H T : Type 0} (alerted : List Alert → H → H → Type 0) (octets : List ℕ) → ReadsAs octets records → reading.fault ≡ None → (known : Option (List ℕ)) → known ≡ Some octets → (fault : Fault ReplayInput) (r : Result T (Fault ReplayInput)) (h k : H) → IsOpenFault known fault → r ≡ Err fault → alerted [] h k
      → WatchedRun alerted (capture_alerts read s lines records) r h k
  told_by_header {H} {T} alerted octets reads good known is fault r h k f e a = subst (λ (x : Result T (Fault ReplayInput)). WatchedRun alerted (capture_alerts read s lines records) x h k) (sym e) (by fault f)
    where
      front : AlertedFront alerted (capture_alerts read s lines records) h k
      front = record { first = []; rest = capture_alerts read s lines records; alerted_first = a; parts = refl }

      by : (fault : Fault ReplayInput) → IsOpenFault known fault → WatchedRun {T = T} alerted (capture_alerts read s lines records) (Err fault) h k
      by (Faults.Input (Inputs.Capture number fault)) f = alerts_same alerted [] (capture_alerts read s lines records) h k (sym (told_good good ∙ told_header octets fault records reads (known_at known octets _ is f.1))) a
      by Faults.Read f = front
      by Faults.Memory f = front
      by Faults.Write f = absurd f
      by (Faults.Input Inputs.Until) f = absurd f
      by (Faults.Input (Inputs.Script bad)) f = absurd f

-- ---- a run

-- a reader's records are asked where no moment is moved
pub not_moved : {R : Type 0} {remaining : R → Option (List ℕ)} {l : Left R} {entries : List Entry} {last : End} → Comes remaining l entries last → ComesMoved None remaining l entries last
not_moved {entries = entries} {last = last} comes = record { read = entries; read_last = last; comes = comes; are_moved = unmoved entries last }

module _ {S W H : Type 0} (alerted : List Alert → H → H → Type 0) (streams : S → Option (List Stream)) (at : S → W → H → Place H) (nothing : (s : H) → alerted [] s s) (until : Option ℕ) (asked : List Request) (s : S) (w : W) (h : H) (t : S) (v : W) (k : H)
    (sound : IsSoundPort (at s w h).port) where
  abbrev end : List Request
  end = Asks (Clock (run_end until)) ∷ []

  -- in what is asked a call couldn't go on, or a read failed
  pub not_taken : (stop : Stop) → StopsIn (Took alerted streams at) (Cut alerted streams at) asked stop s w h t v k → EndsHere alerted (streams s) None {T = Unit {0}} (Err (fault_of stop)) (at s w h) (to_run_end until asked) (at t v k)
  not_taken Stops.Read a = unread alerted nothing (streams s) (at s w h) (at t v k) sound None asked end a.first a.rest a.parts a.taken.1
  not_taken Stops.Write a = halted_in alerted nothing (streams s) (at s w h) (at t v k) sound None asked end a.first a.rest Halts.Write a.parts a.halted
  not_taken Stops.Memory a = halted_in alerted nothing (streams s) (at s w h) (at t v k) sound None asked end a.first a.rest Halts.Memory a.parts a.halted

  -- all that is asked is taken, but for the end
  module _ (both : (xs ys : List Alert) (s t u : H) → alerted xs s t → alerted ys t u → alerted (xs ++ ys) s u) (taken : Took alerted streams at asked s w h t v k) (m : ℕ) (is : m ≡ run_end until) (z : Place H) where
    abbrev y : Place H
    y = at t v k

    there : Stands alerted (streams s) None (at s w h) (to_run_end until asked) end y
    there = taken.1 None (at s w h) (to_run_end until asked) end (begun alerted (streams s) nothing None (to_run_end until asked) (at s w h) sound)

    -- and then the end is written
    pub ended_all : {T : Type 0} (o : T) → Appends y.got z.got (ending_text (streams t) (Some m) y.port y.waiting) → alerted (ending_alerts (streams t) (Some m) y.port y.waiting) y.watch z.watch
        → EndsHere alerted (streams s) None (Ok o) (at s w h) (to_run_end until asked) z
    ended_all {T} o text told =
        let P : Option (List Stream) → ℕ → Type 0 = λ f n. Appends y.got z.got (ending_text f (Some n) y.port y.waiting) in
        let Q : Option (List Stream) → ℕ → Type 0 = λ f n. alerted (ending_alerts f (Some n) y.port y.waiting) y.watch z.watch in
        ends_well alerted (streams s) both (at s w h) (to_run_end until asked) {T = T} o end y z there (subst (λ n. P (streams s) n) is (subst (λ f. P f m) taken.0 text)) (subst (λ n. Q (streams s) n) is (subst (λ f. Q f m) taken.0 told))

    -- or a prefix of it
    pub ended_in : FallsShort y.got z.got (ending_text (streams t) (Some m) y.port y.waiting) → AlertedFront alerted (ending_alerts (streams t) (Some m) y.port y.waiting) y.watch z.watch
        → EndsHere alerted (streams s) None {T = Unit {0}} (Err Faults.Write) (at s w h) (to_run_end until asked) z
    ended_in text told =
        let P : Option (List Stream) → ℕ → Type 0 = λ f n. FallsShort y.got z.got (ending_text f (Some n) y.port y.waiting) in
        let Q : Option (List Stream) → ℕ → Type 0 = λ f n. AlertedFront alerted (ending_alerts f (Some n) y.port y.waiting) y.watch z.watch in
        ends_short alerted (streams s) both None (at s w h) (to_run_end until asked) end y z there (subst (λ n. P (streams s) n) is (subst (λ f. P f m) taken.0 text)) (subst (λ n. Q (streams s) n) is (subst (λ f. Q f m) taken.0 told))
