-- A run on a script and a capture that is drawn, from what its parts leave.
use Rattle.std.proofs.Common.{◌≡◌, ℕ, List, length, false, true, Option, Some, None, Result, Ok, Err, inl, inr, refl, sym, ap, ◌∙◌, subst}
use Rattle.std.specs.Prelude.{IfSome}
use Rattle.std.specs.Io.KnownBytes.{Appends}
use Rattle.std.proofs.KnownBytes.{Keeps-refl}
use Rattle.abstract_port.specs.Settled.{IsSettling}
use Rattle.capture.specs.FileHeader.{format_of}
use Rattle.job.specs.Outcome.{Outcome, RunsOut}
use Rattle.job.specs.RunEnd.{IsEndOf, IsOrFails}
use Rattle.job.specs.declared.fault.Fault.TheVariants as Faults
use Rattle.job.specs.declared.report.Ended.{Ended}
use Rattle.job.proofs.RunEndLaws.{ended, out_by}
use Rattle.picture.specs.Drawn.{Drawing, new_drawing}
use Rattle.replay.specs.ByEvents.{StopsIn}
use Rattle.replay.specs.Lines as Beside
use Rattle.replay.specs.Outcome.{IsOpenFault, ended_by}
use Rattle.replay.specs.WholeScript.{IsScriptFault}
use Rattle.replay.specs.declared.faults.ReplayInput.TheVariants as Inputs
use Rattle.replay.specs.declared.faults.Stop.{Stop}
use Rattle.replay.specs.declared.faults.Stop.TheVariants as Stops
use Rattle.replay.proofs.EndLaws.{no_fault, some_fault}
use Rattle.replay.proofs.ReplayLaws.{known_at, when_known}
use Rattle.script.specs.Setup.{Setup}
use Rattle.script.specs.Walked.{Taking}
use Rattle.text.specs.Script.{script_of}
use Rattle.text.specs.Writes.{FallsShort}
use Rattle.text.proofs.Fronts.{Appends-nil, front_of_short}
use Rattle.drawing.specs.Followed.{BandsOfRequests, BandsTo}
use Rattle.drawing.specs.OfCapture.{BandsOfCapture, BandsRead, picture_said, refused}
use Rattle.drawing.specs.PictureEnd.{picture_by, picture_to}
use Rattle.drawing.specs.Words.{AbstractPort, BadLine, BandsOfBoth, CapFault, Command, DrawsAll, End, EndsSo, Entry, Fault, ForSomeBands, IsCapturePicture, IsDrawnBeside, IsDrawnWhole, IsReader, IsSoundPort, Place, ReadsAs, ReplayInput, Request, TcFault, WhereWhole, asked_to, came_from, first_place, is_too_late, merged, picture_of_capture, picture_read, port_on, replay_telling, run_end, timed_from}
use Rattle.drawing.specs.declared.options.DrawOptions.{DrawOptions}
use Rattle.drawing.proofs.EndLaws.{front_of_nothing, map_bands, no_halt, with_some}
use Rattle.drawing.proofs.WalkLaws.{bands_to_end, picture_drawn}

-- 1. The end

-- up to which moment a run was to go on
pub asked_is : (until : Option ℕ) (p q : AbstractPort) → q ≡ port_on (Some (run_end until)) p → asked_to until p.now q.now ≡ (port_on until p).now
asked_is None p q e = refl
asked_is (Some until) p q e = ap (λ (r : AbstractPort). r.now) e

-- 2. What is drawn of both

module _ (s : Setup) (o : DrawOptions) (script : List Request) (entries : List Entry) (last : End) where
  abbrev asked : List Request
  asked = merged (timed_from 0 script) (came_from 0 0 entries)

  module _ (law : IsSettling) (x y : Place) (first : x ≡ first_place s o) (sound : IsSoundPort x.port) (drawn : DrawsAll s o asked x y) where
    pub text_of_both : (b : Drawing) → picture_to (Some (run_end s.until)) s o y.port y.course b ≡ (picture_read s o script (Ok (entries, last)) b).text
    text_of_both b =
        picture_drawn s o law (Some (run_end s.until)) asked x y sound drawn b
        ∙ ap (λ (u : Place). picture_by (Some (run_end s.until)) s o asked u.port u.course b) first

    pub bands_of_both : (b : Drawing) → BandsTo (Some (run_end s.until)) s o y.port y.course y.bands b → BandsOfBoth s o script entries b
    bands_of_both b at_end =
        let P : Place → Type 0 = λ u. BandsOfRequests (Some (run_end s.until)) s o asked u.port u.course u.bands b in
        subst P first (bands_to_end s o law (Some (run_end s.until)) asked x y sound drawn b at_end)

    -- a write of it fails
    pub both_short : {T : Type 0} {r : Result T (Fault ReplayInput)} (old new : Option (List ℕ)) → r ≡ Err Faults.Write
        → ForSomeBands (λ b. BandsTo (Some (run_end s.until)) s o y.port y.course y.bands b × FallsShort old new (picture_to (Some (run_end s.until)) s o y.port y.course b))
        → ForSomeBands (λ b. WhereWhole r (BandsOfBoth s o script entries b) × IsDrawnWhole r old new (picture_read s o script (Ok (entries, last)) b))
    both_short {T} {r} old new e w =
        let P : Result T (Fault ReplayInput) → Type 0 = λ q. ForSomeBands (λ b. WhereWhole q (BandsOfBoth s o script entries b) × IsDrawnWhole q old new (picture_read s o script (Ok (entries, last)) b)) in
        subst P (sym e) (map_bands (λ b h. (tt, subst (FallsShort old new) (text_of_both b) h.1)) w)

    -- all of it is written
    pub both_whole : (broken : Option (ℕ × CapFault)) (old new : Option (List ℕ)) → EndsSo entries last broken
        → ForSomeBands (λ b. BandsTo (Some (run_end s.until)) s o y.port y.course y.bands b × Appends old new (picture_to (Some (run_end s.until)) s o y.port y.course b))
        → ForSomeBands (λ b. WhereWhole (ended_by broken) (BandsOfBoth s o script entries b) × IsDrawnWhole (ended_by broken) old new (picture_read s o script (Ok (entries, last)) b))
    both_whole None old new ending w =
        map_bands (λ b h. (bands_of_both b h.0, (no_fault entries last (length entries) ending, subst (Appends old new) (text_of_both b) h.1))) w
    both_whole (Some (number, fault)) old new ending w =
        map_bands (λ b h. (bands_of_both b h.0, (some_fault entries last number fault ending, subst (Appends old new) (text_of_both b) h.1))) w

  -- a read of the records failed
  pub both_unread : {T : Type 0} {r : Result T (Fault ReplayInput)} (old : Option (List ℕ)) → r ≡ Err Faults.Read
      → ForSomeBands (λ b. WhereWhole r (BandsOfBoth s o script entries b) × IsDrawnWhole r old old (picture_read s o script (Ok (entries, last)) b))
  both_unread {T} {r} old e =
      let P : Result T (Fault ReplayInput) → Type 0 = λ q. ForSomeBands (λ b. WhereWhole q (BandsOfBoth s o script entries b) × IsDrawnWhole q old old (picture_read s o script (Ok (entries, last)) b)) in
      subst P (sym e) (with_some (tt, Keeps-refl old))

-- a run of which no call fails stops where a read did
pub stops_unread : {S W H : Type 0} (took : Taking S W H) (requests : List Request) (stop : Stop) (d : S) (w : W) (h : H) (e : S) (v : W) (k : H) → StopsIn took no_halt requests stop d w h e v k → stop ≡ Stops.Read
stops_unread took requests Stops.Read d w h e v k stops = refl
stops_unread took requests Stops.Write d w h e v k stops = absurd stops.halted
stops_unread took requests Stops.Memory d w h e v k stops = absurd stops.halted

-- 3. By the octets of both

module _ (read : List (List ℕ) → Result Command TcFault) (s : Setup) (o : DrawOptions) (lines : List ℕ) (records : Result (List Entry × End) CapFault) where
  -- out of memory, or a read failed, before anything is drawn
  pub nothing_kept : {T : Type 0} {r : Result T (Fault ReplayInput)} (old : Option (List ℕ)) → r ≡ Err Faults.Memory → IsDrawnBeside read s o lines records r old old
  nothing_kept {T} {r} old e = subst (λ (q : Result T (Fault ReplayInput)). IsDrawnBeside read s o lines records q old old) (sym e) (with_some (tt, Keeps-refl old))

  nothing_read : (old : Option (List ℕ)) → IsDrawnBeside {T = Unit {0}} read s o lines records (Err Faults.Read) old old
  nothing_read old = with_some (tt, Keeps-refl old)

  -- the moment to run to is too late
  pub late_refused : is_too_late s.until ≡ true → (old : Option (List ℕ)) → IsDrawnBeside {T = Unit {0}} read s o lines records (Err (Faults.Input Inputs.Until)) old old
  late_refused late old =
      let b = new_drawing 0 None in
      let is : picture_of_capture read s o lines records b ≡ refused Inputs.Until = rw late refl in
      let P : Outcome ReplayInput → Type 0 = λ whole. IsDrawnWhole {T = Unit {0}} (Err (Faults.Input Inputs.Until)) old old whole in
      with_some (tt, subst P (sym is) (refl, Appends-nil old))

  module _ (late : is_too_late s.until ≡ false) where
    now : (b : Drawing) → picture_of_capture read s o lines records b ≡ picture_said s o (Beside.reading_of read (script_of lines)).requests (Beside.reading_of read (script_of lines)).fault records b
    now b = rw late refl

    pub picture_good : (Beside.reading_of read (script_of lines)).fault ≡ None → (b : Drawing) → picture_of_capture read s o lines records b ≡ picture_read s o (Beside.reading_of read (script_of lines)).requests records b
    picture_good e b = now b ∙ ap (λ (f : Option BadLine). picture_said s o (Beside.reading_of read (script_of lines)).requests f records b) e

    -- the script has a fault, or can't be read
    pub script_refused : (fault : Fault ReplayInput) (old : Option (List ℕ)) → IsScriptFault fault (Beside.reading_of read (script_of lines)) → IsDrawnBeside {T = Unit {0}} read s o lines records (Err fault) old old
    script_refused (Faults.Input (Inputs.Script bad)) old h =
        let b = new_drawing 0 None in
        let P : Outcome ReplayInput → Type 0 = λ whole. IsDrawnWhole {T = Unit {0}} (Err (Faults.Input (Inputs.Script bad))) old old whole in
        with_some (tt, subst P (sym (now b ∙ ap (λ (f : Option BadLine). picture_said s o (Beside.reading_of read (script_of lines)).requests f records b) h)) (refl, Appends-nil old))
    script_refused Faults.Read old h = nothing_read old
    script_refused Faults.Memory old h = nothing_kept {T = Unit {0}} {r = Err Faults.Memory} old refl
    script_refused Faults.Write old h = absurd h
    script_refused (Faults.Input Inputs.Until) old h = absurd h
    script_refused (Faults.Input (Inputs.Capture number fault)) old h = absurd h

    header_read : (octets : List ℕ) (fault : CapFault) (rs : Result (List Entry × End) CapFault) → ReadsAs octets rs → format_of octets ≡ Err fault → (b : Drawing)
        → BandsRead s o (Beside.reading_of read (script_of lines)).requests rs b × (picture_read s o (Beside.reading_of read (script_of lines)).requests rs b ≡ refused (Inputs.Capture 0 fault))
    header_read octets fault (Ok x) reads e b = absurd (let both = sym reads.1.0 ∙ e in cc)
    header_read octets fault (Err f) reads e b = (tt, (let both : Err f ≡ Err fault = sym reads ∙ e in cc))

    -- the header of the capture has a fault, or can't be read
    pub header_refused : (octets : List ℕ) → ReadsAs octets records → (Beside.reading_of read (script_of lines)).fault ≡ None → (known : Option (List ℕ)) → known ≡ Some octets → (fault : Fault ReplayInput) (old : Option (List ℕ)) → IsOpenFault known fault
        → IsDrawnBeside {T = Unit {0}} read s o lines records (Err fault) old old
    header_refused octets reads good known is (Faults.Input (Inputs.Capture number fault)) old h =
        let b = new_drawing 0 None in
        let P : Outcome ReplayInput → Type 0 = λ whole. IsDrawnWhole {T = Unit {0}} (Err (Faults.Input (Inputs.Capture number fault))) old old whole in
        let both = header_read octets fault records reads (known_at known octets _ is h.1) b in
        with_some (both.0, subst P (sym (picture_good good b ∙ both.1 ∙ ap (λ (n : ℕ). refused (Inputs.Capture n fault)) (sym h.0))) (refl, Appends-nil old))
    header_refused octets reads good known is Faults.Read old h = nothing_read old
    header_refused octets reads good known is Faults.Memory old h = nothing_kept {T = Unit {0}} {r = Err Faults.Memory} old refl
    header_refused octets reads good known is Faults.Write old h = absurd h
    header_refused octets reads good known is (Faults.Input Inputs.Until) old h = absurd h
    header_refused octets reads good known is (Faults.Input (Inputs.Script bad)) old h = absurd h

    -- both are read, and drawn
    pub both_good : {T : Type 0} (r : Result T (Fault ReplayInput)) (script : List Request) (entries : List Entry) (last : End) (old new : Option (List ℕ)) → (Beside.reading_of read (script_of lines)).fault ≡ None → script ≡ (Beside.reading_of read (script_of lines)).requests → records ≡ Ok (entries, last)
        → ForSomeBands (λ b. WhereWhole r (BandsOfBoth s o script entries b) × IsDrawnWhole r old new (picture_read s o script (Ok (entries, last)) b)) → IsDrawnBeside read s o lines records r old new
    both_good r script entries last old new good same is w =
        let P : List Request → Type 0 = λ rs. ForSomeBands (λ b. WhereWhole r (BandsOfBoth s o rs entries b) × IsDrawnWhole r old new (picture_read s o rs (Ok (entries, last)) b)) in
        let Q : Result (List Entry × End) CapFault → Type 0 = λ rs. ForSomeBands (λ b. WhereWhole r (BandsRead s o (Beside.reading_of read (script_of lines)).requests rs b) × IsDrawnWhole r old new (picture_read s o (Beside.reading_of read (script_of lines)).requests rs b)) in
        map_bands (λ b h. (h.0, subst (IsDrawnWhole r old new) (sym (picture_good good b)) h.1)) (subst Q (sym is) (subst P same w))

-- 4. Runs through a buffer

-- what is drawn is what runs leave
pub runs_of_both : {T : Type 0} (run : Result T (Fault ReplayInput)) (old new : Option (List ℕ)) (whole : Outcome ReplayInput) → IsDrawnWhole run old new whole → RunsOut run old new whole
runs_of_both (Ok x) old new whole d = d
runs_of_both (Err (Faults.Input bad)) old new whole d = d
runs_of_both (Err Faults.Read) old new whole d = front_of_nothing old new whole.text d
runs_of_both (Err Faults.Write) old new whole d = front_of_short old new whole.text d
runs_of_both (Err Faults.Memory) old new whole d = front_of_nothing old new whole.text d

whole_before : (before run : Result (Unit {0}) (Fault ReplayInput)) (B : Type 0) → IsOrFails run before → WhereWhole before B → WhereWhole run B
whole_before before run B (inl same) w = subst (λ (r : Result (Unit {0}) (Fault ReplayInput)). WhereWhole r B) (sym same) w
whole_before before run B (inr failed) w = subst (λ (r : Result (Unit {0}) (Fault ReplayInput)). WhereWhole r B) (sym failed) tt

-- a run that was drawn ends as a picture
pub capture_ending : (s : Setup) (o : DrawOptions) (before : Result (Unit {0}) (Fault ReplayInput)) (old mid script capture : Option (List ℕ)) (end : Ended) (got errors_old errors_new : Option (List ℕ))
    → ((read : List (List ℕ) → Result Command TcFault) → IsReader read
    → IfSome script (λ lines. IfSome capture (λ octets. (records : Result (List Entry × End) CapFault) → ReadsAs octets records → IsDrawnBeside read s o lines records before old mid)))
    → IsEndOf replay_telling before mid end got errors_old errors_new → IsCapturePicture s o script capture end old got errors_old errors_new
capture_ending s o before old mid script capture end got errors_old errors_new drawn is_end =
    ended replay_telling before mid end got errors_old errors_new _ is_end
    (λ run out same keeps read is. when_known script _ (λ lines known. when_known capture _ (λ octets known'. λ records reads.
    map_bands (λ b h. (
      whole_before before run (BandsOfCapture read s o lines records b) same h.0,
      out_by old mid out (picture_of_capture read s o lines records b) keeps before run same (runs_of_both before old mid (picture_of_capture read s o lines records b) h.1),
    )) (known_at capture octets _ known' (known_at script lines _ known (drawn read is)) records reads))))
