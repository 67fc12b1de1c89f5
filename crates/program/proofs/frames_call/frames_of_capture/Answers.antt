use Rattle.std.proofs.Common.{◌≡◌, List, ℕ, Option, Result, Ok, Err, inl, inr, sym, ◌∙◌, subst}
use Rattle.text.specs.Buffered.{writer_contents}
use Rattle.capture.specs.declared.writer.TheConstants.{CAPTURE_END}
use Rattle.job.specs.RunEnd.{IsUnanswered}
use Rattle.clap.specs.Matches.{found_of}
use Rattle.std.specs.Prelude.{IfOk}
use Rattle.program.specs.Given.{IsGivenCapture, settings_in}
use Rattle.program.specs.Reading.{form_in, read_as}
use Rattle.program.specs.declared.capture_input.BadForm.{BadForm}
use Rattle.program.specs.declared.capture_input.CaptureForm.{CaptureForm}
use Rattle.program.specs.Strict.{IsWatchedBeside}
use Rattle.frame_table.specs.Alerts.{IsWatchedCaptureEnding}
use Rattle.replay.specs.Texts.{open_text}
use Rattle.script.specs.Given.{GivenWords}
use Rattle.script.specs.ScriptEnd.{settings_given}
use Rattle.script.specs.Setup.{Setup}
use Rattle.script.specs.declared.settings.BadValue.{BadValue}
use Rattle.program.proofs.frames_call.frames_of_capture.Goals as goal

-- it holds by itself
where_formed : {F E P : Type 0} (r : Result F E) → P → IfOk r (λ _. P)
where_formed (Ok form) p = p
where_formed (Err bad) p = tt

pub returns-in-Err-open-clause-ending : goal.returns-in-Err-open-clause-ending
returns-in-Err-open-clause-ending g c =
    let out = c.end_unopened in
    let given : ◌≡◌ {A = Result Setup BadValue} (Ok c.in-Ok.settings) _ = sym c.in-Ok.is ∙ c.settings_given.ensures in
    let told : List ℕ → Type 0 = λ path. IsUnanswered 4 (open_text path) out.result.0 (writer_contents g.W.Write.contents c.args.answers) (g.W.Write.contents out.result.1) (g.E.Write.contents c.args.errors.now) (g.E.Write.contents out.new.errors) in
    let ends : Result Setup BadValue → Type 0 = λ s. IsGivenCapture s (Ok c.in-Ok-form_given.form) c.args.path.now (g.R.Read.remaining c.args.reader.now) out.result.0 (writer_contents g.W.Write.contents c.args.answers) (g.W.Write.contents out.result.1) (g.E.Write.contents c.args.errors.now) (g.E.Write.contents out.new.errors) in
    let formed : Result CaptureForm BadForm → Type 0 = λ form. IsGivenCapture (settings_in CAPTURE_END (found_of c.args.matches.now)) form c.args.path.now (g.R.Read.remaining c.args.reader.now) out.result.0 (writer_contents g.W.Write.contents c.args.answers) (g.W.Write.contents out.result.1) (g.E.Write.contents c.args.errors.now) (g.E.Write.contents out.new.errors) in
    subst formed (sym c.in-Ok-form_given.is ∙ c.form_given.ensures)
    (subst (λ (words : GivenWords). ends (settings_given CAPTURE_END words)) c.values_of.ensures (subst ends given (inr (subst told c.in-Err-open.ensures c.end_unopened.ensures))))

pub returns-in-Err-clause-watched : goal.returns-in-Err-clause-watched
returns-in-Err-clause-watched g c =
    let given : ◌≡◌ {A = Result Setup BadValue} (Err c.in-Err.value) _ = sym c.in-Err.is ∙ c.settings_given.ensures in
    let watched : Result Setup BadValue → Type 0 = λ s. IsWatchedBeside g.H.Watch.alerted s (g.R.Read.remaining c.args.reader.now) c.end_with_value.result.0 c.args.watch.now c.args.watch.now in
    where_formed (form_in (found_of c.args.matches.now)) (subst (λ (words : GivenWords). watched (settings_given CAPTURE_END words)) c.values_of.ensures (subst watched given tt))

pub returns-in-Ok-open-clause-watched : goal.returns-in-Ok-open-clause-watched
returns-in-Ok-open-clause-watched g c =
    let out = c.answer_frames_of_capture-ended in
    let input = g.R.Read.remaining c.args.reader.now in
    let octets = read_as c.in-Ok-form_given.form (g.F.File.Read.remaining c.in-Ok-open.capture) in
    let given : ◌≡◌ {A = Result Setup BadValue} (Ok c.in-Ok.settings) _ = sym c.in-Ok.is ∙ c.settings_given.ensures in
    let watched : Result Setup BadValue → Type 0 = λ s. IsWatchedBeside g.H.Watch.alerted s input out.result.0 c.args.watch.now out.new.watch in
    let told : Option (List ℕ) → Type 0 = λ read. IsWatchedCaptureEnding g.H.Watch.alerted c.in-Ok.settings input read out.result.0 c.args.watch.now out.new.watch in
    where_formed (form_in (found_of c.args.matches.now)) (subst (λ (words : GivenWords). watched (settings_given CAPTURE_END words)) c.values_of.ensures (subst watched given (inl (octets, subst told c.classic_reader-capture.ensures out.ensures.watched))))

pub returns-in-Err-open-clause-watched : goal.returns-in-Err-open-clause-watched
returns-in-Err-open-clause-watched g c =
    let out = c.end_unopened in
    let given : ◌≡◌ {A = Result Setup BadValue} (Ok c.in-Ok.settings) _ = sym c.in-Ok.is ∙ c.settings_given.ensures in
    let watched : Result Setup BadValue → Type 0 = λ s. IsWatchedBeside g.H.Watch.alerted s (g.R.Read.remaining c.args.reader.now) out.result.0 c.args.watch.now c.args.watch.now in
    where_formed (form_in (found_of c.args.matches.now)) (subst (λ (words : GivenWords). watched (settings_given CAPTURE_END words)) c.values_of.ensures (subst watched given (inr out.ensures.status)))
