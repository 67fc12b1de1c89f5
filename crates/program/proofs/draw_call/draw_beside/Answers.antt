use Rattle.std.proofs.Common.{◌≡◌, List, ℕ, Option, Result, Ok, Err, inr, refl, sym, ap, ◌∙◌, subst}
use Rattle.std.specs.Prelude.{IfErr}
use Rattle.text.specs.Buffered.{writer_contents}
use Rattle.capture.specs.declared.writer.TheConstants.{CAPTURE_END}
use Rattle.clap.specs.Matches.{found_of}
use Rattle.drawing.specs.Options.{options_of}
use Rattle.drawing.specs.declared.options.DrawOptions.{DrawOptions}
use Rattle.job.specs.RunEnd.{IsUnanswered}
use Rattle.replay.specs.Texts.{open_text}
use Rattle.script.specs.ScriptEnd.{settings_given}
use Rattle.script.specs.Setup.{Setup}
use Rattle.script.specs.declared.settings.BadValue.{BadValue}
use Rattle.program.specs.Given.{IsPictureBeside, draws_in, settings_in}
use Rattle.program.specs.Reading.{form_in}
use Rattle.program.specs.declared.capture_input.BadForm.{BadForm}
use Rattle.program.specs.declared.capture_input.CaptureForm.{CaptureForm}
use Rattle.program.proofs.draw_call.draw_beside.Goals as goal

-- it holds by itself
where_bad : {F E P : Type 0} (r : Result F E) → P → IfErr r (λ _. P)
where_bad (Ok good) p = tt
where_bad (Err bad) p = p

pub returns-in-Err-clause-unused : goal.returns-in-Err-clause-unused
returns-in-Err-clause-unused g c = where_bad (draws_in (found_of c.args.matches.now)) refl

pub returns-in-Err-open-clause-ending : goal.returns-in-Err-open-clause-ending
returns-in-Err-open-clause-ending g c =
    let out = c.end_unopened in
    let found = found_of c.args.matches.now in
    let told : List ℕ → Type 0 = λ path. IsUnanswered 4 (open_text path) out.result.0 (writer_contents g.W.Write.contents c.args.answers) (g.W.Write.contents out.result.1) (g.E.Write.contents c.args.errors.now) (g.E.Write.contents out.new.errors) in
    let ends : Result Setup BadValue → Result DrawOptions BadValue → Result CaptureForm BadForm → Type 0 = λ s o f. IsPictureBeside s o f c.args.path.now (g.R.Read.remaining c.args.reader.now) out.result.0 (writer_contents g.W.Write.contents c.args.answers) (g.W.Write.contents out.result.1) (g.E.Write.contents c.args.errors.now) (g.E.Write.contents out.new.errors) in
    let settings : ◌≡◌ {A = Result Setup BadValue} (Ok c.in-Ok.settings) (settings_in CAPTURE_END found) = sym c.in-Ok.is ∙ (c.settings_given.ensures ∙ ap (settings_given CAPTURE_END) c.values_of.ensures) in
    let options : ◌≡◌ {A = Result DrawOptions BadValue} (Ok c.in-Ok-options_given.options) (draws_in found) = sym c.in-Ok-options_given.is ∙ (c.options_given.ensures ∙ ap options_of c.draws_of.ensures) in
    let form : ◌≡◌ {A = Result CaptureForm BadForm} (Ok c.in-Ok-form_given.form) (form_in found) = sym c.in-Ok-form_given.is ∙ c.form_given.ensures in
    subst (λ (s : Result Setup BadValue). ends s (draws_in found) (form_in found)) settings
    (subst (λ (o : Result DrawOptions BadValue). ends (Ok c.in-Ok.settings) o (form_in found)) options
    (subst (ends (Ok c.in-Ok.settings) (Ok c.in-Ok-options_given.options)) form (inr (subst told c.in-Err-open.ensures out.ensures))))
