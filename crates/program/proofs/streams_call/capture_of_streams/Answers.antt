use Rattle.std.proofs.Common.{◌≡◌, List, ℕ, Option, Result, Ok, Err, ap, sym, ◌∙◌, subst}
use Rattle.text.specs.Buffered.{writer_contents}
use Rattle.clap.specs.Matches.{found_of}
use Rattle.program.specs.Given.{IsGivenTableCapture, plan_in}
use Rattle.script.specs.declared.settings.BadValue.{BadValue}
use Rattle.traffic.specs.StreamsEnd.{plan_given}
use Rattle.traffic.specs.declared.plan.Plan.{Plan}
use Rattle.program.proofs.streams_call.capture_of_streams.Goals as goal

pub returns-in-Ok-clause-ending : goal.returns-in-Ok-clause-ending
returns-in-Ok-clause-ending g c =
    let out = c.capture_to in
    let ends : Result Plan BadValue → Type 0 = λ plan. IsGivenTableCapture plan c.args.path.now (g.R.Read.remaining c.args.reader.now) out.result.0 (writer_contents g.W.Write.contents c.args.answers) (g.W.Write.contents out.result.1) (g.E.Write.contents c.args.errors.now) (g.E.Write.contents out.new.errors) in
    let said : Ok c.in-Ok.plan ≡ plan_in (found_of c.args.matches.now) = sym c.in-Ok.is ∙ (c.plan_given.ensures.given ∙ ap plan_given c.streams_of.ensures) in
    subst ends said out.ensures

pub returns-in-Err-clause-ending : goal.returns-in-Err-clause-ending
returns-in-Err-clause-ending g c =
    let out = c.end_with_value in
    let ends : Result Plan BadValue → Type 0 = λ plan. IsGivenTableCapture plan c.args.path.now (g.R.Read.remaining c.args.reader.now) out.result.0 (writer_contents g.W.Write.contents c.args.answers) (g.W.Write.contents out.result.1) (g.E.Write.contents c.args.errors.now) (g.E.Write.contents out.new.errors) in
    let said : Err c.in-Err.value ≡ plan_in (found_of c.args.matches.now) = sym c.in-Err.is ∙ (c.plan_given.ensures.given ∙ ap plan_given c.streams_of.ensures) in
    subst ends said out.ensures
