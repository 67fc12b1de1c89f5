use Rattle.std.proofs.Common.{◌≡◌, Result, Ok, inr, sym, ◌∙◌, subst}
use Rattle.text.specs.Buffered.{writer_contents}
use Rattle.clap.specs.Matches.{found_of}
use Rattle.compare.specs.declared.settings.CompareSettings.{CompareSettings}
use Rattle.program.specs.Compared.{IsGivenCompare, compare_in}
use Rattle.program.specs.declared.compare_call.BadCompare.{BadCompare}
use Rattle.program.proofs.compare_call.compare_given.Goals as goal

pub returns-in-Err-open_both : goal.returns-in-Err-open_both
returns-in-Err-open_both g c =
    let out = c.end_unopened in
    let given : ◌≡◌ {A = Result CompareSettings BadCompare} (Ok c.in-Ok.settings) (compare_in (found_of c.args.matches.now)) = sym c.in-Ok.is ∙ c.settings_of.ensures in
    let ends : Result CompareSettings BadCompare → Type 0 = λ s. IsGivenCompare s out.result.0 (writer_contents g.W.Write.contents c.args.answers) (g.W.Write.contents out.result.1) (g.E.Write.contents c.args.errors.now) (g.E.Write.contents out.new.errors) in
    subst ends given (inr (c.in-Err-open_both.path.now, out.ensures))
