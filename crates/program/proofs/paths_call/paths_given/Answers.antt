use Rattle.std.proofs.Common.{◌≡◌, List, ℕ, Option, Some, Result, Ok, Err, codes, inl, inr, refl, ap, sym, ◌∙◌, subst}
use Rattle.std.specs.Prelude.{IfErr}
use Rattle.text.specs.Buffered.{writer_contents}
use Rattle.clap.specs.Matches.{first_value, found_of}
use Rattle.program.specs.Given.{IsGivenPaths, bounds_in}
use Rattle.stream_bounds.specs.declared.settings.BoundsSettings.{BoundsSettings}
use Rattle.stream_bounds.specs.declared.settings.BoundsValue.{BoundsValue}
use Rattle.program.proofs.paths_call.paths_given.Goals as goal

-- nothing is read
unread : {T E X : Type 0} (r : Result T E) (x : X) → IfErr r (λ _. x ≡ x)
unread (Ok y) x = tt
unread (Err e) x = refl

pub returns-in_default-clause-unread : goal.returns-in_default-clause-unread
returns-in_default-clause-unread g c = unread (bounds_in (found_of c.args.matches.now)) c.args.reader.now

pub returns-in-Err-clause-ending : goal.returns-in-Err-clause-ending
returns-in-Err-clause-ending g c =
    let out = c.end_with_bounds_value in
    let next = first_value (found_of c.args.matches.now) (codes "next") in
    let ends : Result BoundsSettings BoundsValue → Option (List ℕ) → Type 0 = λ settings path. IsGivenPaths settings next path (g.R.Read.remaining c.args.reader.now) out.result.0 (writer_contents g.W.Write.contents c.args.answers) (g.W.Write.contents out.result.1) (g.E.Write.contents c.args.errors.now) (g.E.Write.contents out.new.errors) in
    let said : c.bounds_settings.result ≡ bounds_in (found_of c.args.matches.now) = c.bounds_settings.ensures in
    subst (λ (settings : Result BoundsSettings BoundsValue). ends settings (first_value (found_of c.args.matches.now) (codes "network"))) (sym c.in-Err.is ∙ said)
    (subst (ends (Err c.in-Err.value)) c.in-Some.ensures out.ensures)

pub returns-in-Ok-open-clause-ending : goal.returns-in-Ok-open-clause-ending
returns-in-Ok-open-clause-ending g c =
    let out = c.answer_paths in
    let next = first_value (found_of c.args.matches.now) (codes "next") in
    let ends : Result BoundsSettings BoundsValue → Option (List ℕ) → Type 0 = λ settings path. IsGivenPaths settings next path (g.R.Read.remaining c.args.reader.now) out.result.0 (writer_contents g.W.Write.contents c.args.answers) (g.W.Write.contents out.result.1) (g.E.Write.contents c.args.errors.now) (g.E.Write.contents out.new.errors) in
    let said : c.bounds_settings.result ≡ bounds_in (found_of c.args.matches.now) = c.bounds_settings.ensures in
    let told = rw c.value_of-next.ensures at out.ensures in
    subst (λ (settings : Result BoundsSettings BoundsValue). ends settings (first_value (found_of c.args.matches.now) (codes "network"))) (sym c.in-Ok.is ∙ said)
    (subst (ends (Ok c.in-Ok.settings)) c.in-Some.ensures (inl (g.F.File.Read.remaining c.in-Ok-open.network, told)))

pub returns-in-Err-open-clause-ending : goal.returns-in-Err-open-clause-ending
returns-in-Err-open-clause-ending g c =
    let out = c.end_unopened in
    let next = first_value (found_of c.args.matches.now) (codes "next") in
    let ends : Result BoundsSettings BoundsValue → Option (List ℕ) → Type 0 = λ settings path. IsGivenPaths settings next path (g.R.Read.remaining c.args.reader.now) out.result.0 (writer_contents g.W.Write.contents c.args.answers) (g.W.Write.contents out.result.1) (g.E.Write.contents c.args.errors.now) (g.E.Write.contents out.new.errors) in
    let said : c.bounds_settings.result ≡ bounds_in (found_of c.args.matches.now) = c.bounds_settings.ensures in
    subst (λ (settings : Result BoundsSettings BoundsValue). ends settings (first_value (found_of c.args.matches.now) (codes "network"))) (sym c.in-Ok.is ∙ said)
    (subst (ends (Ok c.in-Ok.settings)) (ap Some c.in-Err-open.ensures ∙ c.in-Some.ensures) (inr out.ensures))
