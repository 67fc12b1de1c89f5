use Rattle.std.proofs.Common.{◌≡◌, List, ℕ, Option, Some, Result, Ok, Err, codes, inr, ap, sym, ◌∙◌, subst}
use Rattle.std.specs.Prelude.{IfErr}
use Rattle.text.specs.Buffered.{writer_contents}
use Rattle.clap.specs.Matches.{first_value, found_of}
use Rattle.program.specs.Given.{IsGivenScript, plan_in}
use Rattle.script.specs.declared.settings.BadValue.{BadValue}
use Rattle.traffic.specs.StreamsEnd.{plan_given, words_of_streams}
use Rattle.traffic.specs.declared.plan.Plan.{Plan}
use Rattle.program.proofs.streams_call.script_of_streams.Goals as goal

pub returns-in_default-clause-ending : goal.returns-in_default-clause-ending
returns-in_default-clause-ending g c =
    let out = c.answer_streams in
    let ends : Result Plan BadValue → Option (List ℕ) → Type 0 = λ plan path. IsGivenScript plan path (g.R.Read.remaining c.args.reader.now) out.result.0 (writer_contents g.W.Write.contents c.args.answers) (g.W.Write.contents out.result.1) (g.E.Write.contents c.args.errors.now) (g.E.Write.contents out.new.errors) in
    let said : plan_given (words_of_streams c.streams_of-words.result) ≡ plan_in (found_of c.args.matches.now) = ap plan_given c.streams_of-words.ensures in
    subst (λ (plan : Result Plan BadValue). ends plan (first_value (found_of c.args.matches.now) (codes "with"))) said
    (subst (ends (plan_given (words_of_streams c.streams_of-words.result))) c.in_default.ensures (rw c.as_slice.ensures at out.ensures.ending))

pub returns-in_default-clause-unread : goal.returns-in_default-clause-unread
returns-in_default-clause-unread g c =
    let said : plan_given (words_of_streams c.streams_of-words.result) ≡ plan_in (found_of c.args.matches.now) = ap plan_given c.streams_of-words.ensures in
    subst (λ (plan : Result Plan BadValue). IfErr plan (λ _. c.answer_streams.new.reader ≡ c.args.reader.now)) said c.answer_streams.ensures.unread

pub returns-in-Err-clause-ending : goal.returns-in-Err-clause-ending
returns-in-Err-clause-ending g c =
    let out = c.end_with_value in
    let ends : Result Plan BadValue → Option (List ℕ) → Type 0 = λ plan path. IsGivenScript plan path (g.R.Read.remaining c.args.reader.now) out.result.0 (writer_contents g.W.Write.contents c.args.answers) (g.W.Write.contents out.result.1) (g.E.Write.contents c.args.errors.now) (g.E.Write.contents out.new.errors) in
    let said : Err c.in-Err.value ≡ plan_in (found_of c.args.matches.now) = sym c.in-Err.is ∙ (c.plan_given.ensures.given ∙ ap plan_given c.streams_of-words.ensures) in
    subst (λ (plan : Result Plan BadValue). ends plan (first_value (found_of c.args.matches.now) (codes "with"))) said
    (subst (ends (Err c.in-Err.value)) c.in-Some.ensures out.ensures)

pub returns-in-Err-open-clause-ending : goal.returns-in-Err-open-clause-ending
returns-in-Err-open-clause-ending g c =
    let out = c.end_unopened in
    let ends : Result Plan BadValue → Option (List ℕ) → Type 0 = λ plan path. IsGivenScript plan path (g.R.Read.remaining c.args.reader.now) out.result.0 (writer_contents g.W.Write.contents c.args.answers) (g.W.Write.contents out.result.1) (g.E.Write.contents c.args.errors.now) (g.E.Write.contents out.new.errors) in
    let said : Ok c.in_default-plan_given.field-0 ≡ plan_in (found_of c.args.matches.now) = sym c.in_default-plan_given.is ∙ (c.plan_given.ensures.given ∙ ap plan_given c.streams_of-words.ensures) in
    subst (λ (plan : Result Plan BadValue). ends plan (first_value (found_of c.args.matches.now) (codes "with"))) said
    (subst (ends (Ok c.in_default-plan_given.field-0)) (ap Some c.in-Err-open.ensures ∙ c.in-Some.ensures) (inr out.ensures))
