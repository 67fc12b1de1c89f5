use Rattle.std.proofs.Common.{◌≡◌, List, ℕ, Option, Some, Result, Ok, Err, codes, inl, inr, ap, sym, ◌∙◌, subst}
use Rattle.text.specs.Buffered.{writer_contents}
use Rattle.std.specs.Prelude.{IfErr}
use Rattle.clap.specs.Matches.{first_value, found_of}
use Rattle.frame_table.specs.Alerts as Frames
use Rattle.frame_table.specs.Outcome.{whole_frames}
use Rattle.program.specs.Given.{IsGivenTable, settings_in}
use Rattle.program.specs.Strict.{IsWatchedTable}
use Rattle.wire_time.specs.Moment.{greatest_moment}
use Rattle.script.specs.ScriptEnd.{IsEnding, settings_given}
use Rattle.script.specs.Given.{GivenWords}
use Rattle.script.specs.Setup.{Setup}
use Rattle.script.specs.declared.settings.BadValue.{BadValue}
use Rattle.program.proofs.frames_call.frames_of_script.Goals as goal

pub returns-in_default-clause-ending : goal.returns-in_default-clause-ending
returns-in_default-clause-ending g c =
    let out = c.answer_frames in
    let ends : GivenWords → Type 0 = λ words. IsEnding whole_frames (settings_given greatest_moment words) (g.R.Read.remaining c.args.reader.now) out.result.0 (writer_contents g.W.Write.contents c.args.answers) (g.W.Write.contents out.result.1) (g.E.Write.contents c.args.errors.now) (g.E.Write.contents out.new.errors) in
    subst (λ (path : Option (List ℕ)). IsGivenTable (settings_in greatest_moment (found_of c.args.matches.now)) path (g.R.Read.remaining c.args.reader.now) out.result.0 (writer_contents g.W.Write.contents c.args.answers) (g.W.Write.contents out.result.1) (g.E.Write.contents c.args.errors.now) (g.E.Write.contents out.new.errors)) c.in_default.ensures
    (subst ends c.values_of-values.ensures out.ensures.ending)

pub returns-in_default-clause-unread : goal.returns-in_default-clause-unread
returns-in_default-clause-unread g c =
    subst (λ (words : GivenWords). IfErr (settings_given greatest_moment words) (λ _. c.answer_frames.new.reader ≡ c.args.reader.now)) c.values_of-values.ensures c.answer_frames.ensures.unread

pub returns-in-Err-clause-ending : goal.returns-in-Err-clause-ending
returns-in-Err-clause-ending g c =
    let out = c.end_with_value in
    let ends : Result Setup BadValue → Option (List ℕ) → Type 0 = λ settings path. IsGivenTable settings path (g.R.Read.remaining c.args.reader.now) out.result.0 (writer_contents g.W.Write.contents c.args.answers) (g.W.Write.contents out.result.1) (g.E.Write.contents c.args.errors.now) (g.E.Write.contents out.new.errors) in
    let said : c.settings_given.result ≡ settings_in greatest_moment (found_of c.args.matches.now) = c.settings_given.ensures ∙ ap (settings_given greatest_moment) c.values_of-values.ensures in
    subst (λ (settings : Result Setup BadValue). ends settings (first_value (found_of c.args.matches.now) (codes "by-stream"))) (sym c.in-Err.is ∙ said)
    (subst (ends (Err c.in-Err.value)) c.in-Some.ensures out.ensures)

pub returns-in-Ok-open-clause-ending : goal.returns-in-Ok-open-clause-ending
returns-in-Ok-open-clause-ending g c =
    let out = c.answer_frames_by_stream in
    let ends : Result Setup BadValue → Option (List ℕ) → Type 0 = λ settings path. IsGivenTable settings path (g.R.Read.remaining c.args.reader.now) out.result.0 (writer_contents g.W.Write.contents c.args.answers) (g.W.Write.contents out.result.1) (g.E.Write.contents c.args.errors.now) (g.E.Write.contents out.new.errors) in
    let said : c.settings_given.result ≡ settings_in greatest_moment (found_of c.args.matches.now) = c.settings_given.ensures ∙ ap (settings_given greatest_moment) c.values_of-values.ensures in
    subst (λ (settings : Result Setup BadValue). ends settings (first_value (found_of c.args.matches.now) (codes "by-stream"))) (sym c.in-Ok.is ∙ said)
    (subst (ends (Ok c.in-Ok.settings)) c.in-Some.ensures (inl (g.F.File.Read.remaining c.in-Ok-open.table, out.ensures.ending)))

pub returns-in-Err-open-clause-ending : goal.returns-in-Err-open-clause-ending
returns-in-Err-open-clause-ending g c =
    let out = c.end_unopened in
    let ends : Result Setup BadValue → Option (List ℕ) → Type 0 = λ settings path. IsGivenTable settings path (g.R.Read.remaining c.args.reader.now) out.result.0 (writer_contents g.W.Write.contents c.args.answers) (g.W.Write.contents out.result.1) (g.E.Write.contents c.args.errors.now) (g.E.Write.contents out.new.errors) in
    let said : c.settings_given.result ≡ settings_in greatest_moment (found_of c.args.matches.now) = c.settings_given.ensures ∙ ap (settings_given greatest_moment) c.values_of-values.ensures in
    subst (λ (settings : Result Setup BadValue). ends settings (first_value (found_of c.args.matches.now) (codes "by-stream"))) (sym c.in-Ok.is ∙ said)
    (subst (ends (Ok c.in-Ok.settings)) (ap Some c.in-Err-open.ensures ∙ c.in-Some.ensures) (inr out.ensures))

pub returns-in_default-clause-watched : goal.returns-in_default-clause-watched
returns-in_default-clause-watched g c =
    let out = c.answer_frames in
    let watched : GivenWords → Type 0 = λ words. Frames.IsWatchedEnding g.H.Watch.alerted (settings_given greatest_moment words) (g.R.Read.remaining c.args.reader.now) out.result.0 c.args.watch.now out.new.watch in
    subst (λ (path : Option (List ℕ)). IsWatchedTable g.H.Watch.alerted (settings_in greatest_moment (found_of c.args.matches.now)) path (g.R.Read.remaining c.args.reader.now) out.result.0 c.args.watch.now out.new.watch) c.in_default.ensures
    (subst watched c.values_of-values.ensures out.ensures.watched)

pub returns-in-Err-clause-watched : goal.returns-in-Err-clause-watched
returns-in-Err-clause-watched g c =
    let watched : Result Setup BadValue → Option (List ℕ) → Type 0 = λ settings path. IsWatchedTable g.H.Watch.alerted settings path (g.R.Read.remaining c.args.reader.now) c.end_with_value.result.0 c.args.watch.now c.args.watch.now in
    let said : c.settings_given.result ≡ settings_in greatest_moment (found_of c.args.matches.now) = c.settings_given.ensures ∙ ap (settings_given greatest_moment) c.values_of-values.ensures in
    subst (λ (settings : Result Setup BadValue). watched settings (first_value (found_of c.args.matches.now) (codes "by-stream"))) (sym c.in-Err.is ∙ said)
    (subst (watched (Err c.in-Err.value)) c.in-Some.ensures tt)

pub returns-in-Ok-open-clause-watched : goal.returns-in-Ok-open-clause-watched
returns-in-Ok-open-clause-watched g c =
    let out = c.answer_frames_by_stream in
    let watched : Result Setup BadValue → Option (List ℕ) → Type 0 = λ settings path. IsWatchedTable g.H.Watch.alerted settings path (g.R.Read.remaining c.args.reader.now) out.result.0 c.args.watch.now out.new.watch in
    let said : c.settings_given.result ≡ settings_in greatest_moment (found_of c.args.matches.now) = c.settings_given.ensures ∙ ap (settings_given greatest_moment) c.values_of-values.ensures in
    subst (λ (settings : Result Setup BadValue). watched settings (first_value (found_of c.args.matches.now) (codes "by-stream"))) (sym c.in-Ok.is ∙ said)
    (subst (watched (Ok c.in-Ok.settings)) c.in-Some.ensures (inl (g.F.File.Read.remaining c.in-Ok-open.table, out.ensures.watched)))

pub returns-in-Err-open-clause-watched : goal.returns-in-Err-open-clause-watched
returns-in-Err-open-clause-watched g c =
    let out = c.end_unopened in
    let watched : Result Setup BadValue → Option (List ℕ) → Type 0 = λ settings path. IsWatchedTable g.H.Watch.alerted settings path (g.R.Read.remaining c.args.reader.now) out.result.0 c.args.watch.now c.args.watch.now in
    let said : c.settings_given.result ≡ settings_in greatest_moment (found_of c.args.matches.now) = c.settings_given.ensures ∙ ap (settings_given greatest_moment) c.values_of-values.ensures in
    subst (λ (settings : Result Setup BadValue). watched settings (first_value (found_of c.args.matches.now) (codes "by-stream"))) (sym c.in-Ok.is ∙ said)
    (subst (watched (Ok c.in-Ok.settings)) (ap Some c.in-Err-open.ensures ∙ c.in-Some.ensures) (inr out.ensures.status))
