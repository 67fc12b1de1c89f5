use Rattle.std.proofs.Common.{◌≡◌, ℕ, Option, Err, refl, ap, ◌∙◌, subst}
use Rattle.std.specs.Prelude.{IfSome}
use Rattle.std.proofs.lemmas.Result.{err_from_is_err_and}
use Rattle.script.specs.Alerts.{Watched, run_alerts}
use Rattle.script.specs.Words.{AbstractPort, PortState, new_port, script_left, Setup, RunsOut, outcome_from, outcome_of, reading_of, Observed}
use Rattle.job.proofs.LineLaws.{memory_exit}
use Rattle.script.proofs.AlertLaws.{watched_none}
use Rattle.script.proofs.ReaderLaws.{of_input}
use Rattle.summary.specs.Wanted.{watched}
use Rattle.script.proofs.script_run.run_script.Goals as goal

pub returns-in_default-clause-script : goal.returns-in_default-clause-script
returns-in_default-clause-script g c = λ read is. memory_exit {T = Unit {0}} (outcome_of read c.args.settings) _ _ refl

pub returns-in_err-lines-clause-script : goal.returns-in_err-lines-clause-script
returns-in_err-lines-clause-script g c = λ read is.
    let p = err_from_is_err_and c.from_residual.result c.from_residual.ensures.1 in
    memory_exit {T = Unit {0}} (outcome_of read c.args.settings) _ _ (p.1 ∙ ap Err p.2)

-- what holds of a port that is made by these numbers holds of one that the settings make
by_settings : (P : AbstractPort → Option Observed → Option ℕ → Type 0) (s : Setup) (rate mtu room : ℕ) (o : Option Observed) (until : Option ℕ)
    → rate ≡ s.rate → mtu ≡ s.mtu → room ≡ s.room → o ≡ watched s.summary s.room → until ≡ s.until
    → P (new_port rate mtu room) o until → P (new_port s.rate s.mtu s.room) (watched s.summary s.room) s.until
by_settings P s rate mtu room o until a b d seen e h =
    subst (λ x. P (new_port s.rate s.mtu s.room) (watched s.summary s.room) x) e
    (subst (λ x. P (new_port s.rate s.mtu s.room) x until) seen
    (subst (λ x. P (new_port s.rate s.mtu x) o until) d (subst (λ x. P (new_port s.rate x room) o until) b (subst (λ x. P (new_port x mtu room) o until) a h))))

pub returns-in_default-summary_wanted-clause-script : goal.returns-in_default-summary_wanted-clause-script
returns-in_default-summary_wanted-clause-script g c = λ read is. memory_exit {T = Unit {0}} (outcome_of read c.args.settings) _ _ refl

pub returns-clause-script : goal.returns-clause-script
returns-clause-script g c = λ read is.
    let s = c.args.settings in
    let W : AbstractPort → Option Observed → Option ℕ → Type 0 = λ p o until. IfSome (script_left g.R.Read.remaining c.in_ok-lines.lines) (λ script. RunsOut c.run_lines.result (g.W.Write.contents c.args.writer.now) (g.W.Write.contents c.run_lines.new.writer) (outcome_from read until script p o)) in
    let P : PortState → Type 0 = λ p. W p.port c.new-answering.result.summary c.until.result in
    let seen = c.new-answering.ensures.summary ∙ c.in-Ok-summary_wanted.ensures ∙ (ap (λ wanted. watched wanted c.room-2.result) c.summary.ensures ∙ ap (λ room. watched s.summary room) c.room-2.ensures.value) in
    let whole = by_settings W s c.rate-rate.result c.mtu-mtu.result c.room.result c.new-answering.result.summary c.until.result c.rate-rate.ensures c.mtu-mtu.ensures.value c.room.ensures.value seen c.until.ensures.value (subst P (c.new-answering.ensures.port ∙ c.in-Ok.ensures.ok) (c.run_lines.ensures.script read is)) in
    of_input (g.R.Read.remaining c.args.reader) _ _ c.in_ok-lines.ensures.left whole

pub returns-in_default-clause-watched : goal.returns-in_default-clause-watched
returns-in_default-clause-watched g c = λ read is. watched_none g.H.Watch.alerted g.met.H.Watch.nothing _ _ c.args.watch.now _ refl

pub returns-in_default-summary_wanted-clause-watched : goal.returns-in_default-summary_wanted-clause-watched
returns-in_default-summary_wanted-clause-watched g c = λ read is. watched_none g.H.Watch.alerted g.met.H.Watch.nothing _ _ c.args.watch.now _ refl

pub returns-in_err-lines-clause-watched : goal.returns-in_err-lines-clause-watched
returns-in_err-lines-clause-watched g c = λ read is.
    let p = err_from_is_err_and c.from_residual.result c.from_residual.ensures.1 in
    watched_none g.H.Watch.alerted g.met.H.Watch.nothing _ _ c.args.watch.now _ (p.1 ∙ ap Err p.2)

pub returns-clause-watched : goal.returns-clause-watched
returns-clause-watched g c = λ read is.
    let s = c.args.settings in
    let W : AbstractPort → Option Observed → Option ℕ → Type 0 = λ p o until. IfSome (script_left g.R.Read.remaining c.in_ok-lines.lines) (λ script. Watched g.H.Watch.alerted (run_alerts until (reading_of read script) p) c.run_lines.result c.args.watch.now c.run_lines.new.watch) in
    let P : PortState → Type 0 = λ p. W p.port c.new-answering.result.summary c.until.result in
    let seen = c.new-answering.ensures.summary ∙ c.in-Ok-summary_wanted.ensures ∙ (ap (λ wanted. watched wanted c.room-2.result) c.summary.ensures ∙ ap (λ room. watched s.summary room) c.room-2.ensures.value) in
    let whole = by_settings W s c.rate-rate.result c.mtu-mtu.result c.room.result c.new-answering.result.summary c.until.result c.rate-rate.ensures c.mtu-mtu.ensures.value c.room.ensures.value seen c.until.ensures.value (subst P (c.new-answering.ensures.port ∙ c.in-Ok.ensures.ok) (c.run_lines.ensures.watched read is)) in
    of_input (g.R.Read.remaining c.args.reader) _ _ c.in_ok-lines.ensures.left whole
