use Rattle.std.proofs.Common.{ℕ, List, Option, Err, refl, ap, ◌∙◌, subst}
use Rattle.std.specs.Prelude.{IfSome}
use Rattle.std.proofs.lemmas.Result.{err_from_is_err_and}
use Rattle.abstract_port.specs.AbstractPort.{PortState}
use Rattle.job.proofs.LineLaws.{memory_exit}
use Rattle.script.proofs.AlertLaws.{watched_none}
use Rattle.script.proofs.ReaderLaws.{of_input}
use Rattle.frame_table.specs.Words.{AbstractPort, Arrival, RunsOut, WatchedRun, alerts_from, frames_by, script_left, table_from, with_head}
use Rattle.frame_table.proofs.RunLaws.{by_settings}
use Rattle.frame_table.proofs.table_run.run_with.Goals as goal

pub returns-in_default-clause-table : goal.returns-in_default-clause-table
returns-in_default-clause-table g c = λ read is. memory_exit {T = Unit {0}} (frames_by c.args.streams.now read c.args.settings) _ _ refl

pub returns-in_default-new-clause-table : goal.returns-in_default-new-clause-table
returns-in_default-new-clause-table g c = λ read is. memory_exit {T = Unit {0}} (frames_by c.args.streams.now read c.args.settings) _ _ refl

pub returns-in_err-lines-clause-table : goal.returns-in_err-lines-clause-table
returns-in_err-lines-clause-table g c = λ read is.
    let p = err_from_is_err_and c.from_residual.result c.from_residual.ensures.1 in
    memory_exit {T = Unit {0}} (frames_by c.args.streams.now read c.args.settings) _ _ (p.1 ∙ ap Err p.2)

pub returns-clause-table : goal.returns-clause-table
returns-clause-table g c = λ read is.
    let W : AbstractPort → List (List Arrival) → Option ℕ → Type 0 = λ p w until. IfSome (script_left g.R.Read.remaining c.in_ok-lines.lines) (λ script. RunsOut c.put_table.result (g.W.Write.contents c.args.writer.now) (g.W.Write.contents c.put_table.new.writer) (with_head c.args.streams.now (table_from c.args.streams.now read until script p w))) in
    let P : PortState → Type 0 = λ p. W p.port c.in-Ok-new.arrivals c.until.result in
    let whole = by_settings W c.args.settings c.rate-rate.result c.mtu-mtu.result c.room.result c.in-Ok-new.arrivals c.until.result c.rate-rate.ensures c.mtu-mtu.ensures.value c.room.ensures.value c.in-Ok-new.ensures c.until.ensures.value (subst P c.in-Ok.ensures.ok (c.put_table.ensures.table read is)) in
    of_input (g.R.Read.remaining c.args.reader) _ _ c.in_ok-lines.ensures.left whole

pub returns-in_default-clause-watched : goal.returns-in_default-clause-watched
returns-in_default-clause-watched g c = λ read is. watched_none g.H.Watch.alerted g.met.H.Watch.nothing _ _ c.args.watch.now _ refl

pub returns-in_default-new-clause-watched : goal.returns-in_default-new-clause-watched
returns-in_default-new-clause-watched g c = λ read is. watched_none g.H.Watch.alerted g.met.H.Watch.nothing _ _ c.args.watch.now _ refl

pub returns-in_err-lines-clause-watched : goal.returns-in_err-lines-clause-watched
returns-in_err-lines-clause-watched g c = λ read is.
    let p = err_from_is_err_and c.from_residual.result c.from_residual.ensures.1 in
    watched_none g.H.Watch.alerted g.met.H.Watch.nothing _ _ c.args.watch.now _ (p.1 ∙ ap Err p.2)

pub returns-clause-watched : goal.returns-clause-watched
returns-clause-watched g c = λ read is.
    let W : AbstractPort → List (List Arrival) → Option ℕ → Type 0 = λ p w until. IfSome (script_left g.R.Read.remaining c.in_ok-lines.lines) (λ script. WatchedRun g.H.Watch.alerted (alerts_from c.args.streams.now read until script p w) c.put_table.result c.args.watch.now c.put_table.new.watch) in
    let P : PortState → Type 0 = λ p. W p.port c.in-Ok-new.arrivals c.until.result in
    let whole = by_settings W c.args.settings c.rate-rate.result c.mtu-mtu.result c.room.result c.in-Ok-new.arrivals c.until.result c.rate-rate.ensures c.mtu-mtu.ensures.value c.room.ensures.value c.in-Ok-new.ensures c.until.ensures.value (subst P c.in-Ok.ensures.ok (c.put_table.ensures.alerts read is)) in
    of_input (g.R.Read.remaining c.args.reader) _ _ c.in_ok-lines.ensures.left whole
