use Rattle.std.proofs.Common.{ℕ, Err, List, None, Ok, Option, Result, length, sym, ap, ◌∙◌, subst}
use Rattle.std.proofs.lemmas.Result.{err_from_is_err_and}
use Rattle.abstract_port.specs.AbstractPort.{PortState}
use Rattle.replay.specs.declared.faults.Stop.{Stop}
use Rattle.script.specs.Alerts.{Alerting}
use Rattle.frame_table.specs.Alerts.{records_alerts}
use Rattle.frame_table.specs.Words.{AbstractPort, Arrival, CapFault, Fault, ReplayInput, RunsBoth, RunsOut, WatchedRun, all_requests, asked_alerts, end_fault, kept_requests, table_by, table_of_both, with_head}
use Rattle.frame_table.proofs.AlertLaws.{front_none}
use Rattle.frame_table.proofs.CaptureLaws.{both_ended, both_told, memory_wanting}
use Rattle.frame_table.proofs.RunLaws.{by_settings}
use Rattle.frame_table.proofs.capture_run.put_table.Goals as goal

pub returns-in_default-clause-table : goal.returns-in_default-clause-table
returns-in_default-clause-table g c = λ read is entries last comes.
    let script = kept_requests read c.args.script.now.octets.items c.args.script.now.lines.items in
    memory_wanting (g.W.Write.contents c.args.writer.now) (record { text = (table_of_both c.args.settings script entries).text; fault = end_fault (length entries) last })

pub returns-in_default-new-clause-table : goal.returns-in_default-new-clause-table
returns-in_default-new-clause-table g c = λ read is entries last comes.
    let script = kept_requests read c.args.script.now.octets.items c.args.script.now.lines.items in
    memory_wanting (g.W.Write.contents c.args.writer.now) (record { text = (table_of_both c.args.settings script entries).text; fault = end_fault (length entries) last })

pub returns-in_default-clause-alerts : goal.returns-in_default-clause-alerts
returns-in_default-clause-alerts g c = λ read is entries last comes. front_none g.H.Watch.alerted g.met.H.Watch.nothing _ c.args.watch.now

pub returns-in_default-new-clause-alerts : goal.returns-in_default-new-clause-alerts
returns-in_default-new-clause-alerts g c = λ read is entries last comes. front_none g.H.Watch.alerted g.met.H.Watch.nothing _ c.args.watch.now

pub returns-in_err-broken-clause-table : goal.returns-in_err-broken-clause-table
returns-in_err-broken-clause-table g c = λ read is entries last comes.
    let p = err_from_is_err_and c.from_residual.result c.from_residual.ensures.1 in
    let script = kept_requests read c.args.script.now.octets.items c.args.script.now.lines.items in
    let r : Result (Option (ℕ × CapFault)) Stop = Err c.in_err-broken.field-0.0 in
    let old = g.W.Write.contents c.args.writer.now in
    let new = g.W.Write.contents c.run.new.writer in
    let W : AbstractPort → List (List Arrival) → Option ℕ → Type 0 = λ p w until. RunsBoth entries last r old new (with_head None (table_by None (all_requests script entries until) None p w)) in
    let P : PortState → Type 0 = λ p. W p.port c.in-Ok-new.arrivals c.until-until.result in
    let both = by_settings W c.args.settings c.rate-rate.result c.mtu-mtu.result c.room.result c.in-Ok-new.arrivals c.until-until.result c.rate-rate.ensures c.mtu-mtu.ensures.value c.room.ensures.value c.in-Ok-new.ensures c.until-until.ensures.value (subst P c.in-Ok.ensures.ok (c.in_err-broken.ensures.table read is entries last comes)) in
    subst (λ (q : Result (Unit {0}) (Fault ReplayInput)). RunsOut q old new (record { text = (table_of_both c.args.settings script entries).text; fault = end_fault (length entries) last })) (sym (p.1 ∙ ap Err p.2)) (both_ended entries last r old new (table_of_both c.args.settings script entries) both)

pub returns-clause-table : goal.returns-clause-table
returns-clause-table g c = λ read is entries last comes.
    let script = kept_requests read c.args.script.now.octets.items c.args.script.now.lines.items in
    let r : Result (Option (ℕ × CapFault)) Stop = Ok c.in_ok-broken.broken in
    let old = g.W.Write.contents c.args.writer.now in
    let new = g.W.Write.contents c.run.new.writer in
    let W : AbstractPort → List (List Arrival) → Option ℕ → Type 0 = λ p w until. RunsBoth entries last r old new (with_head None (table_by None (all_requests script entries until) None p w)) in
    let P : PortState → Type 0 = λ p. W p.port c.in-Ok-new.arrivals c.until-until.result in
    let both = by_settings W c.args.settings c.rate-rate.result c.mtu-mtu.result c.room.result c.in-Ok-new.arrivals c.until-until.result c.rate-rate.ensures c.mtu-mtu.ensures.value c.room.ensures.value c.in-Ok-new.ensures c.until-until.ensures.value (subst P c.in-Ok.ensures.ok (c.in_ok-broken.ensures.table read is entries last comes)) in
    subst (λ (q : Result (Unit {0}) (Fault ReplayInput)). RunsOut q old new (record { text = (table_of_both c.args.settings script entries).text; fault = end_fault (length entries) last })) (sym c.ended_by.ensures) (both_ended entries last r old new (table_of_both c.args.settings script entries) both)

pub returns-in_err-broken-clause-alerts : goal.returns-in_err-broken-clause-alerts
returns-in_err-broken-clause-alerts g c = λ read is entries last comes.
    let p = err_from_is_err_and c.from_residual.result c.from_residual.ensures.1 in
    let script = kept_requests read c.args.script.now.octets.items c.args.script.now.lines.items in
    let r : Result (Option (ℕ × CapFault)) Stop = Err c.in_err-broken.field-0.0 in
    let W : AbstractPort → List (List Arrival) → Option ℕ → Type 0 = λ p w until. Alerting g.H.Watch.alerted (asked_alerts None (all_requests script entries until) None p w) r c.args.watch.now c.run.new.watch in
    let P : PortState → Type 0 = λ p. W p.port c.in-Ok-new.arrivals c.until-until.result in
    let told = by_settings W c.args.settings c.rate-rate.result c.mtu-mtu.result c.room.result c.in-Ok-new.arrivals c.until-until.result c.rate-rate.ensures c.mtu-mtu.ensures.value c.room.ensures.value c.in-Ok-new.ensures c.until-until.ensures.value (subst P c.in-Ok.ensures.ok (c.in_err-broken.ensures.alerts read is entries last comes)) in
    let all = records_alerts c.args.settings script (Ok (entries, last)) in
    subst (λ (q : Result (Unit {0}) (Fault ReplayInput)). WatchedRun g.H.Watch.alerted all q c.args.watch.now c.run.new.watch) (sym (p.1 ∙ ap Err p.2)) (both_told g.H.Watch.alerted all r c.args.watch.now c.run.new.watch told)

pub returns-clause-alerts : goal.returns-clause-alerts
returns-clause-alerts g c = λ read is entries last comes.
    let script = kept_requests read c.args.script.now.octets.items c.args.script.now.lines.items in
    let r : Result (Option (ℕ × CapFault)) Stop = Ok c.in_ok-broken.broken in
    let W : AbstractPort → List (List Arrival) → Option ℕ → Type 0 = λ p w until. Alerting g.H.Watch.alerted (asked_alerts None (all_requests script entries until) None p w) r c.args.watch.now c.run.new.watch in
    let P : PortState → Type 0 = λ p. W p.port c.in-Ok-new.arrivals c.until-until.result in
    let told = by_settings W c.args.settings c.rate-rate.result c.mtu-mtu.result c.room.result c.in-Ok-new.arrivals c.until-until.result c.rate-rate.ensures c.mtu-mtu.ensures.value c.room.ensures.value c.in-Ok-new.ensures c.until-until.ensures.value (subst P c.in-Ok.ensures.ok (c.in_ok-broken.ensures.alerts read is entries last comes)) in
    let all = records_alerts c.args.settings script (Ok (entries, last)) in
    subst (λ (q : Result (Unit {0}) (Fault ReplayInput)). WatchedRun g.H.Watch.alerted all q c.args.watch.now c.run.new.watch) (sym c.ended_by.ensures) (both_told g.H.Watch.alerted all r c.args.watch.now c.run.new.watch told)
