use Rattle.std.proofs.Common.{Err, None, Ok, refl, ap, ◌∙◌}
use Rattle.std.proofs.lemmas.Result.{err_from_is_err_and}
use Rattle.job.specs.declared.fault.Fault.TheVariants as Faults
use Rattle.replay.specs.declared.faults.Stop.TheVariants as Stops
use Rattle.script.proofs.AlertLaws.{alerting_fault}
use Rattle.frame_table.specs.Words.{came_from, fault_of, kept_requests, merged, place, table_at, timed_from, to_run_end, with_head}
use Rattle.frame_table.specs.declared.tabled.Tabled.{Tabled}
use Rattle.frame_table.proofs.AlertLaws.{alerting_none}
use Rattle.frame_table.proofs.CaptureLaws.{both_fail, ended_all, ended_in, not_moved, not_taken}
use Rattle.frame_table.proofs.RunLaws.{behind_head, no_head}
use Rattle.frame_table.proofs.capture_run.run.Goals as goal

pub returns-in_err-put_head-clause-table : goal.returns-in_err-put_head-clause-table
returns-in_err-put_head-clause-table g c = λ read is entries last comes.
    let p = err_from_is_err_and c.from_residual.result c.from_residual.ensures.1 in
    let asked = merged (timed_from 0 (kept_requests read c.args.script.now.octets.items c.args.script.now.lines.items)) (came_from 0 0 entries) in
    let f = c.args.tabled.now.taker.streams.now in
    let x = place c.args.tabled.now.taker.port.port c.args.tabled.now.taker.arrivals (g.W.Write.contents c.put_head.new.writer) c.args.watch.now in
    both_fail Stops.Write entries last c.from_residual.result (g.W.Write.contents c.args.writer.now) x.got (with_head f (table_at f None (to_run_end c.args.until asked) x)) (p.1 ∙ ap Err p.2)
    (no_head f {T = Unit {0}} {r = Err Faults.Write} (g.W.Write.contents c.args.writer.now) x.got (table_at f None (to_run_end c.args.until asked) x) refl c.in_err-put_head.ensures)

pub returns-in_err-broken-clause-table : goal.returns-in_err-broken-clause-table
returns-in_err-broken-clause-table g c = λ read is entries last comes.
    let p = err_from_is_err_and c.from_residual-in_err-broken.result c.from_residual-in_err-broken.ensures.1 in
    let asked = merged (timed_from 0 (kept_requests read c.args.script.now.octets.items c.args.script.now.lines.items)) (came_from 0 0 entries) in
    let f = c.args.tabled.now.taker.streams.now in
    let x = place c.args.tabled.now.taker.port.port c.args.tabled.now.taker.arrivals (g.W.Write.contents c.put_head.new.writer) c.args.watch.now in
    let here = not_taken g.H.Watch.alerted (λ (s : Tabled _ _). s.streams.now) (λ (s : Tabled _ _) w h. place s.port.port s.arrivals (g.W.Write.contents w) h) g.met.H.Watch.nothing c.args.until asked c.args.tabled.now.taker c.put_head.new.writer c.args.watch.now c.walk_both.new.taker.taker c.walk_both.new.out c.walk_both.new.watch c.now-now.ensures.sound c.in_err-broken.field-0.0 (c.in_err-broken.ensures.taken read is entries last (not_moved comes)).taken in
    both_fail c.in_err-broken.field-0.0 entries last c.from_residual-in_err-broken.result (g.W.Write.contents c.args.writer.now) (g.W.Write.contents c.walk_both.new.out) (with_head f (table_at f None (to_run_end c.args.until asked) x)) (p.1 ∙ ap Err p.2)
    (behind_head f {T = Unit {0}} (g.W.Write.contents c.args.writer.now) x.got _ (table_at f None (to_run_end c.args.until asked) x) (Err (fault_of c.in_err-broken.field-0.0)) c.in_ok-put_head.ensures here.out)

pub returns-in_err-put_end-clause-table : goal.returns-in_err-put_end-clause-table
returns-in_err-put_end-clause-table g c = λ read is entries last comes.
    let p = err_from_is_err_and c.from_residual-in_err-put_end.result c.from_residual-in_err-put_end.ensures.1 in
    let asked = merged (timed_from 0 (kept_requests read c.args.script.now.octets.items c.args.script.now.lines.items)) (came_from 0 0 entries) in
    let f = c.args.tabled.now.taker.streams.now in
    let x = place c.args.tabled.now.taker.port.port c.args.tabled.now.taker.arrivals (g.W.Write.contents c.put_head.new.writer) c.args.watch.now in
    let z = place c.put_end.new.port.port c.put_end.new.arrivals (g.W.Write.contents c.put_end.new.writer) c.put_end.new.watch in
    let here = ended_in g.H.Watch.alerted (λ (s : Tabled _ _). s.streams.now) (λ (s : Tabled _ _) w h. place s.port.port s.arrivals (g.W.Write.contents w) h) g.met.H.Watch.nothing c.args.until asked c.args.tabled.now.taker c.put_head.new.writer c.args.watch.now c.walk_both.new.taker.taker c.walk_both.new.out c.walk_both.new.watch c.now-now.ensures.sound g.met.H.Watch.both (c.in_ok-broken.ensures.taken read is entries last (not_moved comes)).taken c.run_end.result c.run_end.ensures.moment z c.in_err-put_end.ensures.text c.in_err-put_end.ensures.alerts in
    both_fail Stops.Write entries last c.from_residual-in_err-put_end.result (g.W.Write.contents c.args.writer.now) z.got (with_head f (table_at f None (to_run_end c.args.until asked) x)) (p.1 ∙ ap Err p.2)
    (behind_head f {T = Unit {0}} (g.W.Write.contents c.args.writer.now) x.got _ (table_at f None (to_run_end c.args.until asked) x) (Err Faults.Write) c.in_ok-put_head.ensures here.out)

pub returns-clause-table : goal.returns-clause-table
returns-clause-table g c = λ read is entries last comes.
    let asked = merged (timed_from 0 (kept_requests read c.args.script.now.octets.items c.args.script.now.lines.items)) (came_from 0 0 entries) in
    let f = c.args.tabled.now.taker.streams.now in
    let x = place c.args.tabled.now.taker.port.port c.args.tabled.now.taker.arrivals (g.W.Write.contents c.put_head.new.writer) c.args.watch.now in
    let z = place c.put_end.new.port.port c.put_end.new.arrivals (g.W.Write.contents c.put_end.new.writer) c.put_end.new.watch in
    let here = ended_all g.H.Watch.alerted (λ (s : Tabled _ _). s.streams.now) (λ (s : Tabled _ _) w h. place s.port.port s.arrivals (g.W.Write.contents w) h) g.met.H.Watch.nothing c.args.until asked c.args.tabled.now.taker c.put_head.new.writer c.args.watch.now c.walk_both.new.taker.taker c.walk_both.new.out c.walk_both.new.watch c.now-now.ensures.sound g.met.H.Watch.both (c.in_ok-broken.ensures.taken read is entries last (not_moved comes)).taken c.run_end.result c.run_end.ensures.moment z {T = Unit {0}} tt c.in_ok-put_end.ensures.text c.in_ok-put_end.ensures.alerts in
    record {
      ending = (c.in_ok-broken.ensures.taken read is entries last (not_moved comes)).ending;
      out = behind_head f (g.W.Write.contents c.args.writer.now) x.got z.got (table_at f None (to_run_end c.args.until asked) x) (Ok c.in_ok-broken.broken) c.in_ok-put_head.ensures here.out;
    }

pub returns-in_err-put_head-clause-alerts : goal.returns-in_err-put_head-clause-alerts
returns-in_err-put_head-clause-alerts g c = λ read is entries last comes.
    let p = err_from_is_err_and c.from_residual.result c.from_residual.ensures.1 in
    alerting_none g.H.Watch.alerted g.met.H.Watch.nothing _ c.args.watch.now c.from_residual.result _ p.1

pub returns-in_err-broken-clause-alerts : goal.returns-in_err-broken-clause-alerts
returns-in_err-broken-clause-alerts g c = λ read is entries last comes.
    let p = err_from_is_err_and c.from_residual-in_err-broken.result c.from_residual-in_err-broken.ensures.1 in
    let asked = merged (timed_from 0 (kept_requests read c.args.script.now.octets.items c.args.script.now.lines.items)) (came_from 0 0 entries) in
    let here = not_taken g.H.Watch.alerted (λ (s : Tabled _ _). s.streams.now) (λ (s : Tabled _ _) w h. place s.port.port s.arrivals (g.W.Write.contents w) h) g.met.H.Watch.nothing c.args.until asked c.args.tabled.now.taker c.put_head.new.writer c.args.watch.now c.walk_both.new.taker.taker c.walk_both.new.out c.walk_both.new.watch c.now-now.ensures.sound c.in_err-broken.field-0.0 (c.in_err-broken.ensures.taken read is entries last (not_moved comes)).taken in
    alerting_fault g.H.Watch.alerted _ _ _ c.from_residual-in_err-broken.result _ p.1 here.told

pub returns-in_err-put_end-clause-alerts : goal.returns-in_err-put_end-clause-alerts
returns-in_err-put_end-clause-alerts g c = λ read is entries last comes.
    let p = err_from_is_err_and c.from_residual-in_err-put_end.result c.from_residual-in_err-put_end.ensures.1 in
    let asked = merged (timed_from 0 (kept_requests read c.args.script.now.octets.items c.args.script.now.lines.items)) (came_from 0 0 entries) in
    let z = place c.put_end.new.port.port c.put_end.new.arrivals (g.W.Write.contents c.put_end.new.writer) c.put_end.new.watch in
    let here = ended_in g.H.Watch.alerted (λ (s : Tabled _ _). s.streams.now) (λ (s : Tabled _ _) w h. place s.port.port s.arrivals (g.W.Write.contents w) h) g.met.H.Watch.nothing c.args.until asked c.args.tabled.now.taker c.put_head.new.writer c.args.watch.now c.walk_both.new.taker.taker c.walk_both.new.out c.walk_both.new.watch c.now-now.ensures.sound g.met.H.Watch.both (c.in_ok-broken.ensures.taken read is entries last (not_moved comes)).taken c.run_end.result c.run_end.ensures.moment z c.in_err-put_end.ensures.text c.in_err-put_end.ensures.alerts in
    alerting_fault g.H.Watch.alerted _ _ _ c.from_residual-in_err-put_end.result _ p.1 here.told

pub returns-clause-alerts : goal.returns-clause-alerts
returns-clause-alerts g c = λ read is entries last comes.
    let asked = merged (timed_from 0 (kept_requests read c.args.script.now.octets.items c.args.script.now.lines.items)) (came_from 0 0 entries) in
    let z = place c.put_end.new.port.port c.put_end.new.arrivals (g.W.Write.contents c.put_end.new.writer) c.put_end.new.watch in
    let here = ended_all g.H.Watch.alerted (λ (s : Tabled _ _). s.streams.now) (λ (s : Tabled _ _) w h. place s.port.port s.arrivals (g.W.Write.contents w) h) g.met.H.Watch.nothing c.args.until asked c.args.tabled.now.taker c.put_head.new.writer c.args.watch.now c.walk_both.new.taker.taker c.walk_both.new.out c.walk_both.new.watch c.now-now.ensures.sound g.met.H.Watch.both (c.in_ok-broken.ensures.taken read is entries last (not_moved comes)).taken c.run_end.result c.run_end.ensures.moment z {T = Unit {0}} tt c.in_ok-put_end.ensures.text c.in_ok-put_end.ensures.alerts in
    here.told
