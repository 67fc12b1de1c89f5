use Rattle.std.proofs.Common.{[], refl}
use Rattle.std.proofs.lemmas.Result.{err_from_is_err_and}
use Rattle.script.proofs.AlertLaws.{alerting_fault, end_alerted}
use Rattle.script.proofs.ReportLaws.{end_short, end_whole}
use Rattle.script.proofs.script_run.end.Goals as goal

pub returns-in_err-go_on-clause-text : goal.returns-in_err-go_on-clause-text
returns-in_err-go_on-clause-text g c =
    let p = err_from_is_err_and c.from_residual.result c.from_residual.ensures.1 in
    let s = c.args.answering.now in
    end_short c.args.until s.port.port s.port.port s.summary s.summary _ (g.W.Write.contents c.args.writer.now) _ _ p.1 c.in_err-go_on.ensures.told

pub returns-in_err-go_on-clause-alerts : goal.returns-in_err-go_on-clause-alerts
returns-in_err-go_on-clause-alerts g c =
    let p = err_from_is_err_and c.from_residual.result c.from_residual.ensures.1 in
    let h = c.args.watch.now in
    alerting_fault g.H.Watch.alerted _ h h c.from_residual.result _ p.1 (record { first = []; rest = _; alerted_first = g.met.H.Watch.nothing h; parts = refl })

pub returns-clause-text : goal.returns-clause-text
returns-clause-text g c =
    let done = c.in_ok-go_on.ensures in
    let s = c.args.answering.now in
    let t = c.go_on.new.self in
    end_whole c.args.until s.port.port t.port.port s.summary t.summary _ _ _ c.halted.result c.put_end_now.result c.halted.ensures done.told done.port c.put_end_now.ensures.text

pub returns-clause-alerts : goal.returns-clause-alerts
returns-clause-alerts g c = end_alerted g.H.Watch.alerted c.halted.result c.put_end_now.result c.go_on.new.self.port.port _ c.args.watch.now c.put_end_now.new.watch c.halted.ensures c.in_ok-go_on.ensures.port c.put_end_now.ensures.alerts
