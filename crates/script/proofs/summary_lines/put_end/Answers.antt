use Rattle.std.proofs.Common.{◌≡◌, ◌++◌, List, ℕ, Option, Some, sym, ap, ◌∙◌, subst}
use Rattle.std.proofs.lemmas.Result.{err_from_is_err_and}
use Rattle.text.proofs.Fronts.{sent_none, sent_more, sent_exit, sent_last}
use Rattle.script.specs.Words.{AbstractPort, Observed, Writes, end_lines, left_lines, summary_lines}
use Rattle.script.proofs.AlertLaws.{alerting_all, alerting_fault}
use Rattle.script.proofs.LeftLaws.{left-now}
use Rattle.script.proofs.summary_lines.put_end.Goals as goal

-- the lines of the end, in two parts
parts : (moment : ℕ) (p : AbstractPort) (o : Option Observed) (s : Observed) → o ≡ Some s
    → end_lines (record p { now = moment }) o ≡ left_lines p ++ summary_lines (record p { now = moment }) s
parts moment p o s is =
    ap (λ (o : Option Observed). end_lines (record p { now = moment }) o) is
    ∙ ap (λ text. text ++ summary_lines (record p { now = moment }) s) (left-now moment p)

pub returns-in-None-clause-text : goal.returns-in-None-clause-text
returns-in-None-clause-text g c =
    let port = c.args.port.now.port in
    let p : AbstractPort = record port { now = c.args.moment } in
    let P : List ℕ → Type 0 = λ text. Writes c.put_all_left.result (g.W.Write.contents c.args.writer.now) (g.W.Write.contents c.put_all_left.new.writer) text in
    subst P (sym (left-now p.now port) ∙ sym (ap (λ o. end_lines p o) c.in-None.is)) c.put_all_left.ensures.text

pub returns-in_err-put_all_left-in-Some-clause-text : goal.returns-in_err-put_all_left-in-Some-clause-text
returns-in_err-put_all_left-in-Some-clause-text g c =
    let exit = err_from_is_err_and c.from_residual.result c.from_residual.ensures.1 in
    sent_exit _ _ _ exit.1 (sent_none _ _) (parts c.args.moment c.args.port.now.port c.args.summary.now c.in-Some.summary c.in-Some.is) c.in_err-put_all_left-in-Some.ensures.text

pub returns-in_ok-put_all_left-in-Some-clause-text : goal.returns-in_ok-put_all_left-in-Some-clause-text
returns-in_ok-put_all_left-in-Some-clause-text g c =
    sent_last _ _ (sent_more _ _ _ (sent_none _ _) (parts c.args.moment c.args.port.now.port c.args.summary.now c.in-Some.summary c.in-Some.is) c.in_ok-put_all_left-in-Some.ensures.text) c.put_summary.ensures

pub returns-in_err-put_all_left-in-Some-clause-alerts : goal.returns-in_err-put_all_left-in-Some-clause-alerts
returns-in_err-put_all_left-in-Some-clause-alerts g c =
    let exit = err_from_is_err_and c.from_residual.result c.from_residual.ensures.1 in
    alerting_fault g.H.Watch.alerted _ _ _ _ _ exit.1 c.in_err-put_all_left-in-Some.ensures.alerts

pub returns-in_ok-put_all_left-in-Some-clause-alerts : goal.returns-in_ok-put_all_left-in-Some-clause-alerts
returns-in_ok-put_all_left-in-Some-clause-alerts g c = alerting_all g.H.Watch.alerted _ _ _ c.put_summary.result c.in_ok-put_all_left-in-Some.ensures.alerts
