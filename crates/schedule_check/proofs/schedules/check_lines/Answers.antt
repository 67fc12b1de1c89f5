use Rattle.std.proofs.Common.{◌≡◌, [], Ok, Err, true, false, refl, ap, ◌∙◌}
use Rattle.std.proofs.lemmas.Result.{err_from_is_err_and}
use Rattle.text.proofs.Fronts.{Appends-nil}
use Rattle.schedule_check.specs.Words.{words_of, current_number, bad_line, long_line, verdict_lines, is_command}
use Rattle.job.proofs.LineLaws.{begun, ends, goes_kept, goes_no_further, goes_on, goes_past, goes_wrong, stops_before}
use Rattle.job.proofs.RunEndLaws.{input_out}
use Rattle.schedule_check.proofs.AlertLaws.{alerts_judged, alerts_skipped, alerts_wrong, tells_all, tells_before, tells_begun, tells_first, tells_on, tells_wrong}
use Rattle.schedule_check.proofs.LineLaws.{checked, judged, skipped, wrong}
use Rattle.schedule_check.proofs.schedules.check_lines.Goals as goal

pub lines-init : goal.lines-init
lines-init g c = record {
  text = λ tell tells read is. begun long_line (checked c.args.settings.now.script read (verdict_lines tell c.args.settings.now)) tt _ _;
  alerts = λ read is. tells_begun g.H.Watch.alerted c.args.settings.now read g.met.H.Watch.nothing _ c.args.watch.now;
}

pub lines-preserved : goal.lines-preserved
lines-preserved g c = record {
  text = λ tell tells read is.
      let i = goes_kept long_line (checked c.args.settings.now.script read (verdict_lines tell c.args.settings.now)) tt tt _ _ _ _ _ (c.lines.invariant.text tell tells read is) c.in_ok-next_line.ensures.kept in
      let e : is_command c.args.settings.now.script (words_of c.next_line.new.lines.line.items) ≡ Ok false = cc in
      let a = rw c.if-branch.true at c.in_ok-next_line.ensures.step in
      let told = verdict_lines tell c.args.settings.now in
      goes_past long_line (checked c.args.settings.now.script read told) _ _ tt tt _ _ tt _ _ _ i a (skipped c.args.settings.now.script read told (current_number c.next_line.new.lines) c.next_line.new.lines.line.items e);
  alerts = λ read is.
      let e : is_command c.args.settings.now.script (words_of c.next_line.new.lines.line.items) ≡ Ok false = cc in
      let a = rw c.if-branch.true at c.in_ok-next_line.ensures.step in
      tells_on g.H.Watch.alerted c.args.settings.now read g.met.H.Watch.both (current_number c.next_line.new.lines) c.next_line.new.lines.line.items [] _ _ _ _ _ _ (c.lines.invariant.alerts read is) a (alerts_skipped c.args.settings.now read (current_number c.next_line.new.lines) c.next_line.new.lines.line.items e) c.line_skipped.ensures;
}

pub lines-preserved-in-Continue-branch-2 : goal.lines-preserved-in-Continue-branch-2
lines-preserved-in-Continue-branch-2 g c = record {
  text = λ tell tells read is.
      let i = goes_kept long_line (checked c.args.settings.now.script read (verdict_lines tell c.args.settings.now)) tt tt _ _ _ _ _ (c.lines.invariant.text tell tells read is) c.in_ok-next_line.ensures.kept in
      let e : is_command c.args.settings.now.script (words_of c.next_line.new.lines.line.items) ≡ Ok true = cc in
      let a = rw c.if-branch.true at c.in_ok-next_line.ensures.step in
      let told = verdict_lines tell c.args.settings.now in
      goes_on long_line (checked c.args.settings.now.script read told) _ _ tt tt _ _ tt _ _ _ _ _ i a (judged c.args.settings.now.script read told (current_number c.next_line.new.lines) c.next_line.new.lines.line.items e) (rw c.line-line.ensures at c.in_ok-put_line-in-Ok-true.ensures.text tell tells read is);
  alerts = λ read is.
      let e : is_command c.args.settings.now.script (words_of c.next_line.new.lines.line.items) ≡ Ok true = cc in
      let a = rw c.if-branch.true at c.in_ok-next_line.ensures.step in
      tells_on g.H.Watch.alerted c.args.settings.now read g.met.H.Watch.both (current_number c.next_line.new.lines) c.next_line.new.lines.line.items _ _ _ _ _ _ _ (c.lines.invariant.alerts read is) a (alerts_judged c.args.settings.now read (current_number c.next_line.new.lines) c.next_line.new.lines.line.items e) (rw c.line-line.ensures at c.in_ok-put_line-in-Ok-true.ensures.alerts read is);
}

pub returns-in_err-next_line-clause-text : goal.returns-in_err-next_line-clause-text
returns-in_err-next_line-clause-text g c = λ tell tells read is.
    let i = goes_kept long_line (checked c.args.settings.now.script read (verdict_lines tell c.args.settings.now)) tt tt _ _ _ _ _ (c.lines.invariant.text tell tells read is) c.in_err-next_line.ensures.kept in
    let p = err_from_is_err_and c.from_residual.result c.from_residual.ensures.1 in
    stops_before long_line (checked c.args.settings.now.script read (verdict_lines tell c.args.settings.now)) _ _ tt tt _ _ _ _ _ _ i c.in_err-next_line.ensures.step (λ n limit. refl) (p.1 ∙ ap Err p.2)

pub returns-in_err-put_line-in-Ok-true-clause-text : goal.returns-in_err-put_line-in-Ok-true-clause-text
returns-in_err-put_line-in-Ok-true-clause-text g c = λ tell tells read is.
    let i = goes_kept long_line (checked c.args.settings.now.script read (verdict_lines tell c.args.settings.now)) tt tt _ _ _ _ _ (c.lines.invariant.text tell tells read is) c.in_ok-next_line.ensures.kept in
    let p = err_from_is_err_and c.from_residual-in_err-put_line-in-Ok-true.result c.from_residual-in_err-put_line-in-Ok-true.ensures.1 in
    let e : is_command c.args.settings.now.script (words_of c.next_line.new.lines.line.items) ≡ Ok true = cc in
    let a = rw c.if-branch.true at c.in_ok-next_line.ensures.step in
    let told = verdict_lines tell c.args.settings.now in
    let text = rw c.line-line.ensures at c.in_err-put_line-in-Ok-true.ensures.text tell tells read is in
    input_out _ (checked c.args.settings.now.script read (verdict_lines tell c.args.settings.now) tt) _ _ _ (goes_no_further long_line (checked c.args.settings.now.script read told) _ _ tt tt _ _ tt _ _ _ _ _ i a (judged c.args.settings.now.script read told (current_number c.next_line.new.lines) c.next_line.new.lines.line.items e) text (p.1 ∙ ap Err p.2))

pub returns-in-Err-clause-text : goal.returns-in-Err-clause-text
returns-in-Err-clause-text g c = λ tell tells read is.
    let i = goes_kept long_line (checked c.args.settings.now.script read (verdict_lines tell c.args.settings.now)) tt tt _ _ _ _ _ (c.lines.invariant.text tell tells read is) c.in_ok-next_line.ensures.kept in
    let e : is_command c.args.settings.now.script (words_of c.next_line.new.lines.line.items) ≡ Err c.in-Err.fault = cc in
    let a = rw c.if-branch.true at c.in_ok-next_line.ensures.step in
    let told = verdict_lines tell c.args.settings.now in
    input_out {T = Unit {0}} _ (checked c.args.settings.now.script read (verdict_lines tell c.args.settings.now) tt) (Err c.fault_here.result) (g.W.Write.contents c.args.writer.now) (g.W.Write.contents c.next_line.new.writer) (goes_wrong long_line (checked c.args.settings.now.script read told) _ _ tt tt _ _ {T = Unit {0}} (bad_line _ c.in-Err.fault) _ _ _ i a (wrong c.args.settings.now.script read told (current_number c.next_line.new.lines) c.next_line.new.lines.line.items c.in-Err.fault e) (ap Err c.fault_here.ensures))

pub returns-clause-text : goal.returns-clause-text
returns-clause-text g c = λ tell tells read is.
    let i = goes_kept long_line (checked c.args.settings.now.script read (verdict_lines tell c.args.settings.now)) tt tt _ _ _ _ _ (c.lines.invariant.text tell tells read is) c.in_ok-next_line.ensures.kept in
    let a = rw c.if-branch.false at c.in_ok-next_line.ensures.step in
    input_out {T = Unit {0}} _ (checked c.args.settings.now.script read (verdict_lines tell c.args.settings.now) tt) (Ok tt) (g.W.Write.contents c.args.writer.now) (g.W.Write.contents c.next_line.new.writer) (ends long_line (checked c.args.settings.now.script read (verdict_lines tell c.args.settings.now)) _ _ tt tt _ _ {T = Unit {0}} tt _ _ _ _ _ i a refl (Appends-nil _) refl)

pub returns-in_err-next_line-clause-alerts : goal.returns-in_err-next_line-clause-alerts
returns-in_err-next_line-clause-alerts g c = λ read is.
    let p = err_from_is_err_and c.from_residual.result c.from_residual.ensures.1 in
    tells_before g.H.Watch.alerted c.args.settings.now read _ _ _ _ _ _ _ _ _ (c.lines.invariant.alerts read is) c.in_err-next_line.ensures.step (p.1 ∙ ap Err p.2)

pub returns-in_err-put_line-in-Ok-true-clause-alerts : goal.returns-in_err-put_line-in-Ok-true-clause-alerts
returns-in_err-put_line-in-Ok-true-clause-alerts g c = λ read is.
    let p = err_from_is_err_and c.from_residual-in_err-put_line-in-Ok-true.result c.from_residual-in_err-put_line-in-Ok-true.ensures.1 in
    let e : is_command c.args.settings.now.script (words_of c.next_line.new.lines.line.items) ≡ Ok true = cc in
    let a = rw c.if-branch.true at c.in_ok-next_line.ensures.step in
    let told = tells_on g.H.Watch.alerted c.args.settings.now read g.met.H.Watch.both (current_number c.next_line.new.lines) c.next_line.new.lines.line.items _ _ _ _ _ _ _ (c.lines.invariant.alerts read is) a (alerts_judged c.args.settings.now read (current_number c.next_line.new.lines) c.next_line.new.lines.line.items e) (rw c.line-line.ensures at c.in_err-put_line-in-Ok-true.ensures.alerts read is) in
    tells_first g.H.Watch.alerted c.args.settings.now read _ _ _ _ _ told (p.1 ∙ ap Err p.2)

pub returns-in-Err-clause-alerts : goal.returns-in-Err-clause-alerts
returns-in-Err-clause-alerts g c = λ read is.
    let e : is_command c.args.settings.now.script (words_of c.next_line.new.lines.line.items) ≡ Err c.in-Err.fault = cc in
    let a = rw c.if-branch.true at c.in_ok-next_line.ensures.step in
    tells_wrong g.H.Watch.alerted c.args.settings.now read {T = Unit {0}} g.met.H.Watch.both _ _ (bad_line _ c.in-Err.fault) _ _ _ _ _ _ _ (c.lines.invariant.alerts read is) a (alerts_wrong c.args.settings.now read (current_number c.next_line.new.lines) c.next_line.new.lines.line.items c.in-Err.fault e) c.line_failed.ensures (ap Err c.fault_here.ensures)

pub returns-clause-alerts : goal.returns-clause-alerts
returns-clause-alerts g c = λ read is.
    let a = rw c.if-branch.false at c.in_ok-next_line.ensures.step in
    tells_all g.H.Watch.alerted c.args.settings.now read {T = Unit {0}} tt _ _ _ _ _ _ _ _ (c.lines.invariant.alerts read is) a refl
