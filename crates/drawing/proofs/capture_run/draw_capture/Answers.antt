use Rattle.std.proofs.Common.{List, Err, Result, false, true, ◌≡◌, sym, ap, ◌∙◌, subst}
use Rattle.std.proofs.lemmas.Result.{err_from_is_err_and}
use Rattle.replay.proofs.ReplayLaws.{comes_new, opened, when_known}
use Rattle.drawing.specs.Words.{CapFault, End, Entry, IsDrawnBeside, ReadsAs, is_too_late, left}
use Rattle.drawing.proofs.CaptureLaws.{both_good, header_refused, late_refused, nothing_kept, script_refused}
use Rattle.drawing.proofs.capture_run.draw_capture.Goals as goal

pub returns-then-is_too_late-clause-picture : goal.returns-then-is_too_late-clause-picture
returns-then-is_too_late-clause-picture g c = λ read is. (
    let late : is_too_late c.args.settings.until ≡ true = sym (ap is_too_late c.until.ensures.value) ∙ sym c.is_too_late.ensures ∙ c.if-is_too_late.true in
    when_known (g.R.Read.remaining c.args.script) _ (λ lines known. when_known (g.S.Read.remaining c.args.capture) _ (λ octets known'. λ records reads.
    late_refused read c.args.settings c.args.options lines records late (g.W.Write.contents c.args.writer.now))))

pub returns-in_err-script-clause-picture : goal.returns-in_err-script-clause-picture
returns-in_err-script-clause-picture g c = λ read is. (
    let p = err_from_is_err_and c.from_residual.result c.from_residual.ensures.1 in
    let s = c.args.settings in
    let o = c.args.options in
    let old = g.W.Write.contents c.args.writer.now in
    let late : is_too_late s.until ≡ false = sym (ap is_too_late c.until.ensures.value) ∙ sym c.is_too_late.ensures ∙ c.if-is_too_late.false in
    when_known (g.R.Read.remaining c.args.script) _ (λ lines known. when_known (g.S.Read.remaining c.args.capture) _ (λ octets known'. λ records reads.
    subst (λ r. IsDrawnBeside read s o lines records r old old) (sym (p.1 ∙ ap Err p.2)) (script_refused read s o lines records late c.in_err-script.field-0.0 old (rw known at c.in_err-script.ensures.script read is)))))

pub returns-in_err-records-clause-picture : goal.returns-in_err-records-clause-picture
returns-in_err-records-clause-picture g c = λ read is. (
    let p = err_from_is_err_and c.from_residual-in_err-records.result c.from_residual-in_err-records.ensures.1 in
    let s = c.args.settings in
    let o = c.args.options in
    let old = g.W.Write.contents c.args.writer.now in
    let late : is_too_late s.until ≡ false = sym (ap is_too_late c.until.ensures.value) ∙ sym c.is_too_late.ensures ∙ c.if-is_too_late.false in
    when_known (g.R.Read.remaining c.args.script) _ (λ lines known. when_known (g.S.Read.remaining c.args.capture) _ (λ octets known'. λ records reads.
    let given = rw known at c.in_ok-script.ensures.script read is in
    subst (λ r. IsDrawnBeside read s o lines records r old old) (sym (p.1 ∙ ap Err p.2)) (header_refused read s o lines records late octets reads given.0 (g.S.Read.remaining c.args.capture) known' c.in_err-records.field-0.0 old c.in_err-records.ensures.fault))))

pub returns-in_err-taker-clause-picture : goal.returns-in_err-taker-clause-picture
returns-in_err-taker-clause-picture g c = λ read is. (
    let p = err_from_is_err_and c.from_residual-in_err-taker.result c.from_residual-in_err-taker.ensures.1 in
    when_known (g.R.Read.remaining c.args.script) _ (λ lines known. when_known (g.S.Read.remaining c.args.capture) _ (λ octets known'. λ records reads.
    nothing_kept read c.args.settings c.args.options lines records (g.W.Write.contents c.args.writer.now) (p.1 ∙ ap Err p.2))))

pub returns-clause-picture : goal.returns-clause-picture
returns-clause-picture g c = λ read is. (
    let s = c.args.settings in
    let o = c.args.options in
    let late : is_too_late s.until ≡ false = sym (ap is_too_late c.until.ensures.value) ∙ sym c.is_too_late.ensures ∙ c.if-is_too_late.false in
    when_known (g.R.Read.remaining c.args.script) _ (λ lines known. when_known (g.S.Read.remaining c.args.capture) _ (λ octets known'. λ records reads.
    let given = rw known at c.in_ok-script.ensures.script read is in
    let found = opened g.S.Read.remaining (g.S.Read.remaining c.args.capture) (left c.in_ok-records.records) octets records c.in_ok-records.ensures.ok known' reads in
    let comes = comes_new g.S.Read.remaining (g.S.Read.remaining c.args.capture) (left c.in_ok-records.records) octets found.0 found.1 c.in_ok-records.ensures.ok known' (subst (λ (x : Result (List Entry × End) CapFault). ReadsAs octets x) found.2 reads) in
    both_good read s o lines records late c.draw_both.result _ found.0 found.1 (g.W.Write.contents c.args.writer.now) (g.W.Write.contents c.draw_both.new.writer) given.0 given.1 found.2
    (rw (← c.in_ok-taker.ensures.settings, ← c.in_ok-taker.ensures.options) (c.draw_both.ensures read is found.0 found.1 comes)))))
