use Rattle.std.proofs.Common.{List, [], Ok, Err, Result, false, true, ◌≡◌, sym, ap, ◌∙◌, subst}
use Rattle.std.proofs.lemmas.Result.{err_from_is_err_and}
use Rattle.text.specs.Script.{script_of}
use Rattle.replay.specs.Lines as Beside
use Rattle.replay.proofs.ReplayLaws.{comes_new, opened, when_known}
use Rattle.script.specs.Alerts.{Alert}
use Rattle.frame_table.specs.Alerts.{records_alerts}
use Rattle.frame_table.proofs.AlertLaws.{behind, told_nil}
use Rattle.frame_table.specs.OfCapture.{frames_read}
use Rattle.frame_table.specs.Words.{CapFault, End, Entry, Outcome, ReadsAs, ReplayInput, RunsOut, WatchedRun, frames_of_capture, is_too_late, left}
use Rattle.frame_table.proofs.CaptureLaws.{frames_good, header_refused, script_refused, told_by_header, told_by_script, told_good, told_late}
use Rattle.frame_table.proofs.capture_run.run_frames_of_capture.Goals as goal

pub returns-in_err-script-clause-table : goal.returns-in_err-script-clause-table
returns-in_err-script-clause-table g c = λ read is. (
    let p = err_from_is_err_and c.from_residual.result c.from_residual.ensures.1 in
    let s = c.args.settings in
    let old = g.W.Write.contents c.args.writer.now in
    let late : is_too_late s.until ≡ false = sym (ap is_too_late c.until.ensures.value) ∙ sym c.is_too_late.ensures ∙ c.if-is_too_late.false in
    when_known (g.R.Read.remaining c.args.script) _ (λ lines known. when_known (g.S.Read.remaining c.args.capture) _ (λ octets known'. λ records reads.
    subst (λ r. RunsOut r old old (frames_of_capture read s lines records)) (sym (p.1 ∙ ap Err p.2)) (script_refused read s lines records late c.in_err-script.field-0.0 old (rw known at c.in_err-script.ensures.script read is)))))

pub returns-in_err-records-clause-table : goal.returns-in_err-records-clause-table
returns-in_err-records-clause-table g c = λ read is. (
    let p = err_from_is_err_and c.from_residual-in_err-records.result c.from_residual-in_err-records.ensures.1 in
    let s = c.args.settings in
    let old = g.W.Write.contents c.args.writer.now in
    let late : is_too_late s.until ≡ false = sym (ap is_too_late c.until.ensures.value) ∙ sym c.is_too_late.ensures ∙ c.if-is_too_late.false in
    when_known (g.R.Read.remaining c.args.script) _ (λ lines known. when_known (g.S.Read.remaining c.args.capture) _ (λ octets known'. λ records reads.
    let given = rw known at c.in_ok-script.ensures.script read is in
    subst (λ r. RunsOut r old old (frames_of_capture read s lines records)) (sym (p.1 ∙ ap Err p.2)) (header_refused read s lines records late octets reads given.0 (g.S.Read.remaining c.args.capture) known' c.in_err-records.field-0.0 old c.in_err-records.ensures.fault))))

pub returns-clause-table : goal.returns-clause-table
returns-clause-table g c = λ read is. (
    let s = c.args.settings in
    let late : is_too_late s.until ≡ false = sym (ap is_too_late c.until.ensures.value) ∙ sym c.is_too_late.ensures ∙ c.if-is_too_late.false in
    when_known (g.R.Read.remaining c.args.script) _ (λ lines known. when_known (g.S.Read.remaining c.args.capture) _ (λ octets known'. λ records reads.
    let given = rw known at c.in_ok-script.ensures.script read is in
    let found = opened g.S.Read.remaining (g.S.Read.remaining c.args.capture) (left c.in_ok-records.records) octets records c.in_ok-records.ensures.ok known' reads in
    let comes = comes_new g.S.Read.remaining (g.S.Read.remaining c.args.capture) (left c.in_ok-records.records) octets found.0 found.1 c.in_ok-records.ensures.ok known' (subst (λ (x : Result (List Entry × End) CapFault). ReadsAs octets x) found.2 reads) in
    let asked = (Beside.reading_of read (script_of lines)).requests in
    let same = ap (λ rs. frames_read s rs (Ok (found.0, found.1))) given.1 ∙ sym (frames_good read s lines records late given.0 ∙ ap (frames_read s asked) found.2) in
    subst (λ (o : Outcome ReplayInput). RunsOut c.put_table.result (g.W.Write.contents c.args.writer.now) (g.W.Write.contents c.put_table.new.writer) o) same (c.put_table.ensures.table read is found.0 found.1 comes))))

pub returns-then-is_too_late-clause-watched : goal.returns-then-is_too_late-clause-watched
returns-then-is_too_late-clause-watched g c = λ read is. (
    let s = c.args.settings in
    let late : is_too_late s.until ≡ true = sym (ap is_too_late c.until.ensures.value) ∙ sym c.is_too_late.ensures ∙ c.if-is_too_late.true in
    when_known (g.R.Read.remaining c.args.script) _ (λ lines known. when_known (g.S.Read.remaining c.args.capture) _ (λ octets known'. λ records reads.
    told_nil g.H.Watch.alerted g.met.H.Watch.nothing _ c.args.watch.now (told_late read s lines records late))))

pub returns-in_err-script-clause-watched : goal.returns-in_err-script-clause-watched
returns-in_err-script-clause-watched g c = λ read is. (
    let p = err_from_is_err_and c.from_residual.result c.from_residual.ensures.1 in
    let s = c.args.settings in
    let late : is_too_late s.until ≡ false = sym (ap is_too_late c.until.ensures.value) ∙ sym c.is_too_late.ensures ∙ c.if-is_too_late.false in
    when_known (g.R.Read.remaining c.args.script) _ (λ lines known. when_known (g.S.Read.remaining c.args.capture) _ (λ octets known'. λ records reads.
    told_by_script read s lines records late g.H.Watch.alerted c.in_err-script.field-0.0 c.from_residual.result c.args.watch.now c.read_script.new.watch (rw known at c.in_err-script.ensures.script read is) (p.1 ∙ ap Err p.2) c.in_err-script.ensures.alerts)))

pub returns-in_err-records-clause-watched : goal.returns-in_err-records-clause-watched
returns-in_err-records-clause-watched g c = λ read is. (
    let p = err_from_is_err_and c.from_residual-in_err-records.result c.from_residual-in_err-records.ensures.1 in
    let s = c.args.settings in
    let late : is_too_late s.until ≡ false = sym (ap is_too_late c.until.ensures.value) ∙ sym c.is_too_late.ensures ∙ c.if-is_too_late.false in
    when_known (g.R.Read.remaining c.args.script) _ (λ lines known. when_known (g.S.Read.remaining c.args.capture) _ (λ octets known'. λ records reads.
    let given = rw known at c.in_ok-script.ensures.script read is in
    told_by_header read s lines records late g.H.Watch.alerted octets reads given.0 (g.S.Read.remaining c.args.capture) known' c.in_err-records.field-0.0 c.from_residual-in_err-records.result c.args.watch.now c.read_script.new.watch c.in_err-records.ensures.fault (p.1 ∙ ap Err p.2) c.in_ok-script.ensures.alerts)))

pub returns-clause-watched : goal.returns-clause-watched
returns-clause-watched g c = λ read is. (
    let s = c.args.settings in
    let late : is_too_late s.until ≡ false = sym (ap is_too_late c.until.ensures.value) ∙ sym c.is_too_late.ensures ∙ c.if-is_too_late.false in
    when_known (g.R.Read.remaining c.args.script) _ (λ lines known. when_known (g.S.Read.remaining c.args.capture) _ (λ octets known'. λ records reads.
    let given = rw known at c.in_ok-script.ensures.script read is in
    let found = opened g.S.Read.remaining (g.S.Read.remaining c.args.capture) (left c.in_ok-records.records) octets records c.in_ok-records.ensures.ok known' reads in
    let comes = comes_new g.S.Read.remaining (g.S.Read.remaining c.args.capture) (left c.in_ok-records.records) octets found.0 found.1 c.in_ok-records.ensures.ok known' (subst (λ (x : Result (List Entry × End) CapFault). ReadsAs octets x) found.2 reads) in
    let asked = (Beside.reading_of read (script_of lines)).requests in
    let same = ap (λ rs. records_alerts s rs (Ok (found.0, found.1))) given.1 ∙ sym (told_good read s lines records late given.0 ∙ ap (records_alerts s asked) found.2) in
    subst (λ (all : List Alert). WatchedRun g.H.Watch.alerted all c.put_table.result c.args.watch.now c.put_table.new.watch) same
    (behind g.H.Watch.alerted g.met.H.Watch.both [] _ c.put_table.result c.args.watch.now c.read_script.new.watch c.put_table.new.watch c.in_ok-script.ensures.alerts (c.put_table.ensures.alerts read is found.0 found.1 comes)))))
