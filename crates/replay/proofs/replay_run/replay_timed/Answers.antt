use Rattle.std.proofs.Common.{◌≡◌, List, false, Err, Result, refl, sym, ap, ◌∙◌, subst}
use Rattle.std.proofs.lemmas.Result.{err_from_is_err_and}
use Rattle.replay.specs.Words.{script_of, left, Entry, CapFault, End, kept_requests, reading_of, Ends, Outcome, ReadsAs, is_too_late, moved, moved_reading, timed_outcome, got, state, watched, new_port}
use Rattle.replay.proofs.EndLaws.{behind_header, header_exit}
use Rattle.replay.proofs.ReplayLaws.{comes_new, header_refused, keeps_none, memory_wanting, opened, origin_of, outcome_all, outcome_good, script_refused, when_known}
use Rattle.replay.proofs.RecordLaws.{comes_moved}
use Rattle.replay.proofs.replay_run.replay_timed.Goals as goal

pub returns-in_err-summary-clause-replay : goal.returns-in_err-summary-clause-replay
returns-in_err-summary-clause-replay g c = λ read is. (
    let r = c.from_residual.result in
    let p = err_from_is_err_and r c.from_residual.ensures.1 in
    let s = c.args.settings in
    let old = got (g.V.Write.contents c.args.outputs.now.report) (g.W.Write.contents c.args.outputs.now.departures) in
    when_known (g.R.Read.remaining c.args.script) _ (λ lines known. when_known (g.S.Read.remaining c.args.capture) _ (λ octets known'. λ records reads.
    memory_wanting (Unit {0}) r old (timed_outcome read s c.args.timing lines records) (p.1 ∙ ap Err p.2))))

pub returns-in_err-script-clause-replay : goal.returns-in_err-script-clause-replay
returns-in_err-script-clause-replay g c = λ read is. (
    let r = c.from_residual-in_err-script.result in
    let p = err_from_is_err_and r c.from_residual-in_err-script.ensures.1 in
    let s = c.args.settings in
    let old = got (g.V.Write.contents c.args.outputs.now.report) (g.W.Write.contents c.args.outputs.now.departures) in
    let late : is_too_late s.until ≡ false = sym (ap is_too_late c.until-until.ensures.value) ∙ sym c.is_too_late.ensures ∙ c.if-is_too_late.false in
    when_known (g.R.Read.remaining c.args.script) _ (λ lines known. when_known (g.S.Read.remaining c.args.capture) _ (λ octets known'. λ records reads.
    script_refused read s c.args.timing.stamp lines (moved_reading c.args.timing.shift records) late (Unit {0}) c.in_err-script.field-0.0 r old (p.1 ∙ ap Err p.2) (rw known at c.in_err-script.ensures.script read is))))

pub returns-in_err-records-clause-replay : goal.returns-in_err-records-clause-replay
returns-in_err-records-clause-replay g c = λ read is. (
    let r = c.from_residual-in_err-records.result in
    let p = err_from_is_err_and r c.from_residual-in_err-records.ensures.1 in
    let s = c.args.settings in
    let old = got (g.V.Write.contents c.args.outputs.now.report) (g.W.Write.contents c.args.outputs.now.departures) in
    let late : is_too_late s.until ≡ false = sym (ap is_too_late c.until-until.ensures.value) ∙ sym c.is_too_late.ensures ∙ c.if-is_too_late.false in
    when_known (g.R.Read.remaining c.args.script) _ (λ lines known. when_known (g.S.Read.remaining c.args.capture) _ (λ octets known'. λ records reads.
    let given = rw known at c.in_ok-script.ensures.script read is in
    header_refused s c.args.timing (reading_of read (script_of lines)).requests octets records reads (timed_outcome read s c.args.timing lines records) (outcome_good read s c.args.timing.stamp lines (moved_reading c.args.timing.shift records) late given.0)
    (Unit {0}) (g.S.Read.remaining c.args.capture) c.in_err-records.field-0.0 r old known' (p.1 ∙ ap Err p.2) c.in_err-records.ensures.fault)))

pub returns-in_err-sending-clause-replay : goal.returns-in_err-sending-clause-replay
returns-in_err-sending-clause-replay g c = λ read is. (
    let r = c.from_residual-in_err-sending.result in
    let p = err_from_is_err_and r c.from_residual-in_err-sending.ensures.1 in
    let s = c.args.settings in
    let report = g.V.Write.contents c.args.outputs.now.report in
    let old = got report (g.W.Write.contents c.args.outputs.now.departures) in
    let mid = got report (g.W.Write.contents c.begin.new.departures) in
    let late : is_too_late s.until ≡ false = sym (ap is_too_late c.until-until.ensures.value) ∙ sym c.is_too_late.ensures ∙ c.if-is_too_late.false in
    when_known (g.R.Read.remaining c.args.script) _ (λ lines known. when_known (g.S.Read.remaining c.args.capture) _ (λ octets known'. λ records reads.
    let given = rw known at c.in_ok-script.ensures.script read is in
    let found = opened g.S.Read.remaining (g.S.Read.remaining c.args.capture) (left c.in_ok-records.records) octets records c.in_ok-records.ensures.ok known' reads in
    let shift = c.args.timing.shift in
    let es = (moved shift found.0 found.1).0 in
    let last = (moved shift found.0 found.1).1 in
    let all = outcome_all read s c.args.timing.stamp lines (moved_reading shift records) late given.0 es last (ap (moved_reading shift) found.2) (reading_of read (script_of lines)).requests s.until (new_port s.rate s.mtu s.room) (watched s.summary s.room) refl refl refl refl in
    let P : Outcome → Type 0 = λ o. Ends r old mid o in
    subst P all (header_exit {T = Unit {0}} r c.in_err-sending.field-0.0 old mid _ (p.1 ∙ ap Err p.2) (c.in_err-sending.ensures.out report)))))

pub returns-clause-replay : goal.returns-clause-replay
returns-clause-replay g c = λ read is. (
    let r = c.run.result in
    let s = c.args.settings in
    let report = g.V.Write.contents c.args.outputs.now.report in
    let old = got report (g.W.Write.contents c.args.outputs.now.departures) in
    let mid = got report (g.W.Write.contents c.begin.new.departures) in
    let new = got (g.V.Write.contents c.run.new.outputs.report) (g.W.Write.contents c.run.new.outputs.departures) in
    let late : is_too_late s.until ≡ false = sym (ap is_too_late c.until-until.ensures.value) ∙ sym c.is_too_late.ensures ∙ c.if-is_too_late.false in
    when_known (g.R.Read.remaining c.args.script) _ (λ lines known. when_known (g.S.Read.remaining c.args.capture) _ (λ octets known'. λ records reads.
    let given = rw known at c.in_ok-script.ensures.script read is in
    let found = opened g.S.Read.remaining (g.S.Read.remaining c.args.capture) (left c.in_ok-records.records) octets records c.in_ok-records.ensures.ok known' reads in
    let shift = c.args.timing.shift in
    let es = (moved shift found.0 found.1).0 in
    let last = (moved shift found.0 found.1).1 in
    let script = c.in_ok-script.script in
    let sending = c.in_ok-sending.sending in
    let seen = c.in_ok-summary.ensures ∙ (ap (λ wanted. watched wanted c.room.result) c.summary.ensures ∙ ap (λ room. watched s.summary room) c.room.ensures.value) in
    let comes = comes_new g.S.Read.remaining (g.S.Read.remaining c.args.capture) (left c.in_ok-records.records) octets found.0 found.1 c.in_ok-records.ensures.ok known' (subst (λ (x : Result (List Entry × End) CapFault). ReadsAs octets x) found.2 reads) in
    let origin = origin_of es c.args.timing.stamp s.rate in
    let keeps = keeps_none origin (state sending report (g.W.Write.contents c.begin.new.departures)) s.rate s.mtu s.room c.in_ok-sending.ensures.port c.in_ok-sending.ensures.store c.in_ok-sending.ensures.stamping in
    let all = outcome_all read s c.args.timing.stamp lines (moved_reading shift records) late given.0 es last (ap (moved_reading shift) found.2) (kept_requests read script.octets.items script.lines.items) c.until-until.result sending.port.port sending.summary given.1 c.until-until.ensures.value c.in_ok-sending.ensures.port (c.in_ok-sending.ensures.seen ∙ seen) in
    let P : Outcome → Type 0 = λ o. Ends r old new o in
    subst P all (behind_header r old mid new _ (c.in_ok-sending.ensures.out report) (c.run.ensures read is origin last (comes_moved shift g.S.Read.remaining (left c.in_ok-records.records) found.0 found.1 comes) keeps)))))
