use Rattle.std.proofs.Common.{ap, refl, sym, ◌∙◌}
use Rattle.std.proofs.lemmas.Result.{err_from_is_err_and}
use Rattle.text.proofs.Fronts.{sent_all, sent_exit, sent_more, sent_none}
use Rattle.script.proofs.AlertLaws.{alerted_all, alerted_more, alerted_none}
use Rattle.script.proofs.ClockLaws.{given_start, later_still, start_fewer, start_none}
use Rattle.frame_table.specs.Words.{Clock, answers_to, departs, judged_row, judged_rows, row_line, rows_text, starts_in}
use Rattle.frame_table.proofs.AlertLaws.{alerting_in}
use Rattle.frame_table.proofs.RowLaws.{fails, start_first, start_then}
use Rattle.frame_table.proofs.table_run.take_starts.Goals as goal

pub loop-start-init : goal.loop-start-init
loop-start-init g c = record { sent = sent_none _ _; told = alerted_none g.H.Watch.alerted g.met.H.Watch.nothing _ c.args.watch.now; same_waiting = refl; same_end = refl; later = c.requires.later; sound = c.now-now.ensures.sound }

pub loop-start-smaller : goal.loop-start-smaller
loop-start-smaller g c =
    let i = c.loop-start.invariant in
    let s = c.step.ensures in
    start_fewer c.args.until c.loop-start.port.port c.step.new.self.port i.sound i.later c.requires.within c.step.result s.start s.port c.in-Some.start c.in-Some.is

pub loop-start-preserved : goal.loop-start-preserved
loop-start-preserved g c =
    let i = c.loop-start.invariant in
    let s = c.step.ensures in
    let q = c.step.new.self.port in
    let given = given_start c.args.until c.loop-start.port.port q i.sound i.later c.requires.within c.step.result s.start s.port c.in-Some.start c.in-Some.is in
    let all = (answers_to (Clock c.args.until) c.loop-start.port.port).0 in
    let rest = (answers_to (Clock c.args.until) q).0 in
    let gone = c.in_ok-put_sent.ensures.waiting in
    record {
      sent = sent_more _ _ _ i.sent (start_first (row_line c.args.streams.now) all rest c.in-Some.start c.loop-start.arrivals c.put_sent.new.arrivals given.answers gone) c.in_ok-put_sent.ensures.text;
      told = alerted_more g.H.Watch.alerted g.met.H.Watch.both _ _ _ _ _ _ _ i.told (start_first (judged_row c.args.streams.now) all rest c.in-Some.start c.loop-start.arrivals c.put_sent.new.arrivals given.answers gone) c.in_ok-put_sent.ensures.alerts;
      same_waiting = start_then all rest c.in-Some.start c.loop-start.arrivals c.put_sent.new.arrivals given.answers gone ∙ i.same_waiting;
      same_end = given.port ∙ i.same_end;
      later = later_still c.args.until c.loop-start.port.port q i.sound i.later c.requires.within c.step.result s.start s.port;
      sound = s.sound;
    }

pub returns-in_err-put_sent-clause-text : goal.returns-in_err-put_sent-clause-text
returns-in_err-put_sent-clause-text g c =
    let i = c.loop-start.invariant in
    let s = c.step.ensures in
    let q = c.step.new.self.port in
    let p = err_from_is_err_and c.from_residual.result c.from_residual.ensures.1 in
    let given = given_start c.args.until c.loop-start.port.port q i.sound i.later c.requires.within c.step.result s.start s.port c.in-Some.start c.in-Some.is in
    let all = (answers_to (Clock c.args.until) c.loop-start.port.port).0 in
    let rest = (answers_to (Clock c.args.until) q).0 in
    sent_exit _ _ _ p.1 i.sent (start_first (row_line c.args.streams.now) all rest c.in-Some.start c.loop-start.arrivals c.put_sent.new.arrivals given.answers c.in_err-put_sent.ensures.waiting) c.in_err-put_sent.ensures.text

pub returns-in_err-put_sent-clause-alerts : goal.returns-in_err-put_sent-clause-alerts
returns-in_err-put_sent-clause-alerts g c =
    let i = c.loop-start.invariant in
    let s = c.step.ensures in
    let q = c.step.new.self.port in
    let p = err_from_is_err_and c.from_residual.result c.from_residual.ensures.1 in
    let given = given_start c.args.until c.loop-start.port.port q i.sound i.later c.requires.within c.step.result s.start s.port c.in-Some.start c.in-Some.is in
    let all = (answers_to (Clock c.args.until) c.loop-start.port.port).0 in
    let rest = (answers_to (Clock c.args.until) q).0 in
    alerting_in g.H.Watch.alerted g.met.H.Watch.both _ _ _ _ _ _ _ _ _ p.1 i.told (start_first (judged_row c.args.streams.now) all rest c.in-Some.start c.loop-start.arrivals c.put_sent.new.arrivals given.answers c.in_err-put_sent.ensures.waiting) c.in_err-put_sent.ensures.alerts

pub returns-in_err-put_sent-clause-after : goal.returns-in_err-put_sent-clause-after
returns-in_err-put_sent-clause-after g c =
    let p = err_from_is_err_and c.from_residual.result c.from_residual.ensures.1 in
    fails _ _ _ _ _ p.1

pub returns-clause-text : goal.returns-clause-text
returns-clause-text g c =
    let i = c.loop-start.invariant in
    let s = c.step.ensures in
    let none = start_none c.args.until c.loop-start.port.port c.step.new.self.port i.sound i.later c.requires.within c.step.result s.start s.port s.sound c.in_default.is in
    sent_all i.sent (ap (λ answers. rows_text c.args.streams.now (departs (starts_in answers) c.loop-start.arrivals).0) none.0)

pub returns-clause-alerts : goal.returns-clause-alerts
returns-clause-alerts g c =
    let i = c.loop-start.invariant in
    let s = c.step.ensures in
    let none = start_none c.args.until c.loop-start.port.port c.step.new.self.port i.sound i.later c.requires.within c.step.result s.start s.port s.sound c.in_default.is in
    alerted_all g.H.Watch.alerted _ _ _ _ i.told (ap (λ answers. judged_rows c.args.streams.now (departs (starts_in answers) c.loop-start.arrivals).0) none.0)

pub returns-clause-after : goal.returns-clause-after
returns-clause-after g c =
    let i = c.loop-start.invariant in
    let s = c.step.ensures in
    let none = start_none c.args.until c.loop-start.port.port c.step.new.self.port i.sound i.later c.requires.within c.step.result s.start s.port s.sound c.in_default.is in
    record {
      port = none.1 ∙ i.same_end;
      waiting = sym (ap (λ answers. (departs (starts_in answers) c.loop-start.arrivals).1) none.0) ∙ i.same_waiting;
      sound = s.sound;
    }
