use Rattle.std.proofs.Common.{[], refl, sym, subst}
use Rattle.abstract_port.specs.declared.Event.TheVariants.{Count, Query}
use Rattle.script.specs.Alerts.{alerts_of}
use Rattle.script.specs.Told.{told_to}
use Rattle.script.specs.Words.{Asks, Clock, Event, IsAnswered}
use Rattle.script.proofs.AlertLaws.{alerts_same, clock-quiet, count-quiet}
use Rattle.script.proofs.answers.put_answers.Goals as goal

pub returns-in-Query-clause-answered : goal.returns-in-Query-clause-answered
returns-in-Query-clause-answered g c =
    let seen = c.args.summary.now in
    let P : Event → Type 0 = λ event. IsAnswered (Asks event) c.put_query.result (g.W.Write.contents c.args.writer.now) (g.W.Write.contents c.put_query.new.writer) c.args.port.now c.put_query.new.port seen seen in
    subst P (sym c.in-Query.is) (c.put_query.ensures seen)

pub returns-in-Count-clause-answered : goal.returns-in-Count-clause-answered
returns-in-Count-clause-answered g c =
    let seen = c.args.summary.now in
    let P : Event → Type 0 = λ event. IsAnswered (Asks event) c.put_count.result (g.W.Write.contents c.args.writer.now) (g.W.Write.contents c.put_count.new.writer) c.args.port.now c.args.port.now seen seen in
    subst P (sym c.in-Count.is) (c.put_count.ensures seen)

pub returns-in-Clock-clause-alerts : goal.returns-in-Clock-clause-alerts
returns-in-Clock-clause-alerts g c =
    let p = c.args.port.now.port in
    let h = c.args.watch.now in
    let P : Event → Type 0 = λ event. g.H.Watch.alerted (alerts_of (told_to (Asks event) p)) h h in
    subst P (sym c.in-Clock.is) (alerts_same g.H.Watch.alerted [] (alerts_of (told_to (Asks (Clock c.in-Clock.until)) p)) h h (sym (clock-quiet c.in-Clock.until p)) (g.met.H.Watch.nothing h))

pub returns-in-Query-clause-alerts : goal.returns-in-Query-clause-alerts
returns-in-Query-clause-alerts g c =
    let p = c.args.port.now.port in
    let h = c.args.watch.now in
    let P : Event → Type 0 = λ event. g.H.Watch.alerted (alerts_of (told_to (Asks event) p)) h h in
    subst P (sym c.in-Query.is) (alerts_same g.H.Watch.alerted [] (alerts_of (told_to (Asks Query) p)) h h refl (g.met.H.Watch.nothing h))

pub returns-in-Count-clause-alerts : goal.returns-in-Count-clause-alerts
returns-in-Count-clause-alerts g c =
    let p = c.args.port.now.port in
    let h = c.args.watch.now in
    let P : Event → Type 0 = λ event. g.H.Watch.alerted (alerts_of (told_to (Asks event) p)) h h in
    subst P (sym c.in-Count.is) (alerts_same g.H.Watch.alerted [] (alerts_of (told_to (Asks (Count c.in-Count.class)) p)) h h (sym (count-quiet c.in-Count.class p)) (g.met.H.Watch.nothing h))

pub returns-in-Arrive-clause-alerts : goal.returns-in-Arrive-clause-alerts
returns-in-Arrive-clause-alerts g c =
    let P : Event → Type 0 = λ event. g.H.Watch.alerted (alerts_of (told_to (Asks event) c.args.port.now.port)) c.args.watch.now c.put_frame.new.watch in
    subst P (sym c.in-Arrive.is) c.put_frame.ensures.alerts

pub returns-in-Install-clause-alerts : goal.returns-in-Install-clause-alerts
returns-in-Install-clause-alerts g c =
    let P : Event → Type 0 = λ event. g.H.Watch.alerted (alerts_of (told_to (Asks event) c.args.port.now.port)) c.args.watch.now c.put_install.new.watch in
    subst P (sym c.in-Install.is) c.put_install.ensures.alerts
