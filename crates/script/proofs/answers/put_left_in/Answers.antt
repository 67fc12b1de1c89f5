use Rattle.std.proofs.Common.{List, [], ◌∷◌, ℕ, ap, subst}
use Rattle.std.specs.Io.KnownBytes.{Appends}
use Rattle.script.specs.Alerts.{Left}
use Rattle.script.specs.Words.{Writes}
use Rattle.text.proofs.Fronts.{Appends-nil}
use Rattle.script.proofs.AlertLaws.{alerts_same, none_alerted, some_alerted}
use Rattle.script.proofs.LeftLaws.{none_left, some_left}
use Rattle.script.proofs.answers.put_left_in.Goals as goal

pub returns-then-waiting-eq0-clause-text : goal.returns-then-waiting-eq0-clause-text
returns-then-waiting-eq0-clause-text g c =
    let same = ap (λ k. k.waiting) c.counters-waiting.ensures in
    let P : List ℕ → Type 0 = λ text. Appends (g.W.Write.contents c.args.writer.now) (g.W.Write.contents c.args.writer.now) text in
    subst P (none_left c.args.class _ _ same c.if-waiting-eq0.true) (Appends-nil (g.W.Write.contents c.args.writer.now))

pub returns-else-waiting-eq0-clause-text : goal.returns-else-waiting-eq0-clause-text
returns-else-waiting-eq0-clause-text g c =
    let same = ap (λ k. k.waiting) c.counters-waiting.ensures in
    let P : List ℕ → Type 0 = λ text. Writes c.put_left.result (g.W.Write.contents c.args.writer.now) (g.W.Write.contents c.put_left.new.writer) text in
    subst P (some_left c.args.class _ _ same c.if-waiting-eq0.false) c.put_left.ensures

pub returns-then-waiting-eq0-clause-alerts : goal.returns-then-waiting-eq0-clause-alerts
returns-then-waiting-eq0-clause-alerts g c =
    let same = ap (λ k. k.waiting) c.counters-waiting.ensures in
    alerts_same g.H.Watch.alerted [] _ c.args.watch.now c.tell_used.new.watch (none_alerted c.args.class _ _ same c.if-waiting-eq0.true) c.tell_used.ensures

pub returns-else-waiting-eq0-clause-alerts : goal.returns-else-waiting-eq0-clause-alerts
returns-else-waiting-eq0-clause-alerts g c =
    let same = ap (λ k. k.waiting) c.counters-waiting.ensures in
    let left = Left c.args.class c.counters-waiting.result.waiting ∷ [] in
    alerts_same g.H.Watch.alerted left _ c.args.watch.now c.frames_left.new.self (some_alerted c.args.class _ _ same c.if-waiting-eq0.false)
    (g.met.H.Watch.both [] left c.args.watch.now c.tell_used.new.watch c.frames_left.new.self c.tell_used.ensures c.frames_left.ensures)
