use Rattle.std.proofs.Common.{◌≡◌, ap, refl}
use Rattle.std.proofs.lemmas.Result.{err_from_is_err_and}
use Rattle.text.proofs.Fronts.{sent_exit, sent_last, sent_more, sent_none}
use Rattle.abstract_port.specs.AbstractPort.{plan_asked}
use Rattle.gates.specs.Gate.{Plan}
use Rattle.schedule_check.specs.Apart.{apart_line, class_count, classes_apart}
use Rattle.schedule_check.specs.Refusals.{map_after}
use Rattle.stream_bounds.specs.BoundLines.{premise_lines, silent_line}
use Rattle.stream_bounds.proofs.premise_lines.put_premises.Goals as goal

pub returns-in_err-put_apart : goal.returns-in_err-put_apart
returns-in_err-put_apart g c =
    let p = err_from_is_err_and c.from_residual.result c.from_residual.ensures.1 in
    let s = c.args.settings.now in
    let ch = c.args.change.now in
    let entries = ap (λ (p : Plan). p.entries) c.requires.plan in
    let list : c.deref.result.now ≡ classes_apart (class_count (map_after s.map ch.map)) 0 (plan_asked ch).entries = cc in
    sent_exit _ (apart_line (classes_apart (class_count (map_after s.map ch.map)) 0 (plan_asked ch).entries)) _ p.1
    (sent_none _ (premise_lines s ch c.args.streams.now)) refl (rw list at c.in_err-put_apart.ensures)

pub returns : goal.returns
returns g c =
    let s = c.args.settings.now in
    let ch = c.args.change.now in
    let entries = ap (λ (p : Plan). p.entries) c.requires.plan in
    let list : c.deref.result.now ≡ classes_apart (class_count (map_after s.map ch.map)) 0 (plan_asked ch).entries = cc in
    let first = sent_more _ (apart_line (classes_apart (class_count (map_after s.map ch.map)) 0 (plan_asked ch).entries)) (silent_line s ch c.args.streams.now)
    (sent_none _ (premise_lines s ch c.args.streams.now)) refl (rw list at c.in_ok-put_apart.ensures) in
    sent_last _ _ first c.put_silent.ensures
