use Rattle.std.proofs.Common.{◌≡◌, ◌∙◌, ap, refl}
use Rattle.std.proofs.lemmas.Result.{err_from_is_err_and}
use Rattle.text.proofs.Fronts.{sent_none, sent_more, sent_exit, sent_last}
use Rattle.schedule_check.specs.Refusals.{map_after}
use Rattle.schedule_check.specs.Words.{plan_asked, Plan, class_count, classes_apart}
use Rattle.schedule_check.proofs.ChangeLaws.{told_parts}
use Rattle.schedule_check.proofs.schedule_report.put_schedule.Goals as goal

pub returns-in_err-put_apart : goal.returns-in_err-put_apart
returns-in_err-put_apart g c = λ tell tells.
    let p = err_from_is_err_and c.from_residual.result c.from_residual.ensures.1 in
    let s = c.args.settings.now in
    let ch = c.args.change.now in
    let parts = told_parts tell s ch c.requires.accepted in
    let entries = ap (λ (p : Plan). p.entries) c.requires.plan in
    let count : c.class_count-count.result ≡ class_count (map_after s.map ch.map) = c.class_count-count.ensures.count ∙ ap class_count c.map_after.ensures in
    let list : c.deref.result.now ≡ classes_apart (class_count (map_after s.map ch.map)) 0 (plan_asked ch).entries = cc in
    sent_exit _ _ _ p.1 (sent_none _ _) parts (rw list at c.in_err-put_apart.ensures)

pub returns-in_err-put_shares : goal.returns-in_err-put_shares
returns-in_err-put_shares g c = λ tell tells.
    let p = err_from_is_err_and c.from_residual-in_err-put_shares.result c.from_residual-in_err-put_shares.ensures.1 in
    let s = c.args.settings.now in
    let ch = c.args.change.now in
    let parts = told_parts tell s ch c.requires.accepted in
    let entries = ap (λ (p : Plan). p.entries) c.requires.plan in
    let count : c.class_count-count.result ≡ class_count (map_after s.map ch.map) = c.class_count-count.ensures.count ∙ ap class_count c.map_after.ensures in
    let list : c.deref.result.now ≡ classes_apart (class_count (map_after s.map ch.map)) 0 (plan_asked ch).entries = cc in
    let shares = rw (c.requires.plan, count) at c.in_err-put_shares.ensures in
    sent_exit _ _ _ p.1 (sent_more _ _ _ (sent_none _ _) parts (rw list at c.in_ok-put_apart.ensures)) refl shares

pub returns : goal.returns
returns g c = λ tell tells.
    let s = c.args.settings.now in
    let ch = c.args.change.now in
    let parts = told_parts tell s ch c.requires.accepted in
    let entries = ap (λ (p : Plan). p.entries) c.requires.plan in
    let count : c.class_count-count.result ≡ class_count (map_after s.map ch.map) = c.class_count-count.ensures.count ∙ ap class_count c.map_after.ensures in
    let list : c.deref.result.now ≡ classes_apart (class_count (map_after s.map ch.map)) 0 (plan_asked ch).entries = cc in
    let shares = rw (c.requires.plan, count) at c.in_ok-put_shares.ensures in
    let asked = rw count at (c.put_asked.ensures tell tells) in
    sent_last _ _ (sent_more _ _ _ (sent_more _ _ _ (sent_none _ _) parts (rw list at c.in_ok-put_apart.ensures)) refl shares) asked
