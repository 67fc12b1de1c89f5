use Rattle.std.proofs.Common.{◌++◌, codes, refl}
use Rattle.std.proofs.lemmas.Result.{err_from_is_err_and}
use Rattle.text.proofs.Fronts.{sent_none, sent_more, sent_exit, sent_last}
use Rattle.stream_bounds.specs.BoundLines.{class_head, full_end, place_text, stuck_line}
use Rattle.stream_bounds.proofs.class_lines.put_stuck.Goals as goal

pub returns-in_err-put_head : goal.returns-in_err-put_head
returns-in_err-put_head g c =
    let p = err_from_is_err_and c.from_residual.result c.from_residual.ensures.1 in
    let rest = place_text (codes " stuck") c.args.never ++ full_end c.args.full in
    sent_exit _ (class_head c.args.class) rest p.1 (sent_none _ (stuck_line c.args.class c.args.never c.args.full)) refl c.in_err-put_head.ensures

pub returns-in_err-put_place : goal.returns-in_err-put_place
returns-in_err-put_place g c =
    let p = err_from_is_err_and c.from_residual-in_err-put_place.result c.from_residual-in_err-put_place.ensures.1 in
    let rest = place_text (codes " stuck") c.args.never ++ full_end c.args.full in
    let head = sent_more _ (class_head c.args.class) rest (sent_none _ (stuck_line c.args.class c.args.never c.args.full)) refl c.in_ok-put_head.ensures in
    sent_exit _ (place_text (codes " stuck") c.args.never) (full_end c.args.full) p.1 head refl c.in_err-put_place.ensures

pub returns : goal.returns
returns g c =
    let rest = place_text (codes " stuck") c.args.never ++ full_end c.args.full in
    let head = sent_more _ (class_head c.args.class) rest (sent_none _ (stuck_line c.args.class c.args.never c.args.full)) refl c.in_ok-put_head.ensures in
    sent_last _ _ (sent_more _ (place_text (codes " stuck") c.args.never) (full_end c.args.full) head refl c.in_ok-put_place.ensures) c.put_full.ensures
