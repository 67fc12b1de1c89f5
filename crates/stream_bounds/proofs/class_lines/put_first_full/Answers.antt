use Rattle.std.proofs.Common.{Some, codes, refl}
use Rattle.std.proofs.lemmas.Result.{err_from_is_err_and}
use Rattle.text.proofs.Fronts.{sent_none, sent_more, sent_exit, sent_last}
use Rattle.stream_bounds.specs.BoundLines.{full_end, place_text}
use Rattle.stream_bounds.proofs.class_lines.put_first_full.Goals as goal

pub returns-in_err-put_place : goal.returns-in_err-put_place
returns-in_err-put_place g c =
    let p = err_from_is_err_and c.from_residual.result c.from_residual.ensures.1 in
    sent_exit _ (place_text (codes " full") c.args.place) (codes "\n") p.1 (sent_none _ (full_end (Some c.args.place))) refl c.in_err-put_place.ensures

pub returns : goal.returns
returns g c =
    let first = sent_more _ (place_text (codes " full") c.args.place) (codes "\n") (sent_none _ (full_end (Some c.args.place))) refl c.in_ok-put_place.ensures in
    sent_last _ _ first c.put.ensures
