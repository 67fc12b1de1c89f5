use Rattle.std.proofs.Common.{◌++◌, refl}
use Rattle.std.proofs.lemmas.Result.{err_from_is_err_and}
use Rattle.text.proofs.Fronts.{sent_exit, sent_last, sent_more, sent_none}
use Rattle.drawing.specs.Axis.{axis_text, origin_text}
use Rattle.drawing.specs.Picture.{ground_text, names_text}
use Rattle.drawing.proofs.svg.put_ground.Goals as goal

pub returns-in_err-put_head : goal.returns-in_err-put_head
returns-in_err-put_head g c =
    let p = err_from_is_err_and c.from_residual.result c.from_residual.ensures.1 in
    let s0 = sent_none (g.W.Write.contents c.args.writer.now) (ground_text c.args.page.now c.args.height) in
    sent_exit _ _ (axis_text c.args.page.now ++ (origin_text c.args.page.now ++ names_text)) p.1 s0 refl c.in_err-put_head.ensures

pub returns-in_err-put_axis : goal.returns-in_err-put_axis
returns-in_err-put_axis g c =
    let p = err_from_is_err_and c.from_residual-in_err-put_axis.result c.from_residual-in_err-put_axis.ensures.1 in
    let s0 = sent_none (g.W.Write.contents c.args.writer.now) (ground_text c.args.page.now c.args.height) in
    let s1 = sent_more _ _ (axis_text c.args.page.now ++ (origin_text c.args.page.now ++ names_text)) s0 refl c.in_ok-put_head.ensures in
    sent_exit _ _ (origin_text c.args.page.now ++ names_text) p.1 s1 refl c.in_err-put_axis.ensures

pub returns-in_err-put_origin : goal.returns-in_err-put_origin
returns-in_err-put_origin g c =
    let p = err_from_is_err_and c.from_residual-in_err-put_origin.result c.from_residual-in_err-put_origin.ensures.1 in
    let s0 = sent_none (g.W.Write.contents c.args.writer.now) (ground_text c.args.page.now c.args.height) in
    let s1 = sent_more _ _ (axis_text c.args.page.now ++ (origin_text c.args.page.now ++ names_text)) s0 refl c.in_ok-put_head.ensures in
    let s2 = sent_more _ _ (origin_text c.args.page.now ++ names_text) s1 refl c.in_ok-put_axis.ensures in
    sent_exit _ _ (names_text) p.1 s2 refl c.in_err-put_origin.ensures

pub returns : goal.returns
returns g c =
    let s0 = sent_none (g.W.Write.contents c.args.writer.now) (ground_text c.args.page.now c.args.height) in
    let s1 = sent_more _ _ (axis_text c.args.page.now ++ (origin_text c.args.page.now ++ names_text)) s0 refl c.in_ok-put_head.ensures in
    let s2 = sent_more _ _ (origin_text c.args.page.now ++ names_text) s1 refl c.in_ok-put_axis.ensures in
    let s3 = sent_more _ _ (names_text) s2 refl c.in_ok-put_origin.ensures in
    sent_last c.put_names.result _ s3 c.put_names.ensures
