use Rattle.std.proofs.Common.{◌+◌, ◌++◌, List, drop, sym, ap, ◌∙◌}
use Rattle.std.proofs.lemmas.List.{at_drop_more, drop_all}
use Rattle.std.proofs.lemmas.Result.{err_from_is_err_and}
use Rattle.text.proofs.Fronts.{sent_exit, sent_last, sent_more}
use Rattle.picture.specs.declared.span.Shape.{Shape}
use Rattle.drawing.specs.Marks.{grey_before, greys_text}
use Rattle.drawing.specs.declared.marks.Grey.{Grey}
use Rattle.drawing.proofs.TextLaws.{sent_as}
use Rattle.drawing.proofs.marks.put_greys.Goals as goal

pub returns-in_err-put_grey_before : goal.returns-in_err-put_grey_before
returns-in_err-put_grey_before g c =
    let page = c.args.page.now in
    let grey = c.loop-shape.grey in
    let rest = drop (c.loop-shape.shape-index + 1) c.args.shapes.now in
    let p = err_from_is_err_and c.from_residual.result c.from_residual.ensures.1 in
    let more = at_drop_more (λ xs. greys_text page c.args.top c.args.is_mixed xs grey) _ c.loop-shape.shape-index _ c.loop-shape-test.true
    ∙ ap (λ (n : Grey). grey_before c.args.top grey n ++ greys_text page c.args.top c.args.is_mixed rest n) (sym c.grey_after-next.ensures.value) in
    sent_exit _ _ (greys_text page c.args.top c.args.is_mixed rest c.grey_after-next.result) p.1 c.loop-shape.invariant.text more c.in_err-put_grey_before.ensures

pub loop-shape-preserved : goal.loop-shape-preserved
loop-shape-preserved g c =
    let page = c.args.page.now in
    let grey = c.loop-shape.grey in
    let rest = drop (c.loop-shape.shape-index + 1) c.args.shapes.now in
    let more = at_drop_more (λ xs. greys_text page c.args.top c.args.is_mixed xs grey) _ c.loop-shape.shape-index _ c.loop-shape-test.true
    ∙ ap (λ (n : Grey). grey_before c.args.top grey n ++ greys_text page c.args.top c.args.is_mixed rest n) (sym c.grey_after-next.ensures.value) in
    record {
      text = sent_more _ _ (greys_text page c.args.top c.args.is_mixed rest c.grey_after-next.result) c.loop-shape.invariant.text more c.in_ok-put_grey_before.ensures;
      row = c.grey_after-next.ensures.row;
    }

pub returns : goal.returns
returns g c =
    let page = c.args.page.now in
    let last = ap (λ (xs : List Shape). greys_text page c.args.top c.args.is_mixed xs c.loop-shape.grey) (drop_all c.loop-shape.shape-index c.args.shapes.now c.loop-shape-test.false) in
    sent_last c.put_grey.result _ (sent_as _ last c.loop-shape.invariant.text) c.put_grey.ensures
