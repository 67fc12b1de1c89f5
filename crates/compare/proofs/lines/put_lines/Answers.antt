use Rattle.std.proofs.lemmas.List.{at_drop_more}
use Rattle.std.proofs.lemmas.Result.{err_from_is_err_and}
use Rattle.text.proofs.Fronts.{sent_more, sent_exit}
use Rattle.compare.specs.Lines.{compared_lines}
use Rattle.compare.proofs.lines.put_lines.Goals as goal

pub returns-in_err-put_line : goal.returns-in_err-put_line
returns-in_err-put_line g c =
    let p = err_from_is_err_and c.from_residual.result c.from_residual.ensures.1 in
    sent_exit _ _ _ p.1 c.loop-compared.invariant (at_drop_more compared_lines _ c.loop-compared.compared-index _ c.loop-compared-test.true) c.in_err-put_line.ensures

pub loop-compared-preserved : goal.loop-compared-preserved
loop-compared-preserved g c =
    sent_more _ _ _ c.loop-compared.invariant (at_drop_more compared_lines _ c.loop-compared.compared-index _ c.loop-compared-test.true) c.in_ok-put_line.ensures
