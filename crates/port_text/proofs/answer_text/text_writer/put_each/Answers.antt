use Rattle.std.proofs.lemmas.List.{at_drop_more}
use Rattle.std.proofs.lemmas.Result.{err_from_is_err_and}
use Rattle.std.specs.List.{flat_map}
use Rattle.port_text.specs.Part.{text_of}
use Rattle.text.proofs.Fronts.{sent_more, sent_exit}
use Rattle.port_text.proofs.answer_text.text_writer.put_each.Goals as goal

pub returns-in_err-put_part : goal.returns-in_err-put_part
returns-in_err-put_part g c =
    let p = err_from_is_err_and c.from_residual.result c.from_residual.ensures.1 in
    sent_exit _ _ _ p.1 c.loop-part.invariant (at_drop_more (flat_map text_of) _ c.loop-part.part-index _ c.loop-part-test.true) c.in_err-put_part.ensures

pub loop-part-preserved : goal.loop-part-preserved
loop-part-preserved g c =
    sent_more _ _ _ c.loop-part.invariant (at_drop_more (flat_map text_of) _ c.loop-part.part-index _ c.loop-part-test.true) c.in_ok-put_part.ensures
