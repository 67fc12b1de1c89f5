use Rattle.std.proofs.Common.{take, sym, ap, ◌∙◌, ◌++◌}
use Rattle.std.proofs.lemmas.List.{take_rest, take-append-drop}
use Rattle.text.proofs.Fronts.{sent_more}
use Rattle.text.proofs.octet_writer.put_rest.Goals as goal

pub loop-rest-preserved : goal.loop-rest-preserved
loop-rest-preserved g c =
    let rest = c.loop-rest.rest.now in let k = c.in-Ok.taken in
    sent_more _ _ _ c.loop-rest.invariant (sym (take-append-drop k rest) ∙ ap (λ t. take k rest ++ t) (sym (take_rest rest k))) c.in-Ok.ensures.bytes
