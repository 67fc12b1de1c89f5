use Rattle.std.proofs.Common.{take, sym, ap, ◌∙◌, ◌++◌}
use Rattle.std.proofs.lemmas.List.{take_rest, take-append-drop}
use Rattle.text.proofs.Fronts.{sent_last, sent_more, sent_none}
use Rattle.text.proofs.octet_writer.put.Goals as goal

pub returns-in-Ok-2 : goal.returns-in-Ok-2
returns-in-Ok-2 g c =
    let octets = c.args.octets.now in let k = c.in-Ok.taken in
    sent_last _ _ (sent_more _ _ _ (sent_none _ octets) (sym (take-append-drop k octets) ∙ ap (λ t. take k octets ++ t) (sym (take_rest octets k))) c.in-Ok.ensures.bytes) c.put_rest.ensures
