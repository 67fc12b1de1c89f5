use Rattle.std.proofs.Common.{refl}
use Rattle.text.proofs.Fronts.{sent_last, sent_more, sent_none}
use Rattle.text.proofs.octet_writer.line_writer.put_both.Goals as goal

pub returns : goal.returns
returns g c = sent_last _ _ (sent_more _ c.args.head.now c.args.rest.now (sent_none _ _) refl c.in_ok-put.ensures) c.put-2.ensures
