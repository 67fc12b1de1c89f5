use Rattle.std.proofs.Common.{refl}
use Rattle.text.proofs.Fronts.{sent_last, sent_more, sent_none, sent_short}
use Rattle.table_capture.proofs.records.put_capture.Goals as goal

pub returns-in_default : goal.returns-in_default
returns-in_default g c = sent_short _ _ _ (sent_none _ _) refl c.in_default.ensures.octets

pub returns : goal.returns
returns g c = sent_last _ _ (sent_more _ _ _ (sent_none _ _) refl c.in-Ok.ensures.octets) c.write_frames.ensures
