use Rattle.std.proofs.Common.{sym, ap, ◌∙◌, length}
use Rattle.capture.specs.OctetQueue.{held}
use Rattle.capture.proofs.RingLaws.{length-kept_of}
use Rattle.capture.proofs.octet_store.class_octets.ClassOctets.len.Goals as goal

pub returns : goal.returns
returns g c = c.len.ensures.len ∙ sym (length-kept_of c.self.inside.lengths.items (held c.self.inside.octets)) ∙ ap (λ w. length w.frames) c.self.view_is
