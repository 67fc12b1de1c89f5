use Rattle.std.proofs.Common.{arith}
use Rattle.std.proofs.lemmas.Grind.{common_steps}
use Rattle.capture.proofs.RingLaws.{length-kept_of}
use Rattle.capture.proofs.octet_store.class_octets.ClassOctets.has_room.Goals as goal

pub returns : goal.returns
returns g c = rw (← c.self.view_is, length-kept_of) (grind (arith, common_steps))
