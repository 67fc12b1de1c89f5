use Rattle.capture.proofs.ClassLaws.{new_room}
use Rattle.capture.proofs.octet_store.store.OctetStore.new.Goals as goal

pub invariant_of-result : goal.invariant_of-result
invariant_of-result g c = rw c.in_ok-classes.ensures (new_room c.args.room)
