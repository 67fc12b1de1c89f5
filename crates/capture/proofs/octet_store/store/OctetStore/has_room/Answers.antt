use Rattle.std.proofs.Common.{rules}
use Rattle.capture.proofs.octet_store.store.OctetStore.has_room.Goals as goal

pub has_room_in-requires : goal.has_room_in-requires
has_room_in-requires g c = (search rules, c.requires)
