use Rattle.std.proofs.Common.{refl}
use Rattle.pcapng.proofs.PlainLaws.{read_plain}
use Rattle.pcapng.proofs.plain.is_plain.Goals as goal

pub returns-then-is_plain_interface-clause-found : goal.returns-then-is_plain_interface-clause-found
returns-then-is_plain_interface-clause-found c =
    λ yes. read_plain c.args.section c.args.interfaces.now c.args.octets.now c.read_u32-number.result c.read_u32-room.result c.plain_packet.result
    (c.if-not-is_little.ensures refl) (c.if-not-is_plain_block.ensures refl) c.read_u32-number.ensures c.read_u32-room.ensures c.plain_packet.ensures
    (c.if-is_plain_interface.ensures refl) (c.is_plain_packet.ensures yes)
