-- The packets that most captures consist of: enhanced packet blocks, little-endian, in nanoseconds.
use Rattle.std.specs.Prelude.{◌≡◌, ◌≤◌, ◌<◌, ℕ, ◌+◌, ◌-◌, ◌*◌, ◌%◌, ◌^◌, List, length, drop, Option, Some, None, false}
use Rattle.capture.specs.declared.format.Endian.TheVariants.{Little}
use Rattle.capture.specs.declared.format.TheConstants.{MAX_RECORD_OCTETS}
use Rattle.capture.specs.Numbers.{u32_at}
use Rattle.pcapng.specs.declared.block.Content.TheVariants.{Framed}
use Rattle.pcapng.specs.declared.block.Found.{Found}
use Rattle.pcapng.specs.declared.block.TheConstants.{MAX_BLOCK_OCTETS}
use Rattle.pcapng.specs.declared.interface.Interface.{Interface}
use Rattle.pcapng.specs.declared.packet.Packet.{Packet}

-- the length that a block says at its front
abbrev pub plain_size : List ℕ → ℕ
plain_size octets = u32_at Little (drop 4 octets)

-- what the block says, of an interface in nanoseconds
abbrev pub plain_packet : List ℕ → Packet
plain_packet octets = record {
  moment = u32_at Little (drop 12 octets) * 2 ^ 32 + u32_at Little (drop 16 octets);
  is_rounded = false;
  captured = u32_at Little (drop 20 octets);
  original = u32_at Little (drop 24 octets);
  start = 28;
}

abbrev pub plain_found : List ℕ → Found
plain_found octets = record { endian = Little; length = plain_size octets; content = Framed (plain_packet octets) }

-- a whole enhanced packet block, without a fault
pub record IsPlainBlock (octets : List ℕ) : Type 0 where
  pub kind : u32_at Little octets ≡ 6
  pub least : 32 ≤ plain_size octets
  pub even : plain_size octets % 4 ≡ 0
  pub most : plain_size octets ≤ MAX_BLOCK_OCTETS
  pub there : plain_size octets ≤ length octets
  pub again : u32_at Little (drop (plain_size octets - 4) octets) ≡ plain_size octets

-- an interface of Ethernet, in nanoseconds, without an offset
abbrev pub IsPlainInterface : Option Interface → Type 0
IsPlainInterface (Some i) = (i.link ≡ 1) × (i.resolution ≡ 9) × (i.offset ≡ 0)
IsPlainInterface None = ⊥

-- the block has room for the packet, and a classic capture can say it
abbrev pub IsPlainPacket : ℕ → Packet → Type 0
IsPlainPacket room p = (p.captured ≤ room) × (p.captured ≤ MAX_RECORD_OCTETS) × (p.moment < 4294967296000000000)
