-- Packets (draft-ietf-opsawg-pcapng, 4.3, 4.4 and Appendix A).
use Rattle.std.specs.Prelude.{◌≡◌, ◌≤◌, ◌<◌, ℕ, ◌+◌, ◌-◌, ◌*◌, ◌/◌, ◌%◌, ◌^◌, List, length, drop, min, Option, Some, None, Result, Ok, Err, Bool, false, nat_lt, slice_get, ◌==◌, not, if◌then◌else◌}
use Rattle.capture.specs.declared.format.Endian.{Endian}
use Rattle.capture.specs.declared.format.TheConstants.{MAX_RECORD_OCTETS}
use Rattle.capture.specs.Numbers.{u16_at, u32_at}
use Rattle.pcapng.specs.declared.fault.BlockKind.{BlockKind}
use Rattle.pcapng.specs.declared.fault.BlockKind.TheVariants.{NoInterface, BadLink, LongRecord, BadCaptured, BadMoment}
use Rattle.pcapng.specs.declared.interface.Interface.{Interface}
use Rattle.pcapng.specs.declared.packet.Fields.{Fields}
use Rattle.pcapng.specs.declared.packet.Packet.{Packet}

-- how many ticks a second has (4.2, if_tsresol): a power of 10, or of 2 where the highest bit is set
abbrev pub ticks_of_second : ℕ → ℕ
ticks_of_second resolution = if nat_lt resolution 128 then 10 ^ resolution else 2 ^ (resolution - 128)

-- so many ticks in whole nanoseconds
abbrev pub nanoseconds_of : ℕ → ℕ → ℕ
nanoseconds_of resolution ticks = ticks * 1000000000 / ticks_of_second resolution

-- whether a part of a nanosecond is left out there
abbrev pub is_part_left : ℕ → ℕ → Bool
is_part_left resolution ticks = not (ticks * 1000000000 % ticks_of_second resolution == 0)

-- a moment, and then an offset in seconds, of 64 bits in two's complement (4.2, if_tsoffset); none is before 1970, and
-- seconds have 32 bits
abbrev pub early : ℕ → Option ℕ
early moment = if nat_lt moment 4294967296000000000 then Some moment else None

abbrev pub with_offset : ℕ → ℕ → Option ℕ
with_offset moment offset =
    if nat_lt offset (2 ^ 63) then early (moment + offset * 1000000000)
    else if nat_lt moment ((2 ^ 64 - offset) * 1000000000) then None
    else early (moment - (2 ^ 64 - offset) * 1000000000)

-- the moment of a packet of an interface, in nanoseconds since 1970; a packet without a time stamp has moment 0
abbrev pub moment_of : Interface → Option ℕ → Option ℕ
moment_of i (Some ticks) = with_offset (nanoseconds_of i.resolution ticks) i.offset
moment_of i None = Some 0

-- whether it is rounded down
abbrev pub is_rounded : Interface → Option ℕ → Bool
is_rounded i (Some ticks) = is_part_left i.resolution ticks
is_rounded i None = false

-- the octets captured: of a simple packet block, which doesn't say, all of the frame up to the snap length, where there
-- is one
abbrev pub captured_of : Option ℕ → ℕ → ℕ → ℕ
captured_of (Some captured) snap original = captured
captured_of None snap original = if snap == 0 then original else min original snap

-- a packet with this moment
abbrev pub packet_at : Option ℕ → Bool → ℕ → Fields → Result Packet BlockKind
packet_at (Some moment) rounded captured f = Ok (record {
  moment = moment;
  is_rounded = rounded;
  captured = captured;
  original = f.original;
  start = f.start;
})
packet_at None rounded captured f = Err BadMoment

-- a packet with so many octets captured
abbrev pub packet_with : Interface → ℕ → Fields → Result Packet BlockKind
packet_with i captured f =
    if nat_lt MAX_RECORD_OCTETS captured then Err LongRecord
    else if nat_lt f.room captured then Err BadCaptured
    else packet_at (moment_of i f.ticks) (is_rounded i f.ticks) captured f

-- a packet of an interface, or the first fault that it has
abbrev pub packet_of : Option Interface → Fields → Result Packet BlockKind
packet_of (Some i) f =
    if i.link == 1 then packet_with i (captured_of f.captured i.snap f.original) f else Err (BadLink i.link)
packet_of None f = Err NoInterface

-- what an enhanced packet block says (4.3), and one of old
abbrev pub stamped_fields : Endian → List ℕ → Fields
stamped_fields endian block = record {
  ticks = Some (u32_at endian (drop 12 block) * 2 ^ 32 + u32_at endian (drop 16 block));
  captured = Some (u32_at endian (drop 20 block));
  original = u32_at endian (drop 24 block);
  start = 28;
  room = length block - 32;
}

-- what a simple one says (4.4)
abbrev pub simple_fields : Endian → List ℕ → Fields
simple_fields endian block = record {
  ticks = None;
  captured = None;
  original = u32_at endian (drop 8 block);
  start = 12;
  room = length block - 16;
}

-- the packet of a whole block: an enhanced one names its interface by 32 bits, one of old by 16, and a simple one is of
-- the first
abbrev pub enhanced_packet : Endian → List Interface → List ℕ → Result Packet BlockKind
enhanced_packet endian interfaces block =
    packet_of (slice_get interfaces (u32_at endian (drop 8 block))) (stamped_fields endian block)

abbrev pub obsolete_packet : Endian → List Interface → List ℕ → Result Packet BlockKind
obsolete_packet endian interfaces block =
    packet_of (slice_get interfaces (u16_at endian (drop 8 block))) (stamped_fields endian block)

abbrev pub simple_packet : Endian → List Interface → List ℕ → Result Packet BlockKind
simple_packet endian interfaces block = packet_of (slice_get interfaces 0) (simple_fields endian block)

-- what a packet keeps of what its block says
abbrev pub IsPacketOf : Fields → Packet → Type 0
IsPacketOf f p = (p.start ≡ f.start) × (p.captured ≤ f.room) × (p.moment < 4294967296000000000)

-- the octets of a packet stand in a block of so many octets, and a classic capture can say its moment
abbrev pub IsFramed : ℕ → Packet → Type 0
IsFramed size p = (p.start + p.captured ≤ size) × (p.moment < 4294967296000000000)
