-- Blocks, and what their first 12 octets say (draft-ietf-opsawg-pcapng, 3.1).
use Rattle.std.specs.Prelude.{ℕ, ◌%◌, List, drop, Option, Some, None, Result, Ok, Err, is_some, nat_lt, ◌==◌, not, ◌||◌, ◌&&◌, if◌then◌else◌}
use Rattle.byteorder.specs.Endian.{big_number, little_number}
use Rattle.capture.specs.declared.format.Endian.{Endian}
use Rattle.capture.specs.declared.format.Endian.TheVariants.{Big, Little}
use Rattle.capture.specs.Numbers.{u32_at}
use Rattle.pcapng.specs.declared.fault.BlockKind.{BlockKind}
use Rattle.pcapng.specs.declared.fault.BlockKind.TheVariants.{NotPcapng, BadByteOrder, BadLength, LongRecord}
use Rattle.pcapng.specs.declared.block.Kind.{Kind}
use Rattle.pcapng.specs.declared.block.Kind.TheVariants.{SectionHeader, Description, Obsolete, Simple, Enhanced}
use Rattle.pcapng.specs.declared.block.Head.{Head}
use Rattle.pcapng.specs.declared.block.TheConstants.{MAX_BLOCK_OCTETS}

-- the number in the first eight octets
abbrev pub u64_at : Endian → List ℕ → ℕ
u64_at Big octets = big_number 8 octets
u64_at Little octets = little_number 8 octets

-- the blocks that are read, by their types (4.1 to 4.4; 2 is the packet block of old, Appendix A). A section header's
-- type reads the same in both orders.
abbrev pub kind_of : ℕ → Option Kind
kind_of number =
    if number == 0x0a0d0d0a then Some SectionHeader
    else if number == 1 then Some Description
    else if number == 2 then Some Obsolete
    else if number == 3 then Some Simple
    else if number == 6 then Some Enhanced
    else None

-- the fewest octets of a block: its two lengths, its type, and what each of its kind has
abbrev pub fewest_octets : Option Kind → ℕ
fewest_octets (Some SectionHeader) = 28
fewest_octets (Some Description) = 20
fewest_octets (Some Obsolete) = 32
fewest_octets (Some Simple) = 16
fewest_octets (Some Enhanced) = 32
fewest_octets None = 12

-- the order that a byte-order magic is spelled in (4.1)
abbrev pub order_said : List ℕ → Result Endian BlockKind
order_said octets =
    if u32_at Big octets == 0x1a2b3c4d then Ok Big
    else if u32_at Little octets == 0x1a2b3c4d then Ok Little
    else Err BadByteOrder

-- the order of the section that was begun
abbrev pub order_begun : Option Endian → Result Endian BlockKind
order_begun (Some endian) = Ok endian
order_begun None = Err NotPcapng

-- the order of a block's numbers: a section header says it, and all others are in that of their section
abbrev pub order_for : Option Endian → List ℕ → Result Endian BlockKind
order_for section octets = if u32_at Big octets == 0x0a0d0d0a then order_said (drop 8 octets) else order_begun section

-- the front of a block, or what is wrong with its length
abbrev pub checked_head : Head → Result Head BlockKind
checked_head h =
    if nat_lt h.length (fewest_octets h.kind) || not (h.length % 4 == 0) then Err BadLength
    else if is_some h.kind && nat_lt MAX_BLOCK_OCTETS h.length then Err LongRecord
    else Ok h

-- the same, where the order is known or can't be
abbrev pub head_in : Result Endian BlockKind → List ℕ → Result Head BlockKind
head_in (Ok endian) octets = checked_head (record {
  endian = endian;
  kind = kind_of (u32_at endian octets);
  length = u32_at endian (drop 4 octets);
})
head_in (Err kind) octets = Err kind

-- the front of a block, of 12 octets or more, in a section of this order, or before the first
abbrev pub head_of : Option Endian → List ℕ → Result Head BlockKind
head_of section octets = head_in (order_for section octets) octets
