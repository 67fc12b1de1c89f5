-- What the first block of octets is.
use Rattle.std.specs.Prelude.{⊤, ◌≤◌, ◌<◌, ℕ, ◌-◌, List, length, take, drop, Bool, true, false, Option, Some, None, Result, Ok, Err, nat_lt, nat_le, ◌==◌, if◌then◌else◌}
use Rattle.capture.specs.declared.format.Endian.{Endian}
use Rattle.capture.specs.Numbers.{u16_at, u32_at}
use Rattle.pcapng.specs.declared.fault.BlockKind.{BlockKind}
use Rattle.pcapng.specs.declared.fault.BlockKind.TheVariants.{ShortBlock, BadLength, BadVersion, TooManyInterfaces}
use Rattle.pcapng.specs.declared.block.Kind.{Kind}
use Rattle.pcapng.specs.declared.block.Kind.TheVariants.{SectionHeader, Description, Obsolete, Simple, Enhanced}
use Rattle.pcapng.specs.declared.block.Head.{Head}
use Rattle.pcapng.specs.declared.block.Content.{Content}
use Rattle.pcapng.specs.declared.block.Content.TheVariants.{Section, Described, Framed, Passed}
use Rattle.pcapng.specs.declared.block.Found.{Found}
use Rattle.pcapng.specs.declared.block.TheConstants.{MAX_INTERFACES}
use Rattle.pcapng.specs.declared.interface.Interface.{Interface}
use Rattle.pcapng.specs.declared.packet.Packet.{Packet}
use Rattle.pcapng.specs.Blocks.{head_of}
use Rattle.pcapng.specs.Interfaces.{interface_of}
use Rattle.pcapng.specs.Packets.{enhanced_packet, obsolete_packet, simple_packet, IsFramed}

-- a section of version 1 begins (4.1)
abbrev pub section_of : Endian → List ℕ → Result Content BlockKind
section_of endian block = if u16_at endian (drop 12 block) == 1 then Ok Section else Err BadVersion

-- an interface as what a block has in it
abbrev pub described : Result Interface BlockKind → Result Content BlockKind
described (Ok i) = Ok (Described i)
described (Err kind) = Err kind

-- one more interface
abbrev pub description_of : Endian → List Interface → List ℕ → Result Content BlockKind
description_of endian interfaces block =
    if nat_le MAX_INTERFACES (length interfaces) then Err TooManyInterfaces else described (interface_of endian block)

-- a packet as what a block has in it
abbrev pub framed : Result Packet BlockKind → Result Content BlockKind
framed (Ok p) = Ok (Framed p)
framed (Err kind) = Err kind

-- what a whole block of a kind that is read has in it
abbrev pub content_of : Kind → Endian → List Interface → List ℕ → Result Content BlockKind
content_of SectionHeader endian interfaces block = section_of endian block
content_of Description endian interfaces block = description_of endian interfaces block
content_of Obsolete endian interfaces block = framed (obsolete_packet endian interfaces block)
content_of Simple endian interfaces block = framed (simple_packet endian interfaces block)
content_of Enhanced endian interfaces block = framed (enhanced_packet endian interfaces block)

-- a block with this front, by what it has in it
abbrev pub found_as : Head → Result Content BlockKind → Result Found BlockKind
found_as h (Ok content) = Ok (record { endian = h.endian; length = h.length; content = content })
found_as h (Err kind) = Err kind

-- a whole block says its length twice (3.1)
abbrev pub whole_block : Kind → Head → List Interface → List ℕ → Result Found BlockKind
whole_block kind h interfaces block =
    if u32_at h.endian (drop (length block - 4) block) == h.length
    then found_as h (content_of kind h.endian interfaces block)
    else Err BadLength

-- what a block with this front is; of one that isn't read the front is enough
abbrev pub found_by : Option Kind → Head → List Interface → List ℕ → Result Found BlockKind
found_by None h interfaces octets = found_as h (Ok Passed)
found_by (Some kind) h interfaces octets =
    if nat_lt (length octets) h.length then Err ShortBlock else whole_block kind h interfaces (take h.length octets)

abbrev pub found_with : Result Head BlockKind → List Interface → List ℕ → Result Found BlockKind
found_with (Ok h) interfaces octets = found_by h.kind h interfaces octets
found_with (Err kind) interfaces octets = Err kind

-- what the first block is, in a section of this order with these interfaces; or why it is none that can be read
abbrev pub found : Option Endian → List Interface → List ℕ → Result Found BlockKind
found section interfaces octets =
    if nat_lt (length octets) 12 then Err ShortBlock else found_with (head_of section octets) interfaces octets

-- what a block of so many octets has in it fits it, where its section has so many interfaces
abbrev pub IsContent : ℕ → ℕ → Content → Type 0
IsContent interfaces size Section = ⊤
IsContent interfaces size (Described i) = interfaces < MAX_INTERFACES
IsContent interfaces size (Framed p) = IsFramed size p
IsContent interfaces size Passed = ⊤

-- how many octets have to be there: all of a block that is read
abbrev pub asked_of : ℕ → Content → ℕ
asked_of size Passed = 12
asked_of size _ = size

-- a block that is found among so many octets
pub record IsFound (interfaces octets : ℕ) (f : Found) : Type 0 where
  pub content_fits : IsContent interfaces f.length f.content
  pub least : 12 ≤ f.length
  pub there : asked_of f.length f.content ≤ octets

-- more of the block is wanted
abbrev pub is_short : BlockKind → Bool
is_short ShortBlock = true
is_short _ = false
