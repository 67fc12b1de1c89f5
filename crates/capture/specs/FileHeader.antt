-- The file header of a capture, its first 24 octets (pcap-savefile(5), the per-file header).
use Rattle.std.specs.Prelude.{◌≡◌, ⊤, ℕ, List, length, drop, Option, Some, None, Bool, true, false, Result, Ok, Err, IfSome, IsOk, nat_lt, ◌==◌, not, ◌||◌, if◌then◌else◌}
use Rattle.capture.specs.declared.fault.CapFault.{CapFault}
use Rattle.capture.specs.declared.fault.CapFault.TheVariants.{ShortHeader, BadMagic, BadVersion, BadLink, ShortRecord, LongRecord, BadFraction, TooManyRecords, BadShift, Read, Write, Memory}
use Rattle.capture.specs.declared.format.Endian.TheVariants.{Big, Little}
use Rattle.capture.specs.declared.format.Resolution.{Resolution}
use Rattle.capture.specs.declared.format.Resolution.TheVariants.{Micros, Nanos}
use Rattle.capture.specs.declared.format.Format.{Format}
use Rattle.capture.specs.Numbers.{u16_at, u32_at}

-- what a magic number says of the time stamps
abbrev pub resolution_of : ℕ → Option Resolution
resolution_of magic =
    if magic == 0xa1b2c3d4 then Some Micros
    else if magic == 0xa1b23c4d then Some Nanos
    else None

-- the format in which the magic number reads so: as big-endian, or else as little-endian
abbrev pub format_in : Option Resolution → Option Resolution → Option Format
format_in (Some resolution) little = Some (record { endian = Big; resolution = resolution })
format_in None (Some resolution) = Some (record { endian = Little; resolution = resolution })
format_in None None = None

-- the format that the first four octets say, read in either order
abbrev pub format_by_magic : List ℕ → Option Format
format_by_magic octets = format_in (resolution_of (u32_at Big octets)) (resolution_of (u32_at Little octets))

-- version 2.4 and link type 1, of a header with this format
abbrev pub format_with : List ℕ → Option Format → Result Format CapFault
format_with octets None = Err BadMagic
format_with octets (Some format) =
    if not (u16_at format.endian (drop 4 octets) == 2) || not (u16_at format.endian (drop 6 octets) == 4) then Err BadVersion
    else if not (u32_at format.endian (drop 20 octets) == 1) then Err BadLink
    else Ok format

-- the format that the 24 octets have, or what is wrong with them
abbrev pub header_format : List ℕ → Result Format CapFault
header_format octets = format_with octets (format_by_magic octets)

-- the format of a capture, or what is wrong with its header
abbrev pub format_of : List ℕ → Result Format CapFault
format_of octets = if nat_lt (length octets) 24 then Err ShortHeader else header_format octets

-- the faults of a header
abbrev pub is_header_fault : CapFault → Bool
is_header_fault ShortHeader = true
is_header_fault BadMagic = true
is_header_fault BadVersion = true
is_header_fault BadLink = true
is_header_fault _ = false

-- why there is no reader of these octets: the fault of the header, or a read failed, or it ran out of memory after a good header
abbrev pub IsHeaderFault : Option (List ℕ) → CapFault → Type 0
IsHeaderFault known Read = ⊤
IsHeaderFault known Memory = IfSome known (λ octets. IsOk (format_of octets))
IsHeaderFault known ShortHeader = IfSome known (λ octets. format_of octets ≡ Err ShortHeader)
IsHeaderFault known BadMagic = IfSome known (λ octets. format_of octets ≡ Err BadMagic)
IsHeaderFault known BadVersion = IfSome known (λ octets. format_of octets ≡ Err BadVersion)
IsHeaderFault known BadLink = IfSome known (λ octets. format_of octets ≡ Err BadLink)
IsHeaderFault known ShortRecord = ⊥
IsHeaderFault known LongRecord = ⊥
IsHeaderFault known BadFraction = ⊥
IsHeaderFault known TooManyRecords = ⊥
IsHeaderFault known BadShift = ⊥
IsHeaderFault known Write = ⊥
