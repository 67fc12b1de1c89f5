-- Interfaces, as a section describes them (draft-ietf-opsawg-pcapng, 4.2).
use Rattle.std.specs.Prelude.{ℕ, ◌+◌, ◌-◌, ◌*◌, ◌/◌, List, [], ◌∷◌, length, take, drop, Result, Ok, Err, nat_lt, slice_index, slice_range, ◌==◌, if◌then◌else◌}
use Rattle.capture.specs.declared.format.Endian.{Endian}
use Rattle.capture.specs.Numbers.{u16_at, u32_at}
use Rattle.pcapng.specs.declared.fault.BlockKind.{BlockKind}
use Rattle.pcapng.specs.declared.fault.BlockKind.TheVariants.{BadOption}
use Rattle.pcapng.specs.declared.interface.Interface.{Interface}
use Rattle.pcapng.specs.Blocks.{u64_at}
use Rattle.pcapng.specs.Steps.{Taken, run_all}

-- the octets of an option (3.5): its code and its length, and its value, filled up to a multiple of 4
abbrev pub option_octets : ℕ → ℕ
option_octets length = 4 + (length + 3) / 4 * 4

-- what an option says of an interface: its resolution (code 9, if_tsresol), or how many seconds are added to its
-- moments (code 14, if_tsoffset), or nothing that is asked for
abbrev pub with_option : Endian → ℕ → ℕ → List ℕ → Interface → Result Interface BlockKind
with_option endian code size value i =
    if code == 9 then (if size == 1 then Ok (record i { resolution = slice_index value 0 }) else Err BadOption)
    else if code == 14 then (if size == 8 then Ok (record i { offset = u64_at endian value }) else Err BadOption)
    else Ok i

-- an option is taken, and nothing put
abbrev pub told : ℕ → Result Interface BlockKind → Taken (Result Interface BlockKind)
told count found = record { count = count; put = []; state = found }

-- an option of this code and length; one of code 0 (opt_endofopt) ends the list, and what comes after it counts for nothing
abbrev pub option_taken : Endian → Interface → List ℕ → ℕ → ℕ → Taken (Result Interface BlockKind)
option_taken endian i octets code size =
    if code == 0 then told (length octets) (Ok i)
    else if nat_lt (length octets) (option_octets size) then told (length octets) (Err BadOption)
    else told (option_octets size) (with_option endian code size (take size (drop 4 octets)) i)

-- the first option
abbrev pub first_option : Endian → Interface → List ℕ → Taken (Result Interface BlockKind)
first_option endian i octets =
    if nat_lt (length octets) 4 then told (length octets) (Err BadOption)
    else option_taken endian i octets (u16_at endian octets) (u16_at endian (drop 2 octets))

-- the next option, as far as all was right
abbrev pub next_option : Endian → Result Interface BlockKind → List ℕ → Taken (Result Interface BlockKind)
next_option endian (Err kind) octets = told (length octets) (Err kind)
next_option endian (Ok i) [] = told 0 (Ok i)
next_option endian (Ok i) (x ∷ xs) = first_option endian i (x ∷ xs)

-- an interface with what these options say
abbrev pub with_options : Endian → Interface → List ℕ → Result Interface BlockKind
with_options endian i octets = (run_all (next_option endian) (Ok i) octets).last

-- an interface before its options: microseconds, and no second is added
abbrev pub plain_interface : ℕ → ℕ → Interface
plain_interface link snap = record { link = link; snap = snap; resolution = 6; offset = 0 }

-- the interface that a whole block describes: its link type, 2 octets of nothing, its snap length, its options
abbrev pub interface_of : Endian → List ℕ → Result Interface BlockKind
interface_of endian block =
    with_options endian (plain_interface (u16_at endian (drop 8 block)) (u32_at endian (drop 12 block)))
    (slice_range block 16 (length block - 4))
