-- The numbers of a classic pcap file, in the order of octets of the machine that wrote it (pcap-savefile(5)).
use Rattle.std.specs.Prelude.{ℕ, List}
use Rattle.byteorder.specs.Endian.{big_number, little_number, big_bytes, little_bytes}
use Rattle.capture.specs.declared.format.Endian.{Endian}
use Rattle.capture.specs.declared.format.Endian.TheVariants.{Big, Little}

-- the number in the first two octets
abbrev pub u16_at : Endian → List ℕ → ℕ
u16_at Big octets = big_number 2 octets
u16_at Little octets = little_number 2 octets

-- the number in the first four octets
abbrev pub u32_at : Endian → List ℕ → ℕ
u32_at Big octets = big_number 4 octets
u32_at Little octets = little_number 4 octets

-- a number of 16 bits, spelled
abbrev pub u16_octets : Endian → ℕ → List ℕ
u16_octets Big number = big_bytes 2 number
u16_octets Little number = little_bytes 2 number

-- a number of 32 bits, spelled
abbrev pub u32_octets : Endian → ℕ → List ℕ
u32_octets Big number = big_bytes 4 number
u32_octets Little number = little_bytes 4 number
