-- A capture in pcapng as it is spelled: a section header, an interface of Ethernet in nanoseconds, and enhanced packet
-- blocks (draft-ietf-opsawg-pcapng, 3.1, 4.1 to 4.3).
use Rattle.std.specs.Prelude.{◌≡◌, ℕ, ◌+◌, ◌-◌, ◌/◌, ◌%◌, ◌^◌, List, [], ◌∷◌, ◌++◌, length, replicate}
use Rattle.capture.specs.declared.format.Endian.{Endian}
use Rattle.capture.specs.Numbers.{u16_octets, u32_octets}
use Rattle.capture.specs.CaptureWriter.{written_format, written_header}
use Rattle.capture.specs.Layout.{spelled_records, AreWithin}
use Rattle.capture.specs.Records.{Entry}
use Rattle.pcapng.specs.declared.to_classic.PcapngToClassic.{PcapngToClassic}
use Rattle.pcapng.specs.Reader.{IsNew, classic_of}

-- a block: its type, its length, what it has in it, and its length once more
abbrev pub spelled_block : Endian → ℕ → List ℕ → List ℕ
spelled_block e kind body =
    u32_octets e kind ++ (u32_octets e (length body + 12) ++ (body ++ u32_octets e (length body + 12)))

-- a section header of version 1.0, whose length isn't said
abbrev pub spelled_section : Endian → List ℕ
spelled_section e = spelled_block e 0x0a0d0d0a
    (u32_octets e 0x1a2b3c4d ++ (u16_octets e 1 ++ (u16_octets e 0 ++ replicate 8 255)))

-- an interface of link type 1, without a snap length, whose time stamps are nanoseconds
abbrev pub spelled_interface : Endian → List ℕ
spelled_interface e = spelled_block e 1 (u16_octets e 1 ++ (u16_octets e 0 ++ (u32_octets e 0
    ++ (u16_octets e 9 ++ (u16_octets e 1 ++ ((9 ∷ 0 ∷ 0 ∷ 0 ∷ []) ++ (u16_octets e 0 ++ u16_octets e 0)))))))

-- octets that fill up to a multiple of four
abbrev pub filling : ℕ → List ℕ
filling n = replicate ((4 - n % 4) % 4) 0

-- a packet: its interface, the higher and the lower half of its time stamp, its lengths, its octets
abbrev pub packet_body : Endian → ℕ → Entry → List ℕ
packet_body e ticks p = u32_octets e 0 ++ (u32_octets e (ticks / 2 ^ 32) ++ (u32_octets e (ticks % 2 ^ 32)
    ++ (u32_octets e p.captured ++ (u32_octets e p.original ++ (p.octets ++ filling p.captured)))))

abbrev pub spelled_packet : Endian → Entry → List ℕ
spelled_packet e p = spelled_block e 6 (packet_body e (p.moment / 1000) p)

abbrev pub spelled_packets : Endian → List Entry → List ℕ
spelled_packets e [] = []
spelled_packets e (p ∷ ps) = spelled_packet e p ++ spelled_packets e ps

abbrev pub spelled_pcapng : Endian → List Entry → List ℕ
spelled_pcapng e ps = spelled_section e ++ (spelled_interface e ++ spelled_packets e ps)

-- what is spelled, in either order, comes to the header of a classic capture and the same records, as a writer spells
-- them
abbrev pub IsReadBack : PcapngToClassic → Type 0
IsReadBack t = IsNew t → (e : Endian) (ps : List Entry) → AreWithin ps
    → classic_of t (spelled_pcapng e ps) ≡ written_header ++ spelled_records written_format ps
