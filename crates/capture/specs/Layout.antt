-- A capture as it is spelled (pcap-savefile(5)).
use Rattle.std.specs.Prelude.{◌≤◌, ℕ, ◌*◌, ◌/◌, ◌%◌, List, [], ◌∷◌, ◌++◌, length, map}
use Rattle.capture.specs.declared.format.Resolution.{Resolution}
use Rattle.capture.specs.declared.format.Resolution.TheVariants.{Micros, Nanos}
use Rattle.capture.specs.declared.format.Format.{Format}
use Rattle.capture.specs.declared.reader.End.TheVariants.{Whole}
use Rattle.capture.specs.Numbers.{u16_octets, u32_octets}
use Rattle.capture.specs.Records.{Entry, IsWithin, fraction_of}
use Rattle.capture.specs.Captures.{IsCapture}
use Rattle.capture.specs.declared.format.TheConstants.{MAX_RECORDS}

-- the magic number of each resolution
abbrev pub magic_of : Resolution → ℕ
magic_of Micros = 0xa1b2c3d4
magic_of Nanos = 0xa1b23c4d

-- the file header: magic number, version 2.4, zone, accuracy, snapshot length, link type 1
unfoldable pub spelled_header : Format → ℕ → ℕ → ℕ → List ℕ
spelled_header format zone accuracy snapshot = let e = format.endian in
    u32_octets e (magic_of format.resolution) ++ (u16_octets e 2 ++ (u16_octets e 4
    ++ (u32_octets e zone ++ (u32_octets e accuracy ++ (u32_octets e snapshot ++ u32_octets e 1)))))

-- the header of a record: whole seconds, the fraction rounded down, the octets captured, the octets of the frame
unfoldable pub spelled_record_header : Format → ℕ → ℕ → ℕ → List ℕ
spelled_record_header format moment captured original = let e = format.endian in
    u32_octets e (moment / 1000000000000) ++ (u32_octets e (moment % 1000000000000 / fraction_of format.resolution)
    ++ (u32_octets e captured ++ u32_octets e original))

-- a record as octets
abbrev pub spelled_record : Format → Entry → List ℕ
spelled_record format e = spelled_record_header format e.moment e.captured e.original ++ e.octets

-- records as octets, one after another
abbrev pub spelled_records : Format → List Entry → List ℕ
spelled_records format [] = []
spelled_records format (e ∷ es) = spelled_record format e ++ spelled_records format es

-- a record with its moment rounded down to what its time stamp can say
abbrev pub rounded : Resolution → Entry → Entry
rounded resolution e = record e { moment = e.moment / fraction_of resolution * fraction_of resolution }

-- each record fits its fields
abbrev pub AreWithin : List Entry → Type 0
AreWithin [] = Unit {0}
AreWithin (e ∷ es) = IsWithin e × AreWithin es

-- a header and records that are spelled are read as those records, in either order and resolution, whatever zone, accuracy and
-- snapshot length the header has
abbrev pub IsSpelling : Type 0
IsSpelling = (format : Format) (zone accuracy snapshot : ℕ) (es : List Entry) → AreWithin es → length es ≤ MAX_RECORDS
    → IsCapture (spelled_header format zone accuracy snapshot ++ spelled_records format es) format (map (rounded format.resolution) es) Whole
