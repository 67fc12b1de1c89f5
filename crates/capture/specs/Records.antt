-- The records of a capture: each a header of 16 octets and the octets captured (pcap-savefile(5), the per-packet header).
use Rattle.std.specs.Prelude.{◌≡◌, ◌≤◌, ◌<◌, ◌^◌, ℕ, ◌+◌, ◌*◌, List, length, take, drop, Option, Some, None, Bool, ◌&&◌, Result, Ok, Err, nat_lt, nat_le, if◌then◌else◌}
use Rattle.std.specs.Option.{option_or}
use Rattle.capture.specs.declared.fault.CapFault.{CapFault}
use Rattle.capture.specs.declared.fault.CapFault.TheVariants.{ShortRecord, LongRecord, BadFraction, TooManyRecords}
use Rattle.capture.specs.declared.format.Resolution.{Resolution}
use Rattle.capture.specs.declared.format.Resolution.TheVariants.{Micros, Nanos}
use Rattle.capture.specs.declared.format.Format.{Format}
use Rattle.capture.specs.declared.format.RecordHeader.{RecordHeader}
use Rattle.capture.specs.Numbers.{u32_at}
use Rattle.capture.specs.declared.format.TheConstants.{MAX_RECORDS, MAX_RECORD_OCTETS}
use Rattle.capture.specs.declared.writer.TheConstants.{CAPTURE_END}

-- a record: when the frame came in picoseconds, how many of its octets were captured, how many it had, and those captured
pub record Entry : Type 0 where
  pub moment : ℕ
  pub captured : ℕ
  pub original : ℕ
  pub octets : List ℕ

-- what a record may hold: its octets are as many as it says and at most 262,144, and its time stamp has 32 bits of seconds
pub record IsWithin (e : Entry) : Type 0 where
  pub whole : length e.octets ≡ e.captured
  pub short : e.captured ≤ MAX_RECORD_OCTETS
  pub fits : e.original < 2 ^ 32
  pub early : e.moment < CAPTURE_END

-- how many fractions a second has
abbrev pub fractions_of : Resolution → ℕ
fractions_of Micros = 1000000
fractions_of Nanos = 1000000000

-- how many picoseconds a fraction has
abbrev pub fraction_of : Resolution → ℕ
fraction_of Micros = 1000000
fraction_of Nanos = 1000

-- the four numbers of a record's header
abbrev pub header_at : Format → List ℕ → RecordHeader
header_at format octets = record {
  seconds = u32_at format.endian octets;
  fraction = u32_at format.endian (drop 4 octets);
  captured = u32_at format.endian (drop 8 octets);
  original = u32_at format.endian (drop 12 octets);
}

-- a record's moment in picoseconds: its seconds, and its fraction by the resolution
abbrev pub moment_of : Format → RecordHeader → ℕ
moment_of format header = header.seconds * 1000000000000 + header.fraction * fraction_of format.resolution

-- what is wrong with the header of the record with this number, from 0
abbrev pub header_fault : Format → ℕ → RecordHeader → Option CapFault
header_fault format number header =
    if nat_lt MAX_RECORD_OCTETS header.captured then Some LongRecord
    else if nat_le (fractions_of format.resolution) header.fraction then Some BadFraction
    else if nat_le MAX_RECORDS number then Some TooManyRecords
    else None

-- done, unless there is a fault
abbrev pub ok_unless : Option CapFault → Result (Unit {0}) CapFault
ok_unless None = Ok tt
ok_unless (Some fault) = Err fault

-- the first fault of a record with this header, of whose octets, the header's included, there are so many
abbrev pub fault_with : Format → ℕ → ℕ → RecordHeader → Option CapFault
fault_with format number len header =
    option_or (header_fault format number header) (if nat_lt len (16 + header.captured) then Some ShortRecord else None)

-- the first fault of the record with this number that these octets begin with
abbrev pub fault_at : Format → ℕ → List ℕ → Option CapFault
fault_at format number octets =
    if nat_lt (length octets) 16 then Some ShortRecord else fault_with format number (length octets) (header_at format octets)

-- the record that octets without a fault begin with
abbrev pub entry_at : Format → List ℕ → Entry
entry_at format octets = record {
  moment = moment_of format (header_at format octets);
  captured = (header_at format octets).captured;
  original = (header_at format octets).original;
  octets = take (header_at format octets).captured (drop 16 octets);
}

-- a record's header, and as many octets after it as it says
abbrev pub holds_record : Format → List ℕ → Bool
holds_record format octets = nat_le 16 (length octets) && nat_le (16 + (header_at format octets).captured) (length octets)

-- the octets after it
abbrev pub rest_after : Format → List ℕ → List ℕ
rest_after format octets = drop (16 + (header_at format octets).captured) octets
