-- A classic capture whose frames have their frame check sequence (IEEE Std 802.3, 3.2.9: 4 octets at the end), and the
-- same without (pcap-savefile(5)).
use Rattle.std.specs.Prelude.{◌≡◌, ◌≤◌, ⊤, ℕ, ◌+◌, ◌-◌, List, ◌++◌, length, take, drop, map, min, Bool, Option, Some, None, nat_lt, ◌==◌, ◌||◌, if◌then◌else◌}
use Rattle.capture.specs.declared.format.Endian.{Endian}
use Rattle.capture.specs.declared.format.Endian.TheVariants.{Big, Little}
use Rattle.capture.specs.declared.format.TheConstants.{MAX_RECORD_OCTETS}
use Rattle.capture.specs.declared.format.Format.{Format}
use Rattle.capture.specs.Layout.{spelled_header, spelled_records, AreWithin}
use Rattle.capture.specs.Records.{Entry}
use Rattle.capture.specs.Numbers.{u32_at, u32_octets}
use Rattle.pcapng.specs.declared.without_fcs.CutStage.{CutStage}
use Rattle.pcapng.specs.declared.without_fcs.CutStage.TheVariants.{Start, Records, Unchanged}
use Rattle.pcapng.specs.declared.without_fcs.Piece.{Piece}
use Rattle.pcapng.specs.declared.without_fcs.Piece.TheVariants.{Part, Rest, Header, Whole}
use Rattle.pcapng.specs.declared.without_fcs.WithoutFcs.{WithoutFcs}
use Rattle.pcapng.specs.Steps.{Taken, Ran, run_all}

-- the magic number of a capture, in microseconds or in nanoseconds
abbrev pub is_magic : ℕ → Bool
is_magic number = number == 0xa1b2c3d4 || number == 0xa1b23c4d

-- the order of the numbers of a capture
abbrev pub order_of : List ℕ → Option Endian
order_of octets =
    if is_magic (u32_at Big octets) then Some Big
    else if is_magic (u32_at Little octets) then Some Little
    else None

-- the file header
abbrev pub header_with : Option Endian → Piece
header_with (Some endian) = Header endian
header_with None = Rest

abbrev pub header_at : List ℕ → Piece
header_at octets = if nat_lt (length octets) 24 then Part else header_with (order_of octets)

-- a record: a header of 16 octets, of which the third number is how many octets are captured, and these
abbrev pub record_at : Endian → List ℕ → Piece
record_at endian octets =
    if nat_lt (length octets) 16 then Part
    else if nat_lt MAX_RECORD_OCTETS (u32_at endian (drop 8 octets)) then Rest
    else if nat_lt (length octets) (16 + u32_at endian (drop 8 octets)) then Part
    else Whole endian (16 + u32_at endian (drop 8 octets))

-- what octets begin with
abbrev pub piece_at : CutStage → List ℕ → Piece
piece_at Start octets = header_at octets
piece_at (Records endian) octets = record_at endian octets
piece_at Unchanged octets = Rest

-- the octets captured and those of the frame, without the last 4 of the frame; a frame of less stays as it is
abbrev pub cut_captured : ℕ → ℕ → ℕ
cut_captured captured original = if nat_lt original 4 then captured else min captured (original - 4)

abbrev pub cut_original : ℕ → ℕ
cut_original original = if nat_lt original 4 then original else original - 4

abbrev pub cut_with : Endian → List ℕ → ℕ → ℕ → List ℕ
cut_with endian whole captured original =
    (take 8 whole ++ (u32_octets endian captured ++ u32_octets endian original)) ++ take captured (drop 16 whole)

-- a whole record without its frame check sequence: the same time stamp, the new lengths, and as many octets
abbrev pub cut_record : Endian → List ℕ → List ℕ
cut_record endian whole = cut_with endian whole
    (cut_captured (u32_at endian (drop 8 whole)) (u32_at endian (drop 12 whole)))
    (cut_original (u32_at endian (drop 12 whole)))

-- so many octets are taken
abbrev pub cuts : ℕ → List ℕ → CutStage → Taken CutStage
cuts count put stage = record { count = count; put = put; state = stage }

-- what is put for a piece; what is no capture is passed on as it is
abbrev pub piece_taken : Piece → List ℕ → Taken CutStage
piece_taken Part octets = cuts (length octets) octets Unchanged
piece_taken Rest octets = cuts (length octets) octets Unchanged
piece_taken (Header endian) octets = cuts 24 (take 24 octets) (Records endian)
piece_taken (Whole endian size) octets = cuts size (cut_record endian (take size octets)) (Records endian)

abbrev pub cut_step : CutStage → List ℕ → Taken CutStage
cut_step stage octets = piece_taken (piece_at stage octets) octets

abbrev pub cut_all : CutStage → List ℕ → Ran CutStage
cut_all stage octets = run_all cut_step stage octets

-- what comes next
abbrev pub stage_of : WithoutFcs → CutStage
stage_of w = w.stage

-- what all octets that are still to come are turned into
abbrev pub without_of : WithoutFcs → List ℕ → List ℕ
without_of w octets = (cut_all w.stage octets).put

-- a piece of octets is no more than there are
abbrev pub IsPiece : ℕ → Piece → Type 0
IsPiece n Part = ⊤
IsPiece n Rest = ⊤
IsPiece n (Header endian) = 24 ≤ n
IsPiece n (Whole endian size) = (16 ≤ size) × (size ≤ n)

-- a record has the octets that it says
abbrev pub IsWhole : Endian → List ℕ → Type 0
IsWhole endian whole = length whole ≡ 16 + u32_at endian (drop 8 whole)

-- a record without the last 4 octets of its frame
abbrev pub cut_entry : Entry → Entry
cut_entry p = record p {
  captured = cut_captured p.captured p.original;
  original = cut_original p.original;
  octets = take (cut_captured p.captured p.original) p.octets;
}

-- a capture that is spelled, in either order and resolution, is turned into the same one with each record so
abbrev pub IsCutSpelling : WithoutFcs → Type 0
IsCutSpelling w = stage_of w ≡ Start → (format : Format) (zone accuracy snapshot : ℕ) (es : List Entry) → AreWithin es
    → without_of w (spelled_header format zone accuracy snapshot ++ spelled_records format es)
    ≡ spelled_header format zone accuracy snapshot ++ spelled_records format (map cut_entry es)
