-- The frames of an input: of a table of frames (RFC 4180, 2, without quotes) its rows that have a start, of a classic capture (pcap-savefile(5)) its records.
use Rattle.std.specs.Prelude.{◌≡◌, ◌+◌, ◌-◌, ◌^◌, ◌==◌, ◌&&◌, ◌||◌, nat_le, length, drop, slice_get, slice_index, Bool, List, ℕ, [], ◌∷◌, ◌++◌, Option, Some, None, Result, Ok, Err, MatchBool, codes, if◌then◌else◌}
use Rattle.std.specs.List.{position_or_len}
use Rattle.std.specs.Str.{bytes_eq}
use Rattle.std.specs.Str.Lines.{strip_carriage_return}
use Rattle.byteorder.specs.Endian.{big_number}
use Rattle.text.specs.Numbers.{number_in}
use Rattle.text.specs.Script.{Script, End, Broken, Line, script_of}
use Rattle.text.specs.declared.line_reader.lines.Limit.{Limit}
use Rattle.text.specs.declared.line_reader.lines.Limit.TheVariants.{LongLine, TooManyLines}
use Rattle.capture.specs.Captures.{IsCapture}
use Rattle.capture.specs.FileHeader.{format_of}
use Rattle.capture.specs.Record.{is_tagged}
use Rattle.capture.specs.Records.{Entry}
use Rattle.capture.specs.declared.fault.CapFault.{CapFault}
use Rattle.capture.specs.declared.format.Format.{Format}
use Rattle.capture.specs.declared.reader.End.{End as Ending}
use Rattle.capture.specs.declared.reader.End.TheVariants.{Whole, Broken as BrokenEnd}
use Rattle.compare.specs.Fields.{fields_in, place_in}
use Rattle.compare.specs.declared.faults.RecordFault.{RecordFault}
use Rattle.compare.specs.declared.faults.RecordFault.TheVariants as Records
use Rattle.compare.specs.declared.faults.TableFault.{TableFault}
use Rattle.compare.specs.declared.faults.TableFault.TheVariants as Tables
use Rattle.compare.specs.declared.faults.Trouble.{Trouble}
use Rattle.compare.specs.declared.faults.Trouble.TheVariants as Troubles
use Rattle.compare.specs.declared.frame.Frame.{Frame}
use Rattle.compare.specs.declared.settings.By.{By}
use Rattle.compare.specs.declared.settings.By.TheVariants.{Order, Id, Payload}
use Rattle.compare.specs.declared.table.Columns.{Columns}

-- 1. What an input has

-- the frames up to its first fault, the different octets that they carry, and that fault
pub record Reading : Type 0 where
  pub frames : List Frame
  pub payloads : List (List ℕ)
  pub fault : Option Trouble

-- a frame before others
abbrev pub onto : Frame → Reading → Reading
onto frame reading = record { frames = frame ∷ reading.frames; payloads = reading.payloads; fault = reading.fault }

-- 2. A table: a line with the names of its columns, and then a row on each line

-- the fields of a line; a CR at its end counts for nothing
abbrev pub fields_of : List ℕ → List (List ℕ)
fields_of line = fields_in (strip_carriage_return line)

-- the place of the column of a name
abbrev pub column_in : List ℕ → List ℕ → Option ℕ
column_in name line = place_in name (fields_of line)

-- the places of the two columns that count
abbrev pub columns_at : Option ℕ → Option ℕ → Option Columns
columns_at None start = None
columns_at (Some id) None = None
columns_at (Some id) (Some start) = Some (record { id = id; start = start })

abbrev pub columns_in : List ℕ → Option Columns
columns_in line = columns_at (column_in (codes "id") line) (column_in (codes "start_ps") line)

-- a frame of a table: its name is its ID, and so is its key where frames are compared by it
abbrev pub row_frame : By → ℕ → ℕ → Frame
row_frame Order id moment = record { name = id; moment = moment; key = 0 }
row_frame Id id moment = record { name = id; moment = moment; key = id }
row_frame Payload id moment = record { name = id; moment = moment; key = 0 }

-- by the moment at which the frame started: a row without one is of a frame that isn't there
abbrev pub frame_started : By → ℕ → Option ℕ → Result (Option Frame) TableFault
frame_started by id None = Err Tables.BadNumber
frame_started by id (Some moment) = Ok (Some (row_frame by id moment))

abbrev pub frame_with : By → Option ℕ → List ℕ → Result (Option Frame) TableFault
frame_with by None start = Err Tables.BadNumber
frame_with by (Some id) start =
    if length start == 0 then Ok None else frame_started by id (number_in 10 (2 ^ 128 - 1) start)

-- by both fields, where the row has them
abbrev pub frame_said : By → Option (List ℕ) → Option (List ℕ) → Result (Option Frame) TableFault
frame_said by None start = Err Tables.FieldCount
frame_said by (Some id) None = Err Tables.FieldCount
frame_said by (Some id) (Some start) = frame_with by (number_in 10 (2 ^ 64 - 1) id) start

-- the frame of a row, if it is there; a line without an octet says nothing
abbrev pub frame_in : By → Columns → List ℕ → Result (Option Frame) TableFault
frame_in by columns line =
    if length (strip_carriage_return line) == 0 then Ok None
    else frame_said by (slice_get (fields_of line) columns.id) (slice_get (fields_of line) columns.start)

-- the fault of a line that passes a limit
abbrev pub limit_fault : Limit → TableFault
limit_fault LongLine = Tables.LongLine
limit_fault TooManyLines = Tables.TooManyLines

-- nothing but the fault of a line
abbrev pub line_fails : ℕ → TableFault → Reading
line_fails number fault = record { frames = []; payloads = []; fault = Some (Troubles.Line number fault) }

-- by what a row says, and what the rows after it do
abbrev pub row_then : ℕ → Result (Option Frame) TableFault → Reading → Reading
row_then number (Ok None) behind = behind
row_then number (Ok (Some frame)) behind = onto frame behind
row_then number (Err fault) behind = line_fails number fault

-- the frames of rows
abbrev pub rows_reading : By → Columns → Script → Reading
rows_reading by columns End = record { frames = []; payloads = []; fault = None }
rows_reading by columns (Broken number limit) = line_fails number (limit_fault limit)
rows_reading by columns (Line number line rest) = row_then number (frame_in by columns line) (rows_reading by columns rest)

-- by the columns that the first line names, where it names both
abbrev pub behind_head : By → ℕ → Option Columns → Script → Reading
behind_head by number None rest = line_fails number Tables.NoColumn
behind_head by number (Some columns) rest = rows_reading by columns rest

abbrev pub lines_reading : By → Script → Reading
lines_reading by End = line_fails 1 Tables.NoColumn
lines_reading by (Broken number limit) = line_fails number (limit_fault limit)
lines_reading by (Line number line rest) = behind_head by number (columns_in line) rest

-- the frames of a table; it has no octets by which they could be compared
abbrev pub table_reading : By → Script → Reading
table_reading Order lines = lines_reading Order lines
table_reading Id lines = lines_reading Id lines
table_reading Payload lines = line_fails 1 Tables.NoPayload

-- 3. A capture

-- the octets behind the addresses of a frame, and behind its tag where it has one (IEEE Std 802.1Q-2018, 9.3)
abbrev pub behind_tag : List ℕ → List ℕ
behind_tag octets = drop (if is_tagged octets then 16 else 12) octets

-- the ID that a capture of a table of streams has in its frames: the eight octets behind 88 b5, the type of local experiments (IEEE Std 802, 9.2.4)
abbrev pub id_behind : List ℕ → Option ℕ
id_behind octets =
    if nat_le 10 (length octets) && (slice_index octets 0 == 0x88) && (slice_index octets 1 == 0xb5) then Some (big_number 8 (drop 2 octets)) else None

abbrev pub id_in : List ℕ → Option ℕ
id_in octets = id_behind (behind_tag octets)

-- octets among the different ones that came before: their place, the same for the same octets; new ones come behind the others
abbrev pub payload_key : List (List ℕ) → List ℕ → ℕ
payload_key seen octets = position_or_len (λ other. bytes_eq octets other) seen

abbrev pub seen_after : List (List ℕ) → List ℕ → List (List ℕ)
seen_after seen octets = if payload_key seen octets == length seen then seen ++ octets ∷ [] else seen

-- a frame of a capture: its name is the number of its record; where frames are compared by ID the ID that it carries
abbrev pub id_frame : Option ℕ → ℕ → Result Frame RecordFault
id_frame None moment = Err Records.NoId
id_frame (Some id) moment = Ok (record { name = id; moment = moment; key = id })

abbrev pub record_frame : By → List (List ℕ) → ℕ → Entry → Result Frame RecordFault
record_frame Order seen number e = Ok (record { name = number; moment = e.moment; key = 0 })
record_frame Id seen number e = id_frame (id_in e.octets) e.moment
record_frame Payload seen number e = Ok (record { name = number; moment = e.moment; key = payload_key seen e.octets })

-- the different octets that came, where they count
abbrev pub seen_by : By → List (List ℕ) → Entry → List (List ℕ)
seen_by Order seen e = seen
seen_by Id seen e = seen
seen_by Payload seen e = seen_after seen e.octets

-- nothing but the fault of a record
abbrev pub record_fails : List (List ℕ) → ℕ → RecordFault → Reading
record_fails seen number fault = record { frames = []; payloads = seen; fault = Some (Troubles.Record number fault) }

-- nothing but the fault of a file header
abbrev pub header_fails : List (List ℕ) → CapFault → Reading
header_fails seen fault = record { frames = []; payloads = seen; fault = Some (Troubles.Header fault) }

-- by the frame of a record, and what the records after it give
abbrev pub record_then : List (List ℕ) → ℕ → Result Frame RecordFault → Reading → Reading
record_then seen number (Ok frame) behind = onto frame behind
record_then seen number (Err fault) behind = record_fails seen number fault

-- the frames of records, from a number on, and how they end
abbrev pub records_reading : By → List (List ℕ) → ℕ → List Entry → Ending → Reading
records_reading by seen number [] Whole = record { frames = []; payloads = seen; fault = None }
records_reading by seen number [] (BrokenEnd fault) = record_fails seen number (Records.Capture fault)
records_reading by seen number (e ∷ es) last =
    record_then seen number (record_frame by seen number e) (records_reading by (seen_by by seen e) (number + 1) es last)

-- by what was read of a capture, whose header may have a fault
abbrev pub capture_reading : By → List (List ℕ) → Result (List Entry × Ending) CapFault → Reading
capture_reading by seen (Ok records) = records_reading by seen 0 records.0 records.1
capture_reading by seen (Err fault) = header_fails seen fault

-- octets as a capture: their records and how they end, or the fault of the file header
abbrev pub ReadsAs : List ℕ → Result (List Entry × Ending) CapFault → Type 0
ReadsAs octets (Ok records) = (format : Format) × IsCapture octets format records.0 records.1
ReadsAs octets (Err fault) = format_of octets ≡ Err fault

-- 4. Which of the two

-- a magic number of a classic capture, octet by octet: in microseconds or nanoseconds, the highest first or the lowest
abbrev pub is_magic : ℕ → ℕ → ℕ → ℕ → Bool
is_magic a b c d =
    ((a == 0xa1) && (b == 0xb2) && (c == 0xc3) && (d == 0xd4)) || ((a == 0xd4) && (b == 0xc3) && (c == 0xb2) && (d == 0xa1))
    || ((a == 0xa1) && (b == 0xb2) && (c == 0x3c) && (d == 0x4d)) || ((a == 0x4d) && (b == 0x3c) && (c == 0xb2) && (d == 0xa1))

-- whether octets begin with one
abbrev pub begins_capture : List ℕ → Bool
begins_capture octets = nat_le 4 (length octets) && is_magic (slice_index octets 0) (slice_index octets 1) (slice_index octets 2) (slice_index octets 3)

-- what octets are as an input, where these different octets came before
abbrev pub Says : By → List (List ℕ) → List ℕ → Reading → Type 0
Says by seen octets reading =
    MatchBool (begins_capture octets) ((records : Result (List Entry × Ending) CapFault) × ReadsAs octets records × (reading ≡ capture_reading by seen records))
    (reading ≡ record (table_reading by (script_of octets)) { payloads = seen })
