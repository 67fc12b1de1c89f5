-- The text of a table: comma-separated values with a head. A field that a frame lacks is empty.
use Rattle.std.specs.Prelude.{ℕ, ◌-◌, List, [], ◌∷◌, ◌++◌, Bool, false, Option, Some, None, decimal, codes, if◌then◌else◌}
use Rattle.std.specs.List.{concat, flat_map}
use Rattle.port_text.specs.AnswerNames.{dropped_name}
use Rattle.frame_table.specs.declared.rows.Fate.{Fate}
use Rattle.frame_table.specs.declared.rows.Fate.TheVariants.{Sent, Left, Lost}
use Rattle.frame_table.specs.declared.rows.FrameRow.{FrameRow}
use Rattle.frame_table.specs.Deadline.{has_deadlines, word_of}
use Rattle.frame_table.specs.StreamOf.{stream_by}
use Rattle.traffic.specs.declared.table.Stream.{Stream}

-- The names of the columns. Where a table of streams is given, the last is the stream of a frame; and where one of its streams has a deadline, the last is
-- whether a frame is in time.
abbrev pub head_line : Option (List Stream) → List ℕ
head_line None = codes "id,class,len,arrival_ps,start_ps,end_ps,wait_ps,fate\n"
head_line (Some streams) =
    if has_deadlines streams then codes "id,class,len,arrival_ps,start_ps,end_ps,wait_ps,fate,stream,deadline\n"
    else codes "id,class,len,arrival_ps,start_ps,end_ps,wait_ps,fate,stream\n"

-- a number, if there is one
abbrev pub number_text : Option ℕ → List ℕ
number_text None = []
number_text (Some number) = decimal number

-- when a frame started
abbrev pub start_text : Fate → List ℕ
start_text (Sent s) = decimal s.at
start_text Left = []
start_text (Lost why) = []

-- from when on the wire was free after it
abbrev pub end_text : Fate → List ℕ
end_text (Sent s) = decimal s.«end»
end_text Left = []
end_text (Lost why) = []

-- how long it waited from the moment at which it came
abbrev pub wait_text : ℕ → Fate → List ℕ
wait_text came (Sent s) = decimal (s.at - came)
wait_text came Left = []
wait_text came (Lost why) = []

-- what became of it; of a drop the reason
abbrev pub fate_text : Fate → List ℕ
fate_text (Sent s) = codes "sent"
fate_text Left = codes "left"
fate_text (Lost why) = dropped_name why

-- what separates the stream from the column before it, where there is such a column, and the stream itself
abbrev pub stream_comma : Option (List Stream) → List ℕ
stream_comma None = []
stream_comma (Some streams) = codes ","

abbrev pub stream_text : Option Stream → List ℕ
stream_text None = []
stream_text (Some s) = decimal s.first_id

-- whether there is a column of deadlines
abbrev pub has_column : Option (List Stream) → Bool
has_column None = false
has_column (Some streams) = has_deadlines streams

-- whether the frame of this stream, that came at a moment, is in time, behind a comma, where there is such a column
abbrev pub deadline_text : Bool → Option Stream → ℕ → Fate → List ℕ
deadline_text column s came fate = if column then codes "," ++ word_of s came fate else []

-- a row
abbrev pub row_line : Option (List Stream) → FrameRow → List ℕ
row_line streams r = concat (
    decimal r.arrival.id
    ∷ codes "," ∷ number_text r.class
    ∷ codes "," ∷ decimal r.arrival.len
    ∷ codes "," ∷ decimal r.arrival.at
    ∷ codes "," ∷ start_text r.fate
    ∷ codes "," ∷ end_text r.fate
    ∷ codes "," ∷ wait_text r.arrival.at r.fate
    ∷ codes "," ∷ fate_text r.fate
    ∷ stream_comma streams ∷ stream_text (stream_by streams r.arrival.id)
    ∷ deadline_text (has_column streams) (stream_by streams r.arrival.id) r.arrival.at r.fate
    ∷ codes "\n" ∷ [])

-- rows, one after another
abbrev pub rows_text : Option (List Stream) → List FrameRow → List ℕ
rows_text streams rows = flat_map (row_line streams) rows
