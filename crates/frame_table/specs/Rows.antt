-- What becomes of each frame of a run, by the port's events and answers. Moments are in picoseconds.
use Rattle.std.specs.Prelude.{ℕ, zero, suc, ◌+◌, List, [], ◌∷◌, ◌++◌, map, Option, Some, None, Result, Ok, Err}
use Rattle.wire_time.specs.declared.Frame.{Frame}
use Rattle.abstract_port.specs.AbstractPort.{AbstractPort, class_for, verdict}
use Rattle.abstract_port.specs.Answers.{answers_to}
use Rattle.abstract_port.specs.Laws.{starts_in}
use Rattle.abstract_port.specs.declared.Dropped.{Dropped}
use Rattle.abstract_port.specs.declared.Event.{Event}
use Rattle.abstract_port.specs.declared.Event.TheVariants.{Arrive, Install, Clock, Query, Count}
use Rattle.abstract_port.specs.declared.Start.{Start}
use Rattle.script.specs.Requests.{Request, Asks, NoCommand}
use Rattle.frame_table.specs.Waits.{comes, first_came, goes, waiting_in}
use Rattle.frame_table.specs.declared.rows.Arrival.{Arrival}
use Rattle.frame_table.specs.declared.rows.Fate.TheVariants.{Sent, Left, Lost}
use Rattle.frame_table.specs.declared.rows.FrameRow.{FrameRow}

-- 1. One event

-- a frame that comes at a moment
abbrev pub arrival_at : ℕ → Frame → Arrival
arrival_at now f = record { id = f.id; len = f.len; at = now }

-- a frame that comes waits in the class that it joins, or it is dropped, which is its row; and what waits then
abbrev pub arrives : Arrival → Option ℕ → Result ℕ Dropped → List (List Arrival) → List FrameRow × List (List Arrival)
arrives arrival class (Ok joined) w = ([], comes joined arrival w)
arrives arrival class (Err why) w = (record { arrival = arrival; class = class; fate = Lost why } ∷ [], w)

-- the row of a start, by the frame that starts
abbrev pub sent_row : Start → Option Arrival → List FrameRow
sent_row s None = []
sent_row s (Some arrival) = record { arrival = arrival; class = Some s.class; fate = Sent s } ∷ []

-- starts, one after another: each is that of the first frame of its class that waits
abbrev pub departs : List Start → List (List Arrival) → List FrameRow × List (List Arrival)
departs [] w = ([], w)
departs (s ∷ rest) w =
    let later = departs rest (goes s.class w) in (sent_row s (first_came s.class w) ++ later.0, later.1)

-- the rows of an event, and what waits then
abbrev pub rows_at : Event → AbstractPort → List (List Arrival) → List FrameRow × List (List Arrival)
rows_at (Arrive f) p w = arrives (arrival_at p.now f) (class_for p f.priority) (verdict p f) w
rows_at (Clock m) p w = departs (starts_in (answers_to (Clock m) p).0) w
rows_at (Install c) p w = ([], w)
rows_at Query p w = ([], w)
rows_at (Count class) p w = ([], w)

-- the rows of a request, and what waits then; a line that begins with tc and is no command has none
abbrev pub rows_by : Request → AbstractPort → List (List Arrival) → List FrameRow × List (List Arrival)
rows_by (Asks event) p w = rows_at event p w
rows_by (NoCommand fault) p w = ([], w)

-- 2. A run

-- the rows of a list of events, and what waits then
abbrev pub rows_of : List Event → AbstractPort → List (List Arrival) → List FrameRow × List (List Arrival)
rows_of [] p w = ([], w)
rows_of (event ∷ rest) p w =
    let here = rows_at event p w in
    let later = rows_of rest (answers_to event p).1 here.1 in
    (here.0 ++ later.0, later.1)

-- the row of a frame that still waits
abbrev pub left_row : ℕ → Arrival → FrameRow
left_row class arrival = record { arrival = arrival; class = Some class; fate = Left }

-- the rows of what still waits in so many classes from one on
unfoldable pub left_from : ℕ → ℕ → List (List Arrival) → List FrameRow
left_from zero class w = []
left_from (suc n) class w = map (left_row class) (waiting_in w class) ++ left_from n (class + 1) w

-- the rows of what still waits, class by class in rising order
abbrev pub left_rows : List (List Arrival) → List FrameRow
left_rows w = left_from 8 0 w

-- the table of a run: the rows of its events, and then those of what still waits
abbrev pub table_of : List Event → AbstractPort → List (List Arrival) → List FrameRow
table_of events p w = let rows = rows_of events p w in rows.0 ++ left_rows rows.1
