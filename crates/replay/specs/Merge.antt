-- The events of a script and of a capture, by moment.
use Rattle.std.specs.Prelude.{◌++◌, ◌+◌, nat_le, max, ℕ, List, [], ◌∷◌, map, Option, if◌then◌else◌}
use Rattle.abstract_port.specs.declared.Event.TheVariants.{Arrive, Clock, Install, Query, Count}
use Rattle.capture.specs.Record.{frame_of}
use Rattle.capture.specs.Records.{Entry}
use Rattle.script.specs.Requests.{Request, Asks, NoCommand}
use Rattle.replay.specs.RunEnd.{run_end}

-- a request with its moment
pub record Timed : Type 0 where
  pub moment : ℕ
  pub request : Request

-- a record with the moment at which it is taken, and its number
pub record Came : Type 0 where
  pub moment : ℕ
  pub number : ℕ
  pub entry : Entry

-- the greatest clock number so far
abbrev pub latest_clock : ℕ → Request → ℕ
latest_clock clock (Asks (Clock m)) = max clock m
latest_clock clock (Asks (Arrive frame)) = clock
latest_clock clock (Asks (Install command)) = clock
latest_clock clock (Asks Query) = clock
latest_clock clock (Asks (Count class)) = clock
latest_clock clock (NoCommand fault) = clock

-- the lines of a script, each at the greatest clock number so far, its own included
abbrev pub timed_from : ℕ → List Request → List Timed
timed_from clock [] = []
timed_from clock (r ∷ rs) = record { moment = latest_clock clock r; request = r } ∷ timed_from (latest_clock clock r) rs

-- the records of a capture from a number on, none earlier than the one before
abbrev pub came_from : ℕ → ℕ → List Entry → List Came
came_from latest number [] = []
came_from latest number (e ∷ es) = record { moment = max latest e.moment; number = number; entry = e } ∷ came_from (max latest e.moment) (number + 1) es

-- the lines up to a moment, itself included
abbrev pub lines_by : ℕ → List Timed → List Timed
lines_by m [] = []
lines_by m (a ∷ lines) = if nat_le a.moment m then a ∷ lines_by m lines else []

-- those after it
abbrev pub lines_past : ℕ → List Timed → List Timed
lines_past m [] = []
lines_past m (a ∷ lines) = if nat_le a.moment m then lines_past m lines else a ∷ lines

-- what lines ask
abbrev pub requests_of : List Timed → List Request
requests_of lines = map (λ (a : Timed). a.request) lines

-- Before each record the lines up to its moment; then a clock event at its moment and its arrival.
abbrev pub before_end : List Timed → List Came → List Request
before_end lines [] = []
before_end lines (c ∷ cs) =
    requests_of (lines_by c.moment lines) ++ (Asks (Clock c.moment) ∷ Asks (Arrive (frame_of c.entry c.number)) ∷ before_end (lines_past c.moment lines) cs)

-- the lines after the last record
abbrev pub lines_after : List Timed → List Came → List Timed
lines_after lines [] = lines
lines_after lines (c ∷ cs) = lines_after (lines_past c.moment lines) cs

-- the events of both: up to the last record, and then the other lines
abbrev pub merged : List Timed → List Came → List Request
merged lines records = before_end lines records ++ requests_of (lines_after lines records)

-- what is asked, and then the clock event at the end of the run
abbrev pub to_run_end : Option ℕ → List Request → List Request
to_run_end until requests = requests ++ Asks (Clock (run_end until)) ∷ []

-- all that is asked by a script without a fault and by a capture's records, to the end of the run
abbrev pub all_requests : List Request → List Entry → Option ℕ → List Request
all_requests script entries until = to_run_end until (merged (timed_from 0 script) (came_from 0 0 entries))
