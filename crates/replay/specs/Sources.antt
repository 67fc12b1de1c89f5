-- The merged list apart from how it is made: both sources, each in its own order, by rising moment.
use Rattle.std.specs.Prelude.{◌≡◌, ◌≤◌, ◌<◌, List, [], ◌∷◌}
use Rattle.std.specs.List.{flat_map}
use Rattle.abstract_port.specs.declared.Event.TheVariants.{Arrive, Clock}
use Rattle.capture.specs.Record.{frame_of}
use Rattle.capture.specs.Records.{Entry}
use Rattle.script.specs.Requests.{Request, Asks}
use Rattle.replay.specs.Merge.{Came, Timed, came_from, merged, timed_from}

-- what is taken next: a line, or a record
pub data Taken : Type 0 where
  FromScript : Timed → Taken
  FromCapture : Came → Taken

-- what it asks: a record asks that the clock goes on to its moment, and then its frame arrives
abbrev pub requests_in : Taken → List Request
requests_in (FromScript line) = line.request ∷ []
requests_in (FromCapture c) = Asks (Clock c.moment) ∷ Asks (Arrive (frame_of c.entry c.number)) ∷ []

-- the lines among what is taken, and the records
abbrev pub lines_among : List Taken → List Timed
lines_among [] = []
lines_among (FromScript line ∷ rest) = line ∷ lines_among rest
lines_among (FromCapture c ∷ rest) = lines_among rest

-- the records among what is taken
abbrev pub records_among : List Taken → List Came
records_among [] = []
records_among (FromScript line ∷ rest) = records_among rest
records_among (FromCapture c ∷ rest) = c ∷ records_among rest

-- no moment is before the one that was taken last; and a line never comes right after a record of its moment, since it goes before
abbrev pub MayFollow : Taken → Taken → Type 0
MayFollow (FromScript a) (FromScript b) = a.moment ≤ b.moment
MayFollow (FromScript a) (FromCapture c) = a.moment ≤ c.moment
MayFollow (FromCapture c) (FromScript b) = c.moment < b.moment
MayFollow (FromCapture c) (FromCapture d) = c.moment ≤ d.moment

-- each of a list may be followed by the next
abbrev pub IsInOrder : List Taken → Type 0
IsInOrder [] = Unit {0}
IsInOrder (x ∷ []) = Unit {0}
IsInOrder (x ∷ y ∷ rest) = MayFollow x y × IsInOrder (y ∷ rest)

-- Requests are those of lines and of records, taken so that each source keeps its order.
pub record IsMerge (all_lines : List Timed) (all_records : List Came) (all : List Request) : Type 0 where
  pub taken : List Taken
  pub lines : lines_among taken ≡ all_lines
  pub records : records_among taken ≡ all_records
  pub order : IsInOrder taken
  pub requests : all ≡ flat_map requests_in taken

-- the law: what is merged of a script and a capture is such
abbrev pub MergeLaw : Type 0
MergeLaw = (script : List Request) (entries : List Entry)
    → IsMerge (timed_from 0 script) (came_from 0 0 entries) (merged (timed_from 0 script) (came_from 0 0 entries))
