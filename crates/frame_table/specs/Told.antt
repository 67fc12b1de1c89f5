-- Each start of a run is told by one row of its table, and by that of the frame that starts.
use Rattle.std.specs.Prelude.{◌≡◌, ◌≤◌, ℕ, List, [], ◌∷◌, Option, Some}
use Rattle.std.specs.List.{flat_map}
use Rattle.abstract_port.specs.AbstractPort.{new_port}
use Rattle.abstract_port.specs.Answers.{answers_of}
use Rattle.abstract_port.specs.Laws.{starts_in}
use Rattle.abstract_port.specs.declared.Event.{Event}
use Rattle.abstract_port.specs.declared.Start.{Start}
use Rattle.frame_table.specs.Rows.{table_of}
use Rattle.frame_table.specs.Waits.{none_wait}
use Rattle.frame_table.specs.declared.rows.Arrival.{Arrival}
use Rattle.frame_table.specs.declared.rows.Fate.{Fate}
use Rattle.frame_table.specs.declared.rows.Fate.TheVariants.{Sent, Left, Lost}
use Rattle.frame_table.specs.declared.rows.FrameRow.{FrameRow}

-- the start that a fate tells, if it tells one
abbrev pub start_told : Fate → List Start
start_told (Sent s) = s ∷ []
start_told Left = []
start_told (Lost why) = []

-- the starts that rows tell, in their order
abbrev pub starts_told : List FrameRow → List Start
starts_told rows = flat_map (λ (r : FrameRow). start_told r.fate) rows

-- a frame of this class, that came at its moment, is the one that starts
pub record IsOf (arrival : Arrival) (own : Option ℕ) (s : Start) : Type 0 where
  pub id : arrival.id ≡ s.id
  pub class : own ≡ Some s.class
  pub later : arrival.at ≤ s.at

-- a start that a row tells is of the row's frame
abbrev pub TellsOwn : Arrival → Option ℕ → Fate → Type 0
TellsOwn arrival class (Sent s) = IsOf arrival class s
TellsOwn arrival class Left = Unit {0}
TellsOwn arrival class (Lost why) = Unit {0}

-- so it is of each of the rows
abbrev pub AllTellOwn : List FrameRow → Type 0
AllTellOwn [] = Unit {0}
AllTellOwn (r ∷ rest) = TellsOwn r.arrival r.class r.fate × AllTellOwn rest

-- Of the table of a run of a new port: the starts that its rows tell are the starts among the port's answers, in their order, and each is of its
-- row's frame, which came no later.
pub record TellsStarts (events : List Event) (ps mtu room : ℕ) : Type 0 where
  pub starts : starts_told (table_of events (new_port ps mtu room) none_wait) ≡ starts_in (answers_of events (new_port ps mtu room))
  pub own : AllTellOwn (table_of events (new_port ps mtu room) none_wait)

-- so it is of every run
abbrev pub ToldLaw : Type 0
ToldLaw = (events : List Event) (ps mtu room : ℕ) → TellsStarts events ps mtu room
