-- Each frame that comes in a run is in its table once.
use Rattle.std.specs.Prelude.{◌≡◌, ◌<◌, ◌==◌, ℕ, All, IfSome, List, [], ◌∷◌, ◌++◌, length, Option, Some, None, Result, Ok, Err, if◌then◌else◌}
use Rattle.std.specs.List.{flat_map}
use Rattle.wire_time.specs.declared.TheConstants.{CLASSES}
use Rattle.abstract_port.specs.AbstractPort.{AbstractPort, new_port, verdict}
use Rattle.abstract_port.specs.Answers.{answers_to}
use Rattle.abstract_port.specs.declared.Command.{Command}
use Rattle.abstract_port.specs.declared.Command.TheVariants.{Replace, Delete}
use Rattle.abstract_port.specs.declared.Dropped.{Dropped}
use Rattle.abstract_port.specs.declared.Event.{Event}
use Rattle.abstract_port.specs.declared.Event.TheVariants.{Arrive, Install, Clock, Query, Count}
use Rattle.text.specs.Script.{script_of}
use Rattle.port_text.specs.Reader.{IsReader}
use Rattle.port_text.specs.declared.tc_reader.fault.TcFault.{TcFault}
use Rattle.script.specs.Outcome.{asked_in, reading_of}
use Rattle.script.specs.Responses.{events_of}
use Rattle.script.specs.Setup.{Setup}
use Rattle.frame_table.specs.Rows.{arrival_at, table_of}
use Rattle.frame_table.specs.Waits.{none_wait}
use Rattle.frame_table.specs.declared.rows.Arrival.{Arrival}
use Rattle.frame_table.specs.declared.rows.Fate.{Fate}
use Rattle.frame_table.specs.declared.rows.Fate.TheVariants.{Sent, Left, Lost}
use Rattle.frame_table.specs.declared.rows.FrameRow.{FrameRow}

-- 1. The frames that come

-- a frame that comes, and the class that it joins or why it is dropped
pub record Incoming : Type 0 where
  pub arrival : Arrival
  pub verdict : Result ℕ Dropped

-- the frame of an event
abbrev pub coming : Event → AbstractPort → List Incoming
coming (Arrive f) p = record { arrival = arrival_at p.now f; verdict = verdict p f } ∷ []
coming (Install c) p = []
coming (Clock m) p = []
coming Query p = []
coming (Count class) p = []

-- the frames of a run, in their order
abbrev pub comings : List Event → AbstractPort → List Incoming
comings [] p = []
comings (event ∷ rest) p = coming event p ++ comings rest (answers_to event p).1

-- 2. A class

-- the frame, where its class is this one
abbrev pub if_class : ℕ → Option ℕ → Arrival → List Arrival
if_class class None arrival = []
if_class class (Some other) arrival = if other == class then arrival ∷ [] else []

-- the frame, where it joins the class
abbrev pub joins : ℕ → Arrival → Result ℕ Dropped → List Arrival
joins class arrival (Ok joined) = if_class class (Some joined) arrival
joins class arrival (Err why) = []

-- the frames that join the class
abbrev pub joining : ℕ → List Incoming → List Arrival
joining class frames = flat_map (λ (x : Incoming). joins class x.arrival x.verdict) frames

-- the frame of a row, where it was not dropped and its class is this one
abbrev pub stays : ℕ → Arrival → Option ℕ → Fate → List Arrival
stays class arrival own (Sent s) = if_class class own arrival
stays class arrival own Left = if_class class own arrival
stays class arrival own (Lost why) = []

-- the frames of the rows of the class that were sent or are left
abbrev pub staying : ℕ → List FrameRow → List Arrival
staying class rows = flat_map (λ (r : FrameRow). stays class r.arrival r.class r.fate) rows

-- 3. Drops

-- the frame and the reason, where it is dropped
abbrev pub drops : Arrival → Result ℕ Dropped → List (Arrival × Dropped)
drops arrival (Ok joined) = []
drops arrival (Err why) = (arrival, why) ∷ []

-- the frames that are dropped, with the reasons
abbrev pub dropping : List Incoming → List (Arrival × Dropped)
dropping frames = flat_map (λ (x : Incoming). drops x.arrival x.verdict) frames

-- the frame and the reason of a row, where it was dropped
abbrev pub lost_with : Arrival → Fate → List (Arrival × Dropped)
lost_with arrival (Sent s) = []
lost_with arrival Left = []
lost_with arrival (Lost why) = (arrival, why) ∷ []

-- the frames of the rows that were dropped, with the reasons
abbrev pub losing : List FrameRow → List (Arrival × Dropped)
losing rows = flat_map (λ (r : FrameRow). lost_with r.arrival r.fate) rows

-- 4. The law

-- a frame that joins a class joins one of the eight
abbrev pub JoinsClass : Result ℕ Dropped → Type 0
JoinsClass (Ok joined) = joined < 8
JoinsClass (Err why) = Unit {0}

-- so it is of each of the frames
abbrev pub AllJoin : List Incoming → Type 0
AllJoin [] = Unit {0}
AllJoin (x ∷ rest) = JoinsClass x.verdict × AllJoin rest

-- Of the table of a run: the frames of a class that were sent or are left are those that joined it, in their order; the dropped ones those that
-- the port dropped, in theirs; and, where each frame that joins a class joins one of the eight, there is one row a frame.
pub record IsOnce (events : List Event) (p : AbstractPort) : Type 0 where
  pub joined : (class : ℕ) → class < 8 → staying class (table_of events p none_wait) ≡ joining class (comings events p)
  pub dropped : losing (table_of events p none_wait) ≡ dropping (comings events p)
  pub count : AllJoin (comings events p) → length (table_of events p none_wait) ≡ length (comings events p)

-- so it is of every run
abbrev pub OnceLaw : Type 0
OnceLaw = (events : List Event) (p : AbstractPort) → IsOnce events p

-- 5. One row a frame: each frame that joins a class joins one of the eight, where each map leads to these

-- the map of a command, where it gives one, leads to the eight classes, as each `ClassMap` does
abbrev pub IsMapped : Command → Type 0
IsMapped Delete = Unit {0}
IsMapped (Replace c) = IfSome c.map (λ map. All (λ class. class < CLASSES) map.classes)

-- so does that of the command of an event
abbrev pub IsMappedIn : Event → Type 0
IsMappedIn (Install c) = IsMapped c.now
IsMappedIn _ = Unit {0}

-- so do those of all events
abbrev pub AreMapped : List Event → Type 0
AreMapped [] = Unit {0}
AreMapped (event ∷ rest) = IsMappedIn event × AreMapped rest

-- the table of a run of a new port has one row a frame
abbrev pub HasEach : List Event → (ps mtu room : ℕ) → Type 0
HasEach events ps mtu room = length (table_of events (new_port ps mtu room) none_wait) ≡ length (comings events (new_port ps mtu room))

-- so it is of every run with such commands
abbrev pub CountLaw : Type 0
CountLaw = (events : List Event) (ps mtu room : ℕ) → AreMapped events → HasEach events ps mtu room

-- So it is of all that a script asks, whatever its octets are.
abbrev pub ScriptLaw : Type 0
ScriptLaw =
    (read : List (List ℕ) → Result Command TcFault) (s : Setup) (input : List ℕ) → IsReader read
    → HasEach (events_of (asked_in s.until (reading_of read (script_of input)))) s.rate s.mtu s.room
