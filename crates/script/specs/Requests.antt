-- What a line of a script says.
use Rattle.std.specs.Prelude.{◌==◌, ◌^◌, ◌-◌, nat_lt, List, ℕ, Bool, true, false, [], ◌∷◌, Option, Some, None, Result, Ok, Err, codes, if◌then◌else◌}
use Rattle.std.specs.Str.{bytes_eq}
use denote.Bor.{Bor}
use Rattle.wire_time.specs.Moment.{greatest_moment}
use Rattle.abstract_port.specs.declared.Command.{Command}
use Rattle.abstract_port.specs.declared.Event.{Event}
use Rattle.abstract_port.specs.declared.Event.TheVariants.{Arrive, Install, Clock, Query, Count}
use Rattle.port_text.specs.declared.tc_reader.fault.TcFault.{TcFault}
use Rattle.text.specs.Words.{words_of}
use Rattle.text.specs.Numbers.{number_in}
use Rattle.script.specs.declared.script_line.Said.{Said}
use Rattle.script.specs.declared.script_line.Said.TheVariants as Says
use Rattle.script.specs.declared.faults.ScriptFault.{ScriptFault}
use Rattle.script.specs.declared.faults.ScriptFault.TheVariants.{UnknownLine, WordCount, BadNumber, ClockTooLate}

-- 1. Lines that ask something of the port

-- clock M
abbrev pub clock_with : Option ℕ → Result Event ScriptFault
clock_with None = Err BadNumber
clock_with (Some m) = if nat_lt greatest_moment m then Err ClockTooLate else Ok (Clock m)

-- the event of the words after `clock`
abbrev pub clock_event : List (List ℕ) → Result Event ScriptFault
clock_event [] = Err WordCount
clock_event (m ∷ []) = clock_with (number_in 10 (2 ^ 128 - 1) m)
clock_event (m ∷ more ∷ ws) = Err WordCount

-- frame ID PRIORITY LEN, and tagged where the frame is
abbrev pub frame_with : Option ℕ → Option ℕ → Option ℕ → Bool → Result Event ScriptFault
frame_with (Some id) (Some priority) (Some len) tagged = Ok (Arrive (record { id = id; priority = priority; len = len; tagged = tagged }))
frame_with None priority len tagged = Err BadNumber
frame_with (Some id) None len tagged = Err BadNumber
frame_with (Some id) (Some priority) None tagged = Err BadNumber

-- the event of three words after `frame`, each a number of its width
abbrev pub frame_in_words : List ℕ → List ℕ → List ℕ → Bool → Result Event ScriptFault
frame_in_words id priority len tagged =
    frame_with (number_in 10 (2 ^ 64 - 1) id) (number_in 10 (2 ^ 8 - 1) priority) (number_in 10 (2 ^ 32 - 1) len) tagged

-- the event of all words after `frame`
abbrev pub frame_event : List (List ℕ) → Result Event ScriptFault
frame_event (id ∷ priority ∷ len ∷ []) = frame_in_words id priority len false
frame_event (id ∷ priority ∷ len ∷ tag ∷ []) = if bytes_eq tag (codes "tagged") then frame_in_words id priority len true else Err WordCount
frame_event (id ∷ priority ∷ len ∷ tag ∷ more ∷ ws) = Err WordCount
frame_event (id ∷ priority ∷ []) = Err WordCount
frame_event (id ∷ []) = Err WordCount
frame_event [] = Err WordCount

-- whether a frame is tagged, by the words after its numbers
abbrev pub tag_in : List (List ℕ) → Option Bool
tag_in [] = Some false
tag_in (tag ∷ []) = if bytes_eq tag (codes "tagged") then Some true else None
tag_in (tag ∷ more ∷ ws) = None

-- query
abbrev pub query_event : List (List ℕ) → Result Event ScriptFault
query_event [] = Ok Query
query_event (more ∷ ws) = Err WordCount

-- count C
abbrev pub count_with : Option ℕ → Result Event ScriptFault
count_with None = Err BadNumber
count_with (Some class) = Ok (Count class)

-- the event of the words after `count`
abbrev pub count_event : List (List ℕ) → Result Event ScriptFault
count_event [] = Err WordCount
count_event (class ∷ []) = count_with (number_in 10 7 class)
count_event (class ∷ more ∷ ws) = Err WordCount

-- whether a word begins with #
abbrev pub is_comment : List ℕ → Bool
is_comment [] = false
is_comment (b ∷ bs) = b == 35

-- what a line asks, as what it says
abbrev pub said : Result Event ScriptFault → Result (Option Said) ScriptFault
said (Ok event) = Ok (Some (Says.Asked event))
said (Err fault) = Err fault

-- what the words of a line say, by the first of them; a line without words and a comment say nothing
abbrev pub said_in_words : List (List ℕ) → Result (Option Said) ScriptFault
said_in_words [] = Ok None
said_in_words (w ∷ ws) =
    if is_comment w then Ok None
    else if bytes_eq w (codes "clock") then said (clock_event ws)
    else if bytes_eq w (codes "frame") then said (frame_event ws)
    else if bytes_eq w (codes "query") then said (query_event ws)
    else if bytes_eq w (codes "count") then said (count_event ws)
    else if bytes_eq w (codes "tc") then Ok (Some Says.Tc)
    else Err UnknownLine

-- what a line says
abbrev pub said_in : List ℕ → Result (Option Said) ScriptFault
said_in line = said_in_words (words_of line)

-- 2. Requests

-- what a line asks: an event for the port; or nothing, since it begins with tc and is no command
pub data Request : Type 0 where
  Asks : Event → Request
  NoCommand : TcFault → Request

-- a command as an event has it
abbrev pub lent : Command → Bor Command
lent command = record { ref_ptr = (0, 0); now = command }

-- what a line that begins with tc asks
abbrev pub tc_request : Result Command TcFault → Request
tc_request (Ok command) = Asks (Install (lent command))
tc_request (Err fault) = NoCommand fault

-- what is said, where the line reads as this command or fault if it begins with tc
abbrev pub request_said : Result Command TcFault → Result (Option Said) ScriptFault → Result (Option Request) ScriptFault
request_said command (Err fault) = Err fault
request_said command (Ok None) = Ok None
request_said command (Ok (Some (Says.Asked event))) = Ok (Some (Asks event))
request_said command (Ok (Some Says.Tc)) = Ok (Some (tc_request command))

-- what a line asks, if anything, or its fault
abbrev pub request_of : (List (List ℕ) → Result Command TcFault) → List ℕ → Result (Option Request) ScriptFault
request_of read line = request_said (read (words_of line)) (said_in line)
