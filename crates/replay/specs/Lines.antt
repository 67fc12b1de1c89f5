-- What a line of a script says that runs beside a capture.
use Rattle.std.specs.Prelude.{◌≤◌, nat_lt, List, ℕ, Bool, false, [], ◌∷◌, Option, Some, None, Result, Ok, Err, codes, if◌then◌else◌}
use Rattle.std.specs.Str.{bytes_eq}
use Rattle.capture.specs.declared.writer.TheConstants.{CAPTURE_END}
use Rattle.abstract_port.specs.declared.Command.{Command}
use Rattle.abstract_port.specs.declared.Event.TheVariants as Events
use Rattle.port_text.specs.declared.tc_reader.fault.TcFault.{TcFault}
use Rattle.text.specs.Words.{words_of}
use Rattle.text.specs.Script.{Script, End, Broken}
use Rattle.text.specs.Script as Lines
use Rattle.script.specs.Requests.{Request, Asks, said_in, tc_request}
use Rattle.script.specs.Outcome.{Reading, long_line, with_line}
use Rattle.script.specs.declared.script_line.Said.{Said}
use Rattle.script.specs.declared.script_line.Said.TheVariants as Says
use Rattle.script.specs.declared.faults.ScriptFault.{ScriptFault}
use Rattle.script.specs.declared.faults.ScriptFault.TheVariants.{FrameInReplay, ClockTooLate}
use Rattle.replay.specs.declared.line_beside.Line.{Line}
use Rattle.replay.specs.declared.line_beside.Line.TheVariants.{Clock, Query, Count, Tc}

-- the first word is `frame`
abbrev pub begins_with_frame : List (List ℕ) → Bool
begins_with_frame [] = false
begins_with_frame (w ∷ ws) = bytes_eq w (codes "frame")

-- what is said, where it is neither a frame, nor a moment that a capture can't say. (No line says a command but by `tc`.)
abbrev pub line_said : Said → Result Line ScriptFault
line_said (Says.Asked (Events.Clock m)) = if nat_lt CAPTURE_END m then Err ClockTooLate else Ok (Clock m)
line_said (Says.Asked Events.Query) = Ok Query
line_said (Says.Asked (Events.Count class)) = Ok (Count class)
line_said (Says.Asked (Events.Arrive frame)) = Err FrameInReplay
line_said (Says.Asked (Events.Install command)) = Err FrameInReplay
line_said Says.Tc = Ok Tc

-- a moment that a capture can say, or the first that it can't
abbrev pub IsEarly : Line → Type 0
IsEarly (Clock m) = m ≤ CAPTURE_END
IsEarly Query = Unit {0}
IsEarly (Count class) = Unit {0}
IsEarly Tc = Unit {0}

-- a line, or its fault, where a line says something
abbrev pub some_line : Result Line ScriptFault → Result (Option Line) ScriptFault
some_line (Ok line) = Ok (Some line)
some_line (Err fault) = Err fault

-- the line that words say, where they say anything
abbrev pub line_if_said : Result (Option Said) ScriptFault → Result (Option Line) ScriptFault
line_if_said (Err fault) = Err fault
line_if_said (Ok None) = Ok None
line_if_said (Ok (Some said)) = some_line (line_said said)

-- what a line says, if anything: a frame is a fault before its words are counted, and else the fault of any script comes first
abbrev pub line_in : List ℕ → Result (Option Line) ScriptFault
line_in octets = if begins_with_frame (words_of octets) then Err FrameInReplay else line_if_said (said_in octets)

-- what a line asks, where it reads as this command or fault if it begins with tc
abbrev pub line_request : Result Command TcFault → Line → Request
line_request command (Clock m) = Asks (Events.Clock m)
line_request command Query = Asks Events.Query
line_request command (Count class) = Asks (Events.Count class)
line_request command Tc = tc_request command

-- the request that a line is, where it asks anything
abbrev pub request_if : Result Command TcFault → Result (Option Line) ScriptFault → Result (Option Request) ScriptFault
request_if command (Err fault) = Err fault
request_if command (Ok None) = Ok None
request_if command (Ok (Some line)) = Ok (Some (line_request command line))

-- what a line asks, if anything, or its fault
abbrev pub request_in : (List (List ℕ) → Result Command TcFault) → List ℕ → Result (Option Request) ScriptFault
request_in read octets = request_if (read (words_of octets)) (line_in octets)

-- what the lines of a script ask, up to the first fault
abbrev pub reading_of : (List (List ℕ) → Result Command TcFault) → Script → Reading
reading_of read End = record { requests = []; fault = None }
reading_of read (Broken number limit) = record { requests = []; fault = Some (long_line number limit) }
reading_of read (Lines.Line number octets rest) = with_line number (request_in read octets) (reading_of read rest)
