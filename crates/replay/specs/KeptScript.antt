-- What is kept of a script.
use Rattle.std.specs.Prelude.{◌≤◌, max, List, ℕ, All, length, map, Result, slice_range}
use Rattle.std.specs.Coded.{×_prop, Unit-prop, le_prop}
use Rattle.capture.specs.declared.writer.TheConstants.{CAPTURE_END}
use Rattle.abstract_port.specs.declared.Command.{Command}
use Rattle.abstract_port.specs.declared.Event.TheVariants as Events
use Rattle.port_text.specs.declared.tc_reader.fault.TcFault.{TcFault}
use Rattle.text.specs.Words.{words_of}
use Rattle.script.specs.Requests.{Request, Asks, tc_request}
use Rattle.replay.specs.declared.kept_script.KeptLine.{KeptLine}
use Rattle.replay.specs.declared.kept_script.KeptLine.TheVariants.{Clock, Query, Count, Tc}

-- a moment that a capture can say or the first that it can't, and octets that lie among those that are kept
abbrev pub IsKept : List ℕ → KeptLine → Type 0
IsKept octets (Clock m) = m ≤ CAPTURE_END
IsKept octets Query = Unit {0}
IsKept octets (Count class) = Unit {0}
IsKept octets (Tc start finish number) = (start ≤ finish) × (finish ≤ length octets)

-- in one way
pub IsKept-prop : (octets : List ℕ) (line : KeptLine) → IsProp (IsKept octets line)
IsKept-prop octets (Clock m) = le_prop
IsKept-prop octets Query = Unit-prop
IsKept-prop octets (Count class) = Unit-prop
IsKept-prop octets (Tc start finish number) = ×_prop le_prop le_prop

-- each line is kept among these octets
abbrev pub AreKept : List ℕ → List KeptLine → Type 0
AreKept octets lines = All (IsKept octets) lines

-- what a line asks whose octets, if it begins with tc, are among these
abbrev pub kept_request : (List (List ℕ) → Result Command TcFault) → List ℕ → KeptLine → Request
kept_request read octets (Clock m) = Asks (Events.Clock m)
kept_request read octets Query = Asks Events.Query
kept_request read octets (Count class) = Asks (Events.Count class)
kept_request read octets (Tc start finish number) = tc_request (read (words_of (slice_range octets start finish)))

-- what lines ask
abbrev pub kept_requests : (List (List ℕ) → Result Command TcFault) → List ℕ → List KeptLine → List Request
kept_requests read octets lines = map (kept_request read octets) lines

-- the greatest clock number up to a line, its own included
abbrev pub kept_clock : ℕ → KeptLine → ℕ
kept_clock clock (Clock m) = max clock m
kept_clock clock Query = clock
kept_clock clock (Count class) = clock
kept_clock clock (Tc start finish number) = clock
