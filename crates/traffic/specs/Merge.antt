-- The lines of a script among the frames of streams, each at its moment.
use Rattle.std.specs.Prelude.{ℕ, nat_lt, max, List, [], ◌∷◌, ◌++◌, Option, Some, None, Result, Ok, Err, unwrap_or, codes, if◌then◌else◌}
use Rattle.abstract_port.specs.declared.Event.TheVariants.{Arrive, Install, Clock, Query, Count}
use Rattle.text.specs.Script.{Script, End, Broken, Line, joins}
use Rattle.script.specs.Requests.{said_in}
use Rattle.script.specs.declared.script_line.Said.{Said}
use Rattle.script.specs.declared.script_line.Said.TheVariants as Says
use Rattle.script.specs.declared.faults.ScriptFault.{ScriptFault}
use Rattle.traffic.specs.Written.{lines_of}
use Rattle.traffic.specs.declared.course.Coming.{Coming}

-- 1. The moment of a line

-- what is said, where it is the number of a clock line
abbrev pub clock_said : Said → Option ℕ
clock_said (Says.Asked (Clock m)) = Some m
clock_said (Says.Asked (Arrive frame)) = None
clock_said (Says.Asked (Install command)) = None
clock_said (Says.Asked Query) = None
clock_said (Says.Asked (Count class)) = None
clock_said Says.Tc = None

-- the moment of the clock line that words say, where they say one and have no fault
abbrev pub clock_if_said : Result (Option Said) ScriptFault → Option ℕ
clock_if_said (Ok (Some said)) = clock_said said
clock_if_said (Ok None) = None
clock_if_said (Err fault) = None

-- the number of a line, where it is a good clock line of a script
abbrev pub clock_in : List ℕ → Option ℕ
clock_in line = clock_if_said (said_in line)

-- the greater of two numbers that may be there
abbrev pub latest : Option ℕ → Option ℕ → Option ℕ
latest None number = number
latest (Some clock) None = Some clock
latest (Some clock) (Some number) = Some (max clock number)

-- the greatest number of the clock lines up to a line, its own included, where there is one
abbrev pub clock_after : Option ℕ → List ℕ → Option ℕ
clock_after clock line = latest clock (clock_in line)

-- a line's moment: that number, and 0 before the first clock line
abbrev pub moment_of : Option ℕ → ℕ
moment_of clock = unwrap_or clock 0

-- 2. The frames before a line

-- of frames by rising moment those before a moment
unfoldable pub frames_before : ℕ → List Coming → List Coming
frames_before moment [] = []
frames_before moment (f ∷ fs) = if nat_lt f.moment moment then f ∷ frames_before moment fs else []

-- the others
unfoldable pub frames_from : ℕ → List Coming → List Coming
frames_from moment [] = []
frames_from moment (f ∷ fs) = if nat_lt f.moment moment then frames_from moment fs else f ∷ fs

-- 3. All lines

-- A line as it is passed on: it stays, but for a last line that ends with a backslash, and with the input in place of a line feed. Before a line
-- feed that backslash would join the next line: a blank comes between.
abbrev pub passed_line : List ℕ → List ℕ
passed_line line = if joins line then line ++ codes " " else line

-- what comes after a line: a line feed, and that blank before it
abbrev pub line_end : List ℕ → List ℕ
line_end line = if joins line then codes " \n" else codes "\n"

-- a line as it is written
abbrev pub line_text : List ℕ → List ℕ
line_text line = line ++ line_end line

-- Script lines among frames by rising moment, after a clock line of this number, where there is one: before each line the frames before its
-- moment; after the last line the other frames; and nothing more where a line can not be read.
unfoldable pub merged : Option ℕ → Script → List Coming → List ℕ
merged clock End frames = lines_of clock frames
merged clock (Broken number limit) frames = []
merged clock (Line number line rest) frames =
    lines_of clock (frames_before (moment_of (clock_after clock line)) frames) ++ line_text line
    ++ merged (clock_after clock line) rest (frames_from (moment_of (clock_after clock line)) frames)
