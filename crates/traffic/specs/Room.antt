-- How many lines the frames of streams take in a script, and what of another script has room among them.
use Rattle.std.specs.Prelude.{◌≡◌, ◌≤◌, ⊤, ℕ, ◌+◌, ◌-◌, ◌==◌, ◌&&◌, nat_le, nat_lt, count_by, sum_by, List, [], ◌∷◌, length, Option, Some, None, option_map, Result, Ok, Err, if◌then◌else◌}
use Rattle.text.specs.Script.{Script, End, Broken, Line, joins}
use Rattle.text.specs.declared.line_reader.lines.Limit.{Limit}
use Rattle.text.specs.declared.line_reader.lines.Limit.TheVariants.{LongLine, TooManyLines}
use Rattle.text.specs.declared.line_reader.lines.TheConstants.{MAX_LINE_OCTETS, MAX_LINES}
use Rattle.text.specs.Words.{words_of}
use Rattle.script.specs.declared.faults.ScriptFault.{ScriptFault}
use Rattle.traffic.specs.Table.{line_judged}
use Rattle.traffic.specs.declared.frame_count.FrameCount.{FrameCount}
use Rattle.traffic.specs.declared.frame_count.FrameCount.TheVariants.{Few, Many}
use Rattle.traffic.specs.declared.frame_count.TheConstants.{MOST_FRAMES}
use Rattle.traffic.specs.declared.room.ScriptRoom.{ScriptRoom}
use Rattle.traffic.specs.declared.room.ScriptRoom.TheVariants.{AtLeast, Exactly}
use Rattle.traffic.specs.declared.table.Stream.{Stream}
use Rattle.traffic.specs.declared.course.Coming.{Coming}

-- 1. The lines of the frames

-- how many clock lines stand before a frame of a moment: none, where the one of the same moment is written
abbrev pub clock_count : Option ℕ → ℕ → ℕ
clock_count None moment = 1
clock_count (Some written) moment = if written == moment then 0 else 1

-- how many lines frames take by rising moment, each its own, with the clock lines
unfoldable pub line_count : Option ℕ → List Coming → ℕ
line_count written [] = 0
line_count written (f ∷ fs) = clock_count written f.moment + 1 + line_count (Some f.moment) fs

-- the lines that frames take, where a script has room for them
abbrev pub lines_taken : ℕ → Option ℕ
lines_taken count = if nat_le count MAX_LINES then Some count else None

-- how many lines of a script have room beside frames that take so many, where these have room
abbrev pub room_beside : ℕ → Option ℕ
room_beside count = option_map (λ taken. MAX_LINES - taken) (lines_taken count)

-- 2. The line of a table with which the frames become many

-- so many frames more, by the line of this number
abbrev pub counted_with : ℕ → ℕ → FrameCount → FrameCount
counted_with number more (Few frames) = if nat_lt MOST_FRAMES (frames + more) then Many number else Few (frames + more)
counted_with number more (Many line) = Many line

-- the frames of what a line says
abbrev pub counted_line : ℕ → Result (Option Stream) ScriptFault → FrameCount → FrameCount
counted_line number (Ok (Some s)) frames = counted_with number s.count frames
counted_line number (Ok None) frames = frames
counted_line number (Err fault) frames = frames

-- the frames of lines, after those that are counted
unfoldable pub counted_in : (Stream → Result Stream ScriptFault) → FrameCount → Script → FrameCount
counted_in judge frames End = frames
counted_in judge frames (Broken number limit) = frames
counted_in judge frames (Line number octets rest) = counted_in judge (counted_line number (line_judged judge (words_of octets)) frames) rest

-- the line with which they become many; 0 where they are few
abbrev pub crowded_line : FrameCount → ℕ
crowded_line (Few frames) = 0
crowded_line (Many line) = line

-- how many frames streams have
abbrev pub frame_count : List Stream → ℕ
frame_count streams = sum_by (λ s. s.count) streams

-- few frames are so many
abbrev pub IsCount : FrameCount → ℕ → Type 0
IsCount (Few frames) all = (all ≡ frames) × (frames ≤ MOST_FRAMES)
IsCount (Many line) all = ⊤

abbrev pub AreCounted : FrameCount → List Coming → Type 0
AreCounted counted all = IsCount counted (length all)

-- how many lines of a script have room for sure
abbrev pub lines_known : ScriptRoom → ℕ
lines_known (AtLeast lines) = lines
lines_known (Exactly lines) = lines

-- the room beside all frames, of which these are to be counted: the exact one, or a lower bound while they are all
abbrev pub IsRoomLeft : ScriptRoom → List Coming → List Coming → Type 0
IsRoomLeft (AtLeast lines) uncounted all = (uncounted ≡ all) × (lines + line_count None all ≤ MAX_LINES)
IsRoomLeft (Exactly lines) uncounted all = room_beside (line_count None all) ≡ Some lines

-- 3. The lines of a script

-- the line feeds among octets
abbrev pub line_feeds : List ℕ → ℕ
line_feeds octets = count_by (λ octet. octet == 10) octets

-- The limit that a line of this number passes, if it passes one, where there is room for so many physical lines of its script: its last physical
-- line has no room, or the line ends with a backslash and has no room for the blank that comes after it.
abbrev pub limit_passed : ℕ → ℕ → List ℕ → Option Limit
limit_passed room number line =
    if nat_lt room (number + line_feeds line) then Some TooManyLines
    else if (length line == MAX_LINE_OCTETS) && joins line then Some LongLine
    else None

-- such room that tells which limit a line passes
pub record IsRoomFor (room : ScriptRoom) (uncounted all : List Coming) (number : ℕ) (line : List ℕ) : Type 0 where
  pub left : IsRoomLeft room uncounted all
  pub limit : limit_passed (lines_known room) number line ≡ limit_passed (MAX_LINES - line_count None all) number line

-- a line before the rest, unless it passes a limit
abbrev pub unless_passed : Option Limit → ℕ → List ℕ → Script → Script
unless_passed None number line rest = Line number line rest
unless_passed (Some limit) number line rest = Broken number limit

-- a script up to the first line that passes a limit
unfoldable pub passed_on : ℕ → Script → Script
passed_on room End = End
passed_on room (Broken number limit) = Broken number limit
passed_on room (Line number line rest) = unless_passed (limit_passed room number line) number line (passed_on room rest)
