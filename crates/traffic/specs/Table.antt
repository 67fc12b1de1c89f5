-- What the lines of a table of streams say.
use Rattle.std.specs.Prelude.{◌≤◌, ◌^◌, ◌-◌, ◌+◌, nat_le, List, ℕ, Bool, [], ◌∷◌, Option, Some, None, Result, Ok, Err, unwrap_or, codes, if◌then◌else◌}
use Rattle.std.specs.Str.{bytes_eq}
use Rattle.wire_time.specs.Moment.{greatest_moment}
use Rattle.text.specs.Words.{words_of}
use Rattle.text.specs.Numbers.{number_in}
use Rattle.text.specs.Times.{time_in}
use Rattle.text.specs.Script.{Script, End, Broken, Line}
use Rattle.script.specs.Outcome.{limit_fault}
use Rattle.script.specs.Requests.{is_comment}
use Rattle.script.specs.declared.faults.ScriptFault.{ScriptFault}
use Rattle.script.specs.declared.faults.ScriptFault.TheVariants.{UnknownLine, WordCount, BadNumber}
use Rattle.traffic.specs.declared.table.Stream.{Stream}
use Rattle.traffic.specs.Parts.{ends_in}
use Rattle.traffic.specs.declared.parts.Ends.{Ends}

-- 1. Streams

-- the earliest moment of a stream's first frame; 0 where it is not known
abbrev pub earliest : Stream → ℕ
earliest s = unwrap_or s.offset 0

-- the times of a stream are at most the greatest moment
pub record HasTimes (s : Stream) : Type 0 where
  pub period : s.period ≤ greatest_moment
  pub offset : earliest s ≤ greatest_moment
  pub jitter : s.jitter ≤ greatest_moment

-- what a line may say of a stream
pub record IsSaid (s : Stream) : Type 0 where
  pub times : HasTimes s
  pub lengths : s.shortest ≤ s.len

-- the ids of a stream's frames are all less than 2^64
abbrev pub has_ids : Stream → Bool
has_ids s = nat_le (s.first_id + s.count) (2 ^ 64)

-- by a number, where a word is one
abbrev pub by_number : Option ℕ → (ℕ → Result Stream ScriptFault) → Result Stream ScriptFault
by_number None f = Err BadNumber
by_number (Some n) f = f n

-- a moment, or any, of which nothing is known
abbrev pub offset_at : Option ℕ → Result (Option ℕ) ScriptFault
offset_at (Some moment) = Ok (Some moment)
offset_at None = Err BadNumber

abbrev pub offset_in : List ℕ → Result (Option ℕ) ScriptFault
offset_in w = if bytes_eq w (codes "any") then Ok None else offset_at (time_in greatest_moment w)

abbrev pub by_offset : Result (Option ℕ) ScriptFault → (Option ℕ → Result Stream ScriptFault) → Result Stream ScriptFault
by_offset (Ok offset) f = f offset
by_offset (Err fault) f = Err fault

-- octets of the shortest frame: of the longest, where none are said; they are at most those
abbrev pub no_longer : (len shortest : ℕ) → Option ℕ
no_longer len shortest = if nat_le shortest len then Some shortest else None

abbrev pub shortest_of : Option ℕ → ℕ → Option ℕ
shortest_of said len = no_longer len (unwrap_or said len)

-- a stream of words: ID, PRIORITY, LEN, PERIOD, OFFSET and COUNT, each a number of its width or a time, and OFFSET also any
abbrev pub stream_in_words : List ℕ → List ℕ → List ℕ → List ℕ → List ℕ → List ℕ → Ends → Result Stream ScriptFault
stream_in_words id priority len period offset count ends =
    by_number (number_in 10 (2 ^ 64 - 1) id) (λ id.
    by_number (number_in 10 (2 ^ 8 - 1) priority) (λ priority.
    by_number (number_in 10 (2 ^ 32 - 1) len) (λ len.
    by_number (time_in greatest_moment period) (λ period.
    by_offset (offset_in offset) (λ offset.
    by_number (number_in 10 (2 ^ 32 - 1) count) (λ count.
    by_number (shortest_of ends.shortest len) (λ shortest.
    Ok (record {
      first_id = id;
      priority = priority;
      len = len;
      shortest = shortest;
      period = period;
      offset = offset;
      jitter = unwrap_or ends.jitter 0;
      count = count;
      tagged = ends.tagged;
      deadline = ends.deadline;
    }))))))))

-- by the next word and those after it, where there is one
abbrev pub by_word : List (List ℕ) → (List ℕ → List (List ℕ) → Result Stream ScriptFault) → Result Stream ScriptFault
by_word [] f = Err WordCount
by_word (w ∷ ws) f = f w ws

-- by the last words
abbrev pub by_ends : Result Ends ScriptFault → (Ends → Result Stream ScriptFault) → Result Stream ScriptFault
by_ends (Ok ends) f = f ends
by_ends (Err fault) f = Err fault

-- what the words after the first say
abbrev pub stream_said : List (List ℕ) → Result Stream ScriptFault
stream_said ws =
    by_word ws (λ id ws. by_word ws (λ priority ws. by_word ws (λ len ws.
    by_word ws (λ period ws. by_word ws (λ offset ws. by_word ws (λ count ws.
    by_ends (ends_in ws) (λ ends. stream_in_words id priority len period offset count ends)))))))

-- a stream of a line, or its fault
abbrev pub in_line : Result Stream ScriptFault → Result (Option Stream) ScriptFault
in_line (Ok s) = Ok (Some s)
in_line (Err fault) = Err fault

-- what a line says, if anything, where how many frames come is not judged: a line without words and a comment say nothing
abbrev pub line_said : List (List ℕ) → Result (Option Stream) ScriptFault
line_said [] = Ok None
line_said (w ∷ ws) =
    if is_comment w then Ok None
    else if bytes_eq w (codes "stream") then in_line (stream_said ws)
    else Err UnknownLine

-- 2. The table

-- the streams of a table up to its first fault, and that fault with the number of its line
pub record Table : Type 0 where
  pub streams : List Stream
  pub fault : Option (ℕ × ScriptFault)

-- what a line says, by what is judged of its stream
abbrev pub judged_line : (Stream → Result Stream ScriptFault) → Result (Option Stream) ScriptFault → Result (Option Stream) ScriptFault
judged_line judge (Ok None) = Ok None
judged_line judge (Ok (Some s)) = in_line (judge s)
judged_line judge (Err fault) = Err fault

abbrev pub line_judged : (Stream → Result Stream ScriptFault) → List (List ℕ) → Result (Option Stream) ScriptFault
line_judged judge ws = judged_line judge (line_said ws)

-- a line before the rest of a table
abbrev pub with_line : ℕ → Result (Option Stream) ScriptFault → Table → Table
with_line number (Err fault) rest = record { streams = []; fault = Some (number, fault) }
with_line number (Ok None) rest = rest
with_line number (Ok (Some s)) rest = record { streams = s ∷ rest.streams; fault = rest.fault }

-- the table that lines are, by what is judged of a stream
unfoldable pub table_by : (Stream → Result Stream ScriptFault) → Script → Table
table_by judge End = record { streams = []; fault = None }
table_by judge (Broken number limit) = record { streams = []; fault = Some (number, limit_fault limit) }
table_by judge (Line number octets rest) = with_line number (line_judged judge (words_of octets)) (table_by judge rest)
