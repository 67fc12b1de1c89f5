-- What a text asks has commands whose maps lead to the eight classes.
use Rattle.std.proofs.Common.{ℕ, ◌^◌, ◌-◌, Bool, true, false, cond, ltb, List, [], ◌∷◌, ◌++◌, Option, Some, None, Result, Ok, Err}
use Rattle.std.specs.Prelude.{codes}
use Rattle.std.specs.Str.{bytes_eq}
use Rattle.wire_time.specs.Moment.{greatest_moment}
use Rattle.text.specs.Words.{words_of}
use Rattle.text.specs.Numbers.{number_in}
use Rattle.text.specs.Script.{Script, End, Broken, Line, script_of}
use Rattle.abstract_port.specs.declared.Command.{Command}
use Rattle.abstract_port.specs.declared.Event.{Event}
use Rattle.abstract_port.specs.declared.Event.TheVariants.{Clock}
use Rattle.port_text.specs.Reader.{IsReader}
use Rattle.port_text.specs.declared.tc_reader.fault.TcFault.{TcFault}
use Rattle.script.specs.Outcome.{Reading, asked_in, asked_with, clock_after, reading_of, with_line}
use Rattle.script.specs.Requests.{Asks, NoCommand, Request, clock_event, clock_with, count_event, count_with, frame_event, frame_in_words, frame_with, is_comment, query_event, request_of, request_said, said, said_in, said_in_words, tc_request}
use Rattle.script.specs.Responses.{events_of}
use Rattle.script.specs.declared.faults.BadLine.{BadLine}
use Rattle.script.specs.declared.faults.ScriptFault.{ScriptFault}
use Rattle.script.specs.declared.faults.ScriptFault.TheVariants.{ClockTooLate, UnknownLine, WordCount}
use Rattle.script.specs.declared.script_line.Said.{Said}
use Rattle.script.specs.declared.script_line.Said.TheVariants as Says
use Rattle.frame_table.specs.Once.{AreMapped, IsMappedIn, ScriptLaw}
use Rattle.frame_table.proofs.JoinLaws.{counts_all}
use Rattle.frame_table.proofs.MappedLaws.{CommandMapped, read_mapped}

-- ---- what is asked

abbrev Mapped : Request → Type 0
Mapped (Asks event) = IsMappedIn event
Mapped (NoCommand fault) = Unit {0}

abbrev AllMapped : List Request → Type 0
AllMapped [] = Unit {0}
AllMapped (r ∷ rest) = Mapped r × AllMapped rest

events_mapped : (requests : List Request) → AllMapped requests → AreMapped (events_of requests)
events_mapped [] m = tt
events_mapped (Asks event ∷ rest) m = (m.0, events_mapped rest m.1)
events_mapped (NoCommand fault ∷ rest) m = events_mapped rest m.1

append_mapped : (xs ys : List Request) → AllMapped xs → AllMapped ys → AllMapped (xs ++ ys)
append_mapped [] ys first later = later
append_mapped (x ∷ xs) ys first later = (first.0, append_mapped xs ys first.1 later)

tc_mapped : (c : Result Command TcFault) → CommandMapped c → Mapped (tc_request c)
tc_mapped (Ok c) m = m
tc_mapped (Err fault) m = tt

-- what a line asks
abbrev ReadMapped : Result (Option Request) ScriptFault → Type 0
ReadMapped (Ok (Some request)) = Mapped request
ReadMapped (Ok None) = Unit {0}
ReadMapped (Err fault) = Unit {0}

line_mapped : (number : ℕ) (r : Result (Option Request) ScriptFault) (rest : Reading) → ReadMapped r → AllMapped rest.requests → AllMapped (with_line number r rest).requests
line_mapped number (Err fault) rest here later = tt
line_mapped number (Ok None) rest here later = later
line_mapped number (Ok (Some request)) rest here later = (here, later)

-- ---- the words of a line say no command

abbrev EventMapped : Result Event ScriptFault → Type 0
EventMapped (Ok event) = IsMappedIn event
EventMapped (Err fault) = Unit {0}

abbrev SaidMapped : Result (Option Said) ScriptFault → Type 0
SaidMapped (Ok (Some (Says.Asked event))) = IsMappedIn event
SaidMapped (Ok (Some Says.Tc)) = Unit {0}
SaidMapped (Ok None) = Unit {0}
SaidMapped (Err fault) = Unit {0}

said_mapped : (r : Result Event ScriptFault) → EventMapped r → SaidMapped (said r)
said_mapped (Ok event) m = m
said_mapped (Err fault) m = tt

event_or : (b : Bool) (x y : Result Event ScriptFault) → EventMapped x → EventMapped y → EventMapped (cond b x y)
event_or true x y first second = first
event_or false x y first second = second

said_or : (b : Bool) (x y : Result (Option Said) ScriptFault) → SaidMapped x → SaidMapped y → SaidMapped (cond b x y)
said_or true x y first second = first
said_or false x y first second = second

clock_mapped : (ws : List (List ℕ)) → EventMapped (clock_event ws)
clock_mapped [] = tt
clock_mapped (w ∷ []) = go (number_in 10 (2 ^ 128 - 1) w)
  where
    go : (o : Option ℕ) → EventMapped (clock_with o)
    go None = tt
    go (Some m) = event_or (ltb greatest_moment m) (Err ClockTooLate) (Ok (Clock m)) tt tt
clock_mapped (w ∷ v ∷ ws) = tt

frame_mapped_with : (id priority len : Option ℕ) (tagged : Bool) → EventMapped (frame_with id priority len tagged)
frame_mapped_with (Some id) (Some priority) (Some len) tagged = tt
frame_mapped_with None priority len tagged = tt
frame_mapped_with (Some id) None len tagged = tt
frame_mapped_with (Some id) (Some priority) None tagged = tt

frame_mapped_in : (id priority len : List ℕ) (tagged : Bool) → EventMapped (frame_in_words id priority len tagged)
frame_mapped_in id priority len tagged = frame_mapped_with (number_in 10 (2 ^ 64 - 1) id) (number_in 10 (2 ^ 8 - 1) priority) (number_in 10 (2 ^ 32 - 1) len) tagged

frame_mapped : (ws : List (List ℕ)) → EventMapped (frame_event ws)
frame_mapped [] = tt
frame_mapped (id ∷ []) = tt
frame_mapped (id ∷ priority ∷ []) = tt
frame_mapped (id ∷ priority ∷ len ∷ []) = frame_mapped_in id priority len false
frame_mapped (id ∷ priority ∷ len ∷ tag ∷ []) = event_or (bytes_eq tag (codes "tagged")) (frame_in_words id priority len true) (Err WordCount) (frame_mapped_in id priority len true) tt
frame_mapped (id ∷ priority ∷ len ∷ tag ∷ more ∷ ws) = tt

query_mapped : (ws : List (List ℕ)) → EventMapped (query_event ws)
query_mapped [] = tt
query_mapped (w ∷ ws) = tt

count_mapped : (ws : List (List ℕ)) → EventMapped (count_event ws)
count_mapped [] = tt
count_mapped (w ∷ []) = go (number_in 10 7 w)
  where
    go : (o : Option ℕ) → EventMapped (count_with o)
    go None = tt
    go (Some class) = tt
count_mapped (w ∷ v ∷ ws) = tt

words_mapped : (ws : List (List ℕ)) → SaidMapped (said_in_words ws)
words_mapped [] = tt
words_mapped (w ∷ ws) =
    let unknown : Result (Option Said) ScriptFault = Err UnknownLine in
    let tc : Result (Option Said) ScriptFault = cond (bytes_eq w (codes "tc")) (Ok (Some Says.Tc)) unknown in
    let count : Result (Option Said) ScriptFault = cond (bytes_eq w (codes "count")) (said (count_event ws)) tc in
    let query : Result (Option Said) ScriptFault = cond (bytes_eq w (codes "query")) (said (query_event ws)) count in
    let frame : Result (Option Said) ScriptFault = cond (bytes_eq w (codes "frame")) (said (frame_event ws)) query in
    let clock : Result (Option Said) ScriptFault = cond (bytes_eq w (codes "clock")) (said (clock_event ws)) frame in
    said_or (is_comment w) (Ok None) clock tt
    (said_or (bytes_eq w (codes "clock")) (said (clock_event ws)) frame (said_mapped (clock_event ws) (clock_mapped ws))
    (said_or (bytes_eq w (codes "frame")) (said (frame_event ws)) query (said_mapped (frame_event ws) (frame_mapped ws))
    (said_or (bytes_eq w (codes "query")) (said (query_event ws)) count (said_mapped (query_event ws) (query_mapped ws))
    (said_or (bytes_eq w (codes "count")) (said (count_event ws)) tc (said_mapped (count_event ws) (count_mapped ws))
    (said_or (bytes_eq w (codes "tc")) (Ok (Some Says.Tc)) unknown tt tt)))))

request_mapped : (c : Result Command TcFault) (s : Result (Option Said) ScriptFault) → CommandMapped c → SaidMapped s → ReadMapped (request_said c s)
request_mapped c (Err fault) m n = tt
request_mapped c (Ok None) m n = tt
request_mapped c (Ok (Some (Says.Asked event))) m n = n
request_mapped c (Ok (Some Says.Tc)) m n = tc_mapped c m

-- ---- a script

module _ (read : List (List ℕ) → Result Command TcFault) (reads : IsReader read) where
  script_mapped : (script : Script) → AllMapped (reading_of read script).requests
  script_mapped End = tt
  script_mapped (Broken number limit) = tt
  script_mapped (Line number octets rest) =
      line_mapped number (request_of read octets) (reading_of read rest)
      (request_mapped (read (words_of octets)) (said_in octets) (read_mapped read reads (words_of octets)) (words_mapped (words_of octets)))
      (script_mapped rest)

  until_mapped : (until : Option ℕ) → AllMapped (clock_after until)
  until_mapped None = tt
  until_mapped (Some moment) = (tt, tt)

  asked_mapped : (until : Option ℕ) (requests : List Request) (fault : Option BadLine) → AllMapped requests → AllMapped (asked_with until requests fault)
  asked_mapped until requests None m = append_mapped requests (clock_after until) m (until_mapped until)
  asked_mapped until requests (Some fault) m = m

-- ---- the law

pub script_counts : ScriptLaw
script_counts read s input reads =
    let reading = reading_of read (script_of input) in
    let requests = asked_in s.until reading in
    counts_all (events_of requests) s.rate s.mtu s.room (events_mapped requests (asked_mapped read reads s.until reading.requests reading.fault (script_mapped read reads (script_of input))))
