-- What the lines of a network say.
use Rattle.std.specs.Prelude.{◌+◌, ◌==◌, ◌&&◌, not, nat_le, ℕ, suc, List, [], ◌∷◌, Bool, true, false, Option, Some, None, Result, Ok, Err, length, take, drop, codes, if◌then◌else◌}
use Rattle.std.specs.Str.{bytes_eq}
use Rattle.wire_time.specs.Moment.{greatest_moment}
use Rattle.text.specs.Numbers.{behind_first}
use Rattle.text.specs.Words.{is_blank, words_of}
use Rattle.text.specs.Times.{time_in}
use Rattle.script.specs.Requests.{is_comment}
use Rattle.script.specs.Settings.{mtu_in, rate_in, room_in}
use Rattle.script.specs.declared.faults.ScriptFault.{ScriptFault}
use Rattle.script.specs.declared.faults.ScriptFault.TheVariants.{BadNumber, UnknownLine, WordCount}
use Rattle.traffic.specs.Table.{line_said}
use Rattle.traffic.specs.declared.table.Stream.{Stream}
use Rattle.network.specs.Names.{name_in}
use Rattle.network.specs.declared.network_table.faults.NetworkFault.{NetworkFault}
use Rattle.network.specs.declared.network_table.faults.NetworkFault.TheVariants as Faults
use Rattle.network.specs.declared.network_table.said.LinkLine.{LinkLine}
use Rattle.network.specs.declared.network_table.said.PortLine.{PortLine}
use Rattle.network.specs.declared.network_table.said.PortValues.{PortValues}

-- what a line says: nothing; what a port has; a link; by how much clocks differ; or a stream, with the words of its way, if it has one
pub data Said : Type 0 where
  Skipped : Said
  OfPort : PortLine → Said
  OfLink : LinkLine → Said
  OfClocks : ℕ → Said
  OfStream : Stream → Option (List (List ℕ)) → Said

-- 1. Words, one after another

-- what goes on where nothing is wrong
abbrev pub and_then : {S T : Type 0} → Result S NetworkFault → (S → Result T NetworkFault) → Result T NetworkFault
and_then (Ok x) f = f x
and_then (Err fault) f = Err fault

-- by the next word and those after it, by a number or a time, and by a name
abbrev pub by_word : {T : Type 0} → List (List ℕ) → (List ℕ → List (List ℕ) → Result T NetworkFault) → Result T NetworkFault
by_word [] f = Err (Faults.Line WordCount)
by_word (w ∷ ws) f = f w ws

abbrev pub by_number : {T : Type 0} → Option ℕ → (ℕ → Result T NetworkFault) → Result T NetworkFault
by_number None f = Err (Faults.Line BadNumber)
by_number (Some n) f = f n

abbrev pub by_name : {T : Type 0} → Option (List ℕ) → (List ℕ → Result T NetworkFault) → Result T NetworkFault
by_name None f = Err Faults.BadName
by_name (Some name) f = f name

-- 2. Ports: port NAME [rate MBPS] [mtu OCTETS] [room FRAMES], in any order

abbrev pub no_values : PortValues
no_values = record { rate = None; mtu = None; room = None }

-- a value that is not said twice
abbrev pub once : Option ℕ → Option ℕ → (ℕ → PortValues) → Result PortValues NetworkFault
once (Some before) said f = Err (Faults.Line WordCount)
once None said f = by_number said (λ n. Ok (f n))

-- one value more: its name, and the word behind it
abbrev pub with_value : PortValues → List ℕ → List ℕ → Result PortValues NetworkFault
with_value v w value =
    if bytes_eq w (codes "rate") then once v.rate (rate_in value) (λ n. record v { rate = Some n })
    else if bytes_eq w (codes "mtu") then once v.mtu (mtu_in value) (λ n. record v { mtu = Some n })
    else if bytes_eq w (codes "room") then once v.room (room_in value) (λ n. record v { room = Some n })
    else Err (Faults.Line WordCount)

unfoldable pub values_from : PortValues → List (List ℕ) → Result PortValues NetworkFault
values_from v [] = Ok v
values_from v (w ∷ []) = Err (Faults.Line WordCount)
values_from v (w ∷ value ∷ ws) = and_then (with_value v w value) (λ v. values_from v ws)

abbrev pub port_said : List (List ℕ) → Result PortLine NetworkFault
port_said ws =
    by_word ws (λ name ws. by_name (name_in name) (λ name.
    and_then (values_from no_values ws) (λ values. Ok (record { name = name; values = values }))))

-- 3. Links: link NAME NAME TIME [TIME], from the first port to the second, with the least time and the greatest

-- the greatest time is at least the least, and the same where none is said
abbrev pub greatest_in : ℕ → List (List ℕ) → Result ℕ NetworkFault
greatest_in least [] = Ok least
greatest_in least (w ∷ []) = by_number (time_in greatest_moment w) (λ greatest. if nat_le least greatest then Ok greatest else Err (Faults.Line BadNumber))
greatest_in least (w ∷ more ∷ ws) = Err (Faults.Line WordCount)

abbrev pub times_said : List ℕ → List (List ℕ) → Result (ℕ × ℕ) NetworkFault
times_said least ws = by_number (time_in greatest_moment least) (λ least. and_then (greatest_in least ws) (λ greatest. Ok (least, greatest)))

abbrev pub link_said : List (List ℕ) → Result LinkLine NetworkFault
link_said ws =
    by_word ws (λ from ws. by_word ws (λ to ws. by_word ws (λ least ws.
    by_name (name_in from) (λ from. by_name (name_in to) (λ to.
    and_then (times_said least ws) (λ times. Ok (record { from = from; to = to; least = times.0; greatest = times.1 })))))))

-- 4. Clocks: clocks TIME

abbrev pub clocks_said : List (List ℕ) → Result ℕ NetworkFault
clocks_said [] = Err (Faults.Line WordCount)
clocks_said (w ∷ []) = by_number (time_in greatest_moment w) (λ difference. Ok difference)
clocks_said (w ∷ more ∷ ws) = Err (Faults.Line WordCount)

-- 5. Streams: the words of a table of streams, and then via NAME NAME ..

-- whether the first of words is via
abbrev pub are_via : List (List ℕ) → Bool
are_via [] = false
are_via (w ∷ ws) = bytes_eq w (codes "via")

-- the place of the first word via, which begins behind a blank or at the front; so many octets stand in front
unfoldable pub via_from : (place : ℕ) → (behind_blank : Bool) → List ℕ → Option ℕ
via_from place behind_blank [] = None
via_from place behind_blank (b ∷ bs) =
    if behind_blank && not (is_blank b) && are_via (words_of (b ∷ bs)) then Some place else via_from (place + 1) (is_blank b) bs

abbrev pub via_in : List ℕ → Option ℕ
via_in octets = via_from 0 true octets

-- the octets in front of it, and the words behind it
abbrev pub front_at : Option ℕ → List ℕ → List ℕ
front_at None octets = octets
front_at (Some place) octets = take place octets

abbrev pub way_at : Option ℕ → List ℕ → Option (List (List ℕ))
way_at None octets = None
way_at (Some place) octets = Some (behind_first (words_of (drop place octets)))

-- a stream has a period
abbrev pub periodic : Stream → Result Stream NetworkFault
periodic s = if s.period == 0 then Err (Faults.Line BadNumber) else Ok s

-- the stream of the table's line in front (it begins with the word stream, so it is not skipped)
abbrev pub stream_with : Result (Option Stream) ScriptFault → Result Stream NetworkFault
stream_with (Err fault) = Err (Faults.Line fault)
stream_with (Ok None) = Err (Faults.Line WordCount)
stream_with (Ok (Some s)) = periodic s

abbrev pub stream_said : List ℕ → Result Stream NetworkFault
stream_said octets = stream_with (line_said (words_of (front_at (via_in octets) octets)))

-- a way has a port
abbrev pub with_way : Stream → Option (List (List ℕ)) → Result Said NetworkFault
with_way s None = Ok (OfStream s None)
with_way s (Some ws) = if length ws == 0 then Err (Faults.Line WordCount) else Ok (OfStream s (Some ws))

-- 6. A line

abbrev pub said_in_words : List ℕ → List (List ℕ) → Result Said NetworkFault
said_in_words octets [] = Ok Skipped
said_in_words octets (w ∷ ws) =
    if is_comment w then Ok Skipped
    else if bytes_eq w (codes "port") then and_then (port_said ws) (λ said. Ok (OfPort said))
    else if bytes_eq w (codes "link") then and_then (link_said ws) (λ said. Ok (OfLink said))
    else if bytes_eq w (codes "clocks") then and_then (clocks_said ws) (λ difference. Ok (OfClocks difference))
    else if bytes_eq w (codes "stream") then and_then (stream_said octets) (λ s. with_way s (way_at (via_in octets) octets))
    else Err (Faults.Line UnknownLine)

-- what a line says: one without words and a comment say nothing
abbrev pub said_in : List ℕ → Result Said NetworkFault
said_in octets = said_in_words octets (words_of octets)
