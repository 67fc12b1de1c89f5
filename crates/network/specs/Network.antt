-- The network that lines say, and its first fault.
use Rattle.std.specs.Prelude.{◌+◌, ◌-◌, ◌==◌, ◌&&◌, ◌||◌, nat_lt, ℕ, List, [], ◌∷◌, ◌++◌, length, take, drop, slice_get, Bool, Option, Some, None, unwrap_or, Result, Ok, Err, if◌then◌else◌}
use Rattle.std.specs.List.{list_any}
use Rattle.std.specs.Str.{bytes_eq}
use Rattle.text.specs.Script.{Script, End, Broken, Line}
use Rattle.text.specs.declared.line_reader.lines.LineFault.{LineFault}
use Rattle.text.specs.declared.line_reader.lines.LineFault.TheVariants as LineFaults
use Rattle.job.specs.Lines.{fault_of_line}
use Rattle.job.specs.declared.fault.Fault.{Fault}
use Rattle.job.specs.declared.fault.Fault.TheVariants as Runs
use Rattle.script.specs.Outcome.{limit_fault}
use Rattle.traffic.specs.declared.table.Stream.{Stream}
use Rattle.network.specs.Lines.{Said, Skipped, OfPort, OfLink, OfClocks, OfStream, and_then, by_name, said_in}
use Rattle.network.specs.Names.{name_in}
use Rattle.network.specs.declared.network_table.faults.BadNetwork.{BadNetwork}
use Rattle.network.specs.declared.network_table.faults.NetworkFault.{NetworkFault}
use Rattle.network.specs.declared.network_table.faults.NetworkFault.TheVariants as Faults
use Rattle.network.specs.declared.network_table.contents.Clocks.{Clocks}
use Rattle.network.specs.declared.network_table.contents.NetworkLink.{NetworkLink}
use Rattle.network.specs.declared.network_table.contents.NetworkStream.{NetworkStream}
use Rattle.network.specs.declared.network_table.contents.PortSetting.{PortSetting}
use Rattle.network.specs.declared.network_table.said.LinkLine.{LinkLine}
use Rattle.network.specs.declared.network_table.said.PortLine.{PortLine}

-- 1. A network

-- The names of the ports, in the order in which they are first mentioned: a port's number is its place here. What lines say that ports have;
-- the links; by how much clocks differ, where that is said; the streams; and the ports of their ways, one way after another.
pub record Net : Type 0 where
  pub names : List (List ℕ)
  pub settings : List PortSetting
  pub links : List NetworkLink
  pub clocks : Option Clocks
  pub streams : List NetworkStream
  pub ways : List ℕ

-- before any line
abbrev pub no_net : Net
no_net = record { names = []; settings = []; links = []; clocks = None; streams = []; ways = [] }

-- the first that is answered about elements of a list
abbrev pub option_or_else : {Y : Type 0} → Option Y → Option Y → Option Y
option_or_else (Some y) rest = Some y
option_or_else None rest = rest

unfoldable pub first_of : {X Y : Type 0} → (X → Option Y) → List X → Option Y
first_of f [] = None
first_of f (x ∷ xs) = option_or_else (f x) (first_of f xs)

-- the number of the port of a name
unfoldable pub place_from : ℕ → List ℕ → List (List ℕ) → Option ℕ
place_from place name [] = None
place_from place name (x ∷ xs) = if bytes_eq x name then Some place else place_from (place + 1) name xs

-- the names with one that is mentioned, and the number of its port
abbrev pub at_place : Option ℕ → List (List ℕ) → List ℕ → List (List ℕ) × ℕ
at_place (Some place) names name = (names, place)
at_place None names name = (names ++ name ∷ [], length names)

abbrev pub mentioned : List (List ℕ) → List ℕ → List (List ℕ) × ℕ
mentioned names name = at_place (place_from 0 name names) names name

-- the line that says of a port what it has, and the line that says a link from one port to another
abbrev pub setting_line_of : ℕ → PortSetting → Option ℕ
setting_line_of port s = if s.port == port then Some s.line else None

abbrev pub setting_line : ℕ → List PortSetting → Option ℕ
setting_line port settings = first_of (setting_line_of port) settings

abbrev pub link_line_of : ℕ → ℕ → NetworkLink → Option ℕ
link_line_of from to l = if (l.from == from) && (l.to == to) then Some l.line else None

abbrev pub link_line : ℕ → ℕ → List NetworkLink → Option ℕ
link_line from to links = first_of (link_line_of from to) links

-- the ports of a way of so many, which begin at a place among those of all ways
abbrev pub part : List ℕ → ℕ → ℕ → List ℕ
part ways begin hops = take hops (drop begin ways)

-- the port of a name: where none has one, the one port has any
abbrev pub port_among : List (List ℕ) → List ℕ → Option ℕ
port_among [] name = Some 0
port_among (x ∷ names) name = place_from 0 name (x ∷ names)

abbrev pub port_of : Net → List ℕ → Option ℕ
port_of net name = port_among net.names name

-- some stream crosses a port: one that says no way crosses the one port
abbrev pub is_crossed : Net → ℕ → Bool
is_crossed net port = list_any (λ s. s.hops == 0) net.streams || list_any (λ hop. hop == port) net.ways

-- 2. What a line adds

-- what no line has said before
abbrev pub unless_said : {T : Type 0} → Option ℕ → (ℕ → NetworkFault) → T → Result T NetworkFault
unless_said (Some line) fault x = Err (fault line)
unless_said None fault x = Ok x

-- what a port has
abbrev pub setting_added : ℕ → PortLine → Net → (List (List ℕ) × ℕ) → Result Net NetworkFault
setting_added number said net at =
    unless_said (setting_line at.1 net.settings) Faults.SecondPort (record net {
      names = at.0;
      settings = net.settings ++ record { port = at.1; values = said.values; line = number } ∷ [];
    })

abbrev pub port_taken : ℕ → PortLine → Net → Result Net NetworkFault
port_taken number said net = setting_added number said net (mentioned net.names said.name)

-- a link
abbrev pub link_added : ℕ → LinkLine → Net → ℕ → (List (List ℕ) × ℕ) → Result Net NetworkFault
link_added number said net from to =
    unless_said (link_line from to.1 net.links) Faults.SecondLink (record net {
      names = to.0;
      links = net.links ++ record { from = from; to = to.1; least = said.least; greatest = said.greatest; line = number } ∷ [];
    })

abbrev pub link_from : ℕ → LinkLine → Net → (List (List ℕ) × ℕ) → Result Net NetworkFault
link_from number said net from = link_added number said net from.1 (mentioned from.0 said.to)

abbrev pub link_taken : ℕ → LinkLine → Net → Result Net NetworkFault
link_taken number said net = link_from number said net (mentioned net.names said.from)

-- by how much clocks differ
abbrev pub line_of_clocks : Option Clocks → Option ℕ
line_of_clocks None = None
line_of_clocks (Some c) = Some c.line

abbrev pub clocks_taken : ℕ → ℕ → Net → Result Net NetworkFault
clocks_taken number difference net =
    unless_said (line_of_clocks net.clocks) Faults.SecondClocks (record net { clocks = Some (record { difference = difference; line = number }) })

-- one port more of a way, of which the ports stand from a place on; none of them comes twice
abbrev pub hop_to : ℕ → List ℕ → List ℕ → (List (List ℕ) × ℕ) → Result (List (List ℕ) × List ℕ) NetworkFault
hop_to begin ways name at =
    if list_any (λ hop. hop == at.1) (drop begin ways) then Err (Faults.PortTwice name) else Ok (at.0, ways ++ at.1 ∷ [])

abbrev pub hop_taken : ℕ → (List (List ℕ) × List ℕ) → List ℕ → Result (List (List ℕ) × List ℕ) NetworkFault
hop_taken begin now w = by_name (name_in w) (λ name. hop_to begin now.1 name (mentioned now.0 name))

unfoldable pub way_taken : ℕ → (List (List ℕ) × List ℕ) → List (List ℕ) → Result (List (List ℕ) × List ℕ) NetworkFault
way_taken begin now [] = Ok now
way_taken begin now (w ∷ ws) = and_then (hop_taken begin now w) (λ next. way_taken begin next ws)

-- a stream, behind the others, whose way was put behind theirs at a place
abbrev pub stream_put : ℕ → Stream → ℕ → Net → Net
stream_put number s begin net = record net {
  streams = net.streams ++ record { stream = s; line = number; begin = begin; hops = length net.ways - begin } ∷ [];
}

abbrev pub words_of_way : Option (List (List ℕ)) → List (List ℕ)
words_of_way None = []
words_of_way (Some ws) = ws

abbrev pub stream_taken : ℕ → Stream → Option (List (List ℕ)) → Net → Result Net NetworkFault
stream_taken number s way net =
    and_then (way_taken (length net.ways) (net.names, net.ways) (words_of_way way)) (λ now.
    Ok (stream_put number s (length net.ways) (record net { names = now.0; ways = now.1 })))

-- what the line of a number says
abbrev pub taken : ℕ → Net → Said → Result Net NetworkFault
taken number net Skipped = Ok net
taken number net (OfPort said) = port_taken number said net
taken number net (OfLink said) = link_taken number said net
taken number net (OfClocks difference) = clocks_taken number difference net
taken number net (OfStream s way) = stream_taken number s way net

abbrev pub line_taken : ℕ → List ℕ → Net → Result Net NetworkFault
line_taken number octets net = and_then (said_in octets) (taken number net)

-- 3. The first fault

-- the line of a number has a fault
abbrev pub bad_network : ℕ → NetworkFault → BadNetwork
bad_network number fault = record { line = number; fault = fault }

abbrev pub by_line : ℕ → Result Net NetworkFault → (Net → Result Net BadNetwork) → Result Net BadNetwork
by_line number (Ok net) f = f net
by_line number (Err fault) f = Err (bad_network number fault)

-- what lines add, one after another, up to the first that is wrong by itself or beside those before it
unfoldable pub lines_taken : Net → Script → Result Net BadNetwork
lines_taken net End = Ok net
lines_taken net (Broken number limit) = Err (bad_network number (Faults.Line (limit_fault limit)))
lines_taken net (Line number octets rest) = by_line number (line_taken number octets net) (λ next. lines_taken next rest)

-- the name of the port of a number
abbrev pub name_at : List (List ℕ) → ℕ → List ℕ
name_at names port = unwrap_or (slice_get names port) []

-- on its way from one port to the next a stream needs a link in this direction
abbrev pub unless_linked : Option ℕ → (from to : List ℕ) → Option NetworkFault
unless_linked (Some line) from to = None
unless_linked None from to = Some (Faults.NoLink from to)

abbrev pub hop_fault : Net → Option ℕ → ℕ → Option NetworkFault
hop_fault net None to = None
hop_fault net (Some from) to = unless_linked (link_line from to net.links) (name_at net.names from) (name_at net.names to)

unfoldable pub way_fault : Net → Option ℕ → List ℕ → Option NetworkFault
way_fault net before [] = None
way_fault net before (hop ∷ hops) = option_or_else (hop_fault net before hop) (way_fault net (Some hop) hops)

-- a stream without a way crosses the one port: there may not be several
abbrev pub stream_fault : Net → NetworkStream → Option NetworkFault
stream_fault net s =
    if s.hops == 0 then (if nat_lt 1 (length net.names) then Some Faults.NoWay else None)
    else way_fault net None (part net.ways s.begin s.hops)

abbrev pub at_line : ℕ → Option NetworkFault → Option BadNetwork
at_line number None = None
at_line number (Some fault) = Some (bad_network number fault)

abbrev pub bad_stream : Net → NetworkStream → Option BadNetwork
bad_stream net s = at_line s.line (stream_fault net s)

-- once all lines are known: the first stream whose way can't be gone
abbrev pub unless_bad : Option BadNetwork → Net → Result Net BadNetwork
unless_bad (Some bad) net = Err bad
unless_bad None net = Ok net

abbrev pub judged : Net → Result Net BadNetwork
judged net = unless_bad (first_of (bad_stream net) net.streams) net

abbrev pub judged_if : Result Net BadNetwork → Result Net BadNetwork
judged_if (Ok net) = judged net
judged_if (Err bad) = Err bad

-- The network that lines say, or its first fault: that of the first line that is wrong, or else of the first stream whose way can't be gone.
abbrev pub network_of : Script → Result Net BadNetwork
network_of script = judged_if (lines_taken no_net script)

-- 4. Faults as a run has them

abbrev pub numbered_fault : ℕ → Fault NetworkFault → Fault BadNetwork
numbered_fault number (Runs.Input fault) = Runs.Input (bad_network number fault)
numbered_fault number Runs.Read = Runs.Read
numbered_fault number Runs.Write = Runs.Write
numbered_fault number Runs.Memory = Runs.Memory

abbrev pub lines_fault : LineFault → Fault BadNetwork
lines_fault fault = fault_of_line (λ number limit. bad_network number (Faults.Line (limit_fault limit))) fault
