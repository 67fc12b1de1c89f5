-- What is known of a network that is read, line by line.
use Rattle.std.proofs.Common.{◌≡◌, ◌<◌, ◌≤◌, ℕ, ◌+◌, ◌-◌, ◌==◌, All, Bool, true, false, cond, List, [], ◌∷◌, ◌++◌, drop, length, Option, Some, None, Result, Ok, Err, refl, subst, arith}
use Rattle.std.specs.List.{list_any}
use Rattle.std.specs.Str.{bytes_eq}
use Rattle.std.proofs.lemmas.List.{length_push}
use Rattle.std.proofs.lemmas.List.Elements.{All-nil, All-push, All-weaker}
use Rattle.std.proofs.lemmas.Option.{none-some, same_Some}
use Rattle.wire_time.specs.Moment.{greatest_moment}
use Rattle.text.specs.Script.{Script, End, Broken, Line, script_of}
use Rattle.traffic.specs.declared.table.Stream.{Stream}
use Rattle.script.specs.Outcome.{limit_fault}
use Rattle.network.specs.Lines.{Said, Skipped, OfPort, OfLink, OfClocks, OfStream, said_in}
use Rattle.network.specs.Names.{name_in}
use Rattle.network.specs.Network.{Net, at_place, bad_network, bad_stream, by_line, clocks_taken, first_of, hop_taken, judged_if, line_of_clocks, line_taken, lines_taken, link_line, mentioned, network_of, no_net, place_from, setting_line, stream_put, stream_taken, taken, unless_bad, unless_said, way_taken, words_of_way}
use Rattle.network.specs.declared.network_table.contents.NetworkLink.{NetworkLink}
use Rattle.network.specs.declared.network_table.contents.NetworkStream.{NetworkStream}
use Rattle.network.specs.declared.network_table.contents.PortSetting.{PortSetting}
use Rattle.network.specs.declared.network_table.faults.BadNetwork.{BadNetwork}
use Rattle.network.specs.declared.network_table.faults.NetworkFault.{NetworkFault}
use Rattle.network.specs.declared.network_table.faults.NetworkFault.TheVariants as Faults
use Rattle.network.specs.declared.network_table.said.PortValues.{PortValues}
use Rattle.paths.specs.Ports.{clocks_of}
use Rattle.read_claim.proofs.SaidLaws.{HasRate, IsReadSaid, name_ok, said_law, then_ok}
use Rattle.read_claim.proofs.ScriptLaws.{room, script_law, weight}
use Rattle.read_claim.proofs.StreamLaws.{IsReadStream}
use Rattle.read_claim.proofs.WordLaws.{no_ok, same_ok}

-- All that lines say is what they may say, and each port of a way has a name.
pub record IsReadNet (net : Net) : Type 0 where
  pub settings : All (λ (s : PortSetting). HasRate s.values) net.settings
  pub links : All (λ (l : NetworkLink). l.least ≤ greatest_moment) net.links
  pub clocks : clocks_of net.clocks ≤ greatest_moment
  pub streams : All (λ (s : NetworkStream). IsReadStream s.stream) net.streams
  pub ways : All (λ (port : ℕ). port < length net.names) net.ways

-- how many ports all ways have, and one more for each
abbrev pub spent : List NetworkStream → ℕ
spent [] = 0
spent (s ∷ streams) = (s.hops + 1) + spent streams

spent_push : (streams : List NetworkStream) (s : NetworkStream) → spent (streams ++ s ∷ []) ≡ spent streams + (s.hops + 1)
spent_push [] s = omega arith
spent_push (x ∷ streams) s = (let more = spent_push streams s in omega (arith, more))

-- a network that is read, of which so much is spent
abbrev IsWithin : ℕ → Net → Type 0
IsWithin count net = IsReadNet net × (spent net.streams ≤ count)

-- ---- names

place_within : (names : List (List ℕ)) (place : ℕ) (name : List ℕ) (p : ℕ) → place_from place name names ≡ Some p → p < place + length names
unfolding place_from
place_within [] place name p e = absurd (none-some p e)
place_within (x ∷ names) place name p e = by (bytes_eq x name) e (place_within names (place + 1) name p)
  where
    by : (t : Bool) → cond t (Some place) (place_from (place + 1) name names) ≡ Some p
        → (place_from (place + 1) name names ≡ Some p → p < (place + 1) + length names) → p < place + length (x ∷ names)
    by true is rest = (let same = same_Some place p is in omega (arith, same))
    by false is rest = (let less = rest is in omega (arith, less))

-- a port that is mentioned has a name, and so have all others
pub record IsNamed (names : List (List ℕ)) (at : List (List ℕ) × ℕ) : Type 0 where
  pub grows : length names ≤ length at.0
  pub within : at.1 < length at.0

named_law : (names : List (List ℕ)) (name : List ℕ) → IsNamed names (mentioned names name)
named_law names name = by (place_from 0 name names) refl
  where
    by : (o : Option ℕ) → place_from 0 name names ≡ o → IsNamed names (at_place o names name)
    by (Some place) is = record { grows = omega arith; within = (let less = place_within names 0 name place is in omega (arith, less)) }
    by None is = (let one = length_push names name in record { grows = omega (arith, one); within = omega (arith, one) })

grown : (m n : ℕ) (ways : List ℕ) → m ≤ n → All (λ (port : ℕ). port < m) ways → All (λ (port : ℕ). port < n) ways
grown m n ways le all = All-weaker (λ (port : ℕ). port < m) (λ (port : ℕ). port < n) (λ port less. omega (arith, le, less)) ways all

-- ---- ways

pub record IsWay (words : ℕ) (now next : List (List ℕ) × List ℕ) : Type 0 where
  pub within : All (λ (port : ℕ). port < length next.0) next.1
  pub longer : length next.1 ≡ length now.1 + words

hop_law : (begin : ℕ) (now next : List (List ℕ) × List ℕ) (w : List ℕ) → All (λ (port : ℕ). port < length now.0) now.1
    → hop_taken begin now w ≡ Ok next → IsWay 1 now next
hop_law begin now next w all e =
    let got = name_ok (name_in w) _ next e in
    by (mentioned now.0 got.0) (named_law now.0 got.0) got.0
    (list_any (λ hop. hop == (mentioned now.0 got.0).1) (drop begin now.1)) got.1
  where
    by : (at : List (List ℕ) × ℕ) → IsNamed now.0 at → (name : List ℕ) (t : Bool)
        → cond t (Err (Faults.PortTwice name)) (Ok (at.0, now.1 ++ at.1 ∷ [])) ≡ Ok next → IsWay 1 now next
    by at named name true is = no_ok (Faults.PortTwice name) next is
    by at named name false is =
        subst (IsWay 1 now) (same_ok _ next is) (record {
          within = All-push (λ (port : ℕ). port < length at.0) now.1 at.1 (grown (length now.0) (length at.0) now.1 named.grows all) named.within;
          longer = length_push now.1 at.1;
        })

way_law : (ws : List (List ℕ)) (begin : ℕ) (now next : List (List ℕ) × List ℕ) → All (λ (port : ℕ). port < length now.0) now.1
    → way_taken begin now ws ≡ Ok next → IsWay (length ws) now next
unfolding way_taken
way_law [] begin now next all e = subst (IsWay 0 now) (same_ok now next e) (record { within = all; longer = omega arith })
way_law (w ∷ ws) begin now next all e =
    let got = then_ok (hop_taken begin now w) _ next e in
    let one = hop_law begin now got.0 w all got.1 in
    let rest = way_law ws begin got.0 next one.within got.2 in
    let first = one.longer in
    let more = rest.longer in
    record { within = rest.within; longer = omega (arith, first, more) }

-- ---- one line more

unless_law : {T : Type 0} (o : Option ℕ) (fault : ℕ → NetworkFault) (x y : T) → unless_said o fault x ≡ Ok y → x ≡ y
unless_law (Some line) fault x y e = no_ok (fault line) y e
unless_law None fault x y e = same_ok x y e

counted : (before behind words octets count old new : ℕ) → new ≡ old + ((behind - before) + 1) → behind ≡ before + words → words ≤ octets → old ≤ count
    → new ≤ count + (octets + 1)
counted before behind words octets count old new is longer few so_far = omega (arith, is, longer, few, so_far)

abbrev with_setting : ℕ → PortValues → Net → (List (List ℕ) × ℕ) → Net
with_setting number values net at = record net {
  names = at.0;
  settings = net.settings ++ record { port = at.1; values = values; line = number } ∷ [];
}

abbrev with_link : ℕ → (least greatest : ℕ) → Net → ℕ → (List (List ℕ) × ℕ) → Net
with_link number least greatest net from to = record net {
  names = to.0;
  links = net.links ++ record { from = from; to = to.1; least = least; greatest = greatest; line = number } ∷ [];
}

abbrev with_clocks : ℕ → ℕ → Net → Net
with_clocks number difference net = record net { clocks = Some (record { difference = difference; line = number }) }

module _ (number count : ℕ) (net next : Net) (now : IsWithin count net) where
  abbrev after : ℕ → Type 0
  after more = IsWithin (count + more) next

  kept : (more : ℕ) → spent net.streams ≤ count + more
  kept more = (let le = now.1 in omega (arith, le))

  setting_law : (more : ℕ) (values : PortValues) (at : List (List ℕ) × ℕ) → HasRate values → IsNamed net.names at
      → unless_said (setting_line at.1 net.settings) Faults.SecondPort (with_setting number values net at) ≡ Ok next → after more
  setting_law more values at rate named e =
      subst (IsWithin (count + more)) (unless_law (setting_line at.1 net.settings) Faults.SecondPort (with_setting number values net at) next e) (
        record {
          settings = All-push (λ (s : PortSetting). HasRate s.values) net.settings (record { port = at.1; values = values; line = number })
              (now.0).settings rate;
          links = (now.0).links;
          clocks = (now.0).clocks;
          streams = (now.0).streams;
          ways = grown (length net.names) (length at.0) net.ways named.grows (now.0).ways;
        },
        kept more,
      )

  link_law : (more least greatest : ℕ) (from to : List (List ℕ) × ℕ) → least ≤ greatest_moment → IsNamed net.names from → IsNamed from.0 to
      → unless_said (link_line from.1 to.1 net.links) Faults.SecondLink (with_link number least greatest net from.1 to) ≡ Ok next → after more
  link_law more least greatest from to le one two e =
      let first = one.grows in
      let second = two.grows in
      subst (IsWithin (count + more))
      (unless_law (link_line from.1 to.1 net.links) Faults.SecondLink (with_link number least greatest net from.1 to) next e) (
        record {
          settings = (now.0).settings;
          links = All-push (λ (l : NetworkLink). l.least ≤ greatest_moment) net.links
              (record { from = from.1; to = to.1; least = least; greatest = greatest; line = number }) (now.0).links le;
          clocks = (now.0).clocks;
          streams = (now.0).streams;
          ways = grown (length net.names) (length to.0) net.ways (omega (arith, first, second)) (now.0).ways;
        },
        kept more,
      )

  clocks_law : (more difference : ℕ) → difference ≤ greatest_moment → clocks_taken number difference net ≡ Ok next → after more
  clocks_law more difference le e =
      subst (IsWithin (count + more)) (unless_law (line_of_clocks net.clocks) Faults.SecondClocks (with_clocks number difference net) next e) (
        record {
          settings = (now.0).settings;
          links = (now.0).links;
          clocks = le;
          streams = (now.0).streams;
          ways = (now.0).ways;
        },
        kept more,
      )

  stream_law : (octets : ℕ) (x : Stream) (way : Option (List (List ℕ))) → IsReadStream x → length (words_of_way way) ≤ octets
      → stream_taken number x way net ≡ Ok next → after (octets + 1)
  stream_law octets x way read le e =
      let got = then_ok (way_taken (length net.ways) (net.names, net.ways) (words_of_way way)) _ next e in
      let is = way_law (words_of_way way) (length net.ways) (net.names, net.ways) got.0 (now.0).ways got.1 in
      by got.0 is got.2
    where
      by : (to : List (List ℕ) × List ℕ) → IsWay (length (words_of_way way)) (net.names, net.ways) to
          → ◌≡◌ {A = Result Net NetworkFault} (Ok (stream_put number x (length net.ways) (record net { names = to.0; ways = to.1 }))) (Ok next) → after (octets + 1)
      by to is same =
          subst (IsWithin (count + (octets + 1))) (same_ok (stream_put number x (length net.ways) (record net { names = to.0; ways = to.1 })) next same) (
            record {
              settings = (now.0).settings;
              links = (now.0).links;
              clocks = (now.0).clocks;
              streams = All-push (λ (s : NetworkStream). IsReadStream s.stream) net.streams
                  (record { stream = x; line = number; begin = length net.ways; hops = length to.1 - length net.ways }) (now.0).streams read;
              ways = is.within;
            },
            counted (length net.ways) (length to.1) (length (words_of_way way)) octets count (spent net.streams) _
                (spent_push net.streams (record { stream = x; line = number; begin = length net.ways; hops = length to.1 - length net.ways }))
                is.longer le now.1,
          )

  taken_law : (octets : ℕ) (said : Said) → IsReadSaid octets said → taken number net said ≡ Ok next → after (octets + 1)
  taken_law octets Skipped read e = subst (IsWithin (count + (octets + 1))) (same_ok net next e) (now.0, kept (octets + 1))
  taken_law octets (OfPort said) read e =
      setting_law (octets + 1) said.values (mentioned net.names said.name) read (named_law net.names said.name) e
  taken_law octets (OfLink said) read e =
      link_law (octets + 1) said.least said.greatest (mentioned net.names said.from) (mentioned (mentioned net.names said.from).0 said.to) read
      (named_law net.names said.from) (named_law (mentioned net.names said.from).0 said.to) e
  taken_law octets (OfClocks difference) read e = clocks_law (octets + 1) difference read e
  taken_law octets (OfStream x way) read e = stream_law octets x way read.0 read.1 e

  line_law : (octets : List ℕ) → line_taken number octets net ≡ Ok next → after (length octets + 1)
  line_law octets e =
      let got = then_ok (said_in octets) (taken number net) next e in
      taken_law (length octets) got.0 (said_law octets got.0 got.1) got.2

-- ---- all lines

line_ok : (number : ℕ) (r : Result Net NetworkFault) (f : Net → Result Net BadNetwork) (y : Net) → by_line number r f ≡ Ok y
    → (x : Net) × (r ≡ Ok x) × (f x ≡ Ok y)
line_ok number (Ok x) f y e = (x, refl, e)
line_ok number (Err fault) f y e = no_ok (bad_network number fault) y e

more_room : (count n rest : ℕ) (net : Net) → IsWithin ((count + n) + rest) net → IsWithin (count + (n + rest)) net
more_room count n rest net h = (let le = h.1 in (h.0, omega (arith, le)))

lines_law : (script : Script) (count : ℕ) (net all : Net) → IsWithin count net → lines_taken net script ≡ Ok all → IsWithin (count + weight script) all
unfolding lines_taken
lines_law End count net all now e =
    subst (IsWithin (count + 0)) (same_ok net all e) (now.0, (let le = now.1 in omega (arith, le)))
lines_law (Broken number limit) count net all now e = no_ok (bad_network number (Faults.Line (limit_fault limit))) all e
lines_law (Line number octets rest) count net all now e =
    let got = line_ok number (line_taken number octets net) _ all e in
    more_room count (length octets + 1) (weight rest) all
    (lines_law rest (count + (length octets + 1)) got.0 all (line_law number count net got.0 now octets got.1) got.2)

judged_law : (r : Result Net BadNetwork) (net : Net) → judged_if r ≡ Ok net → r ≡ Ok net
judged_law (Err bad) net e = e
judged_law (Ok x) net e = by (first_of (bad_stream x) x.streams) e
  where
    by : (o : Option BadNetwork) → unless_bad o x ≡ Ok net → ◌≡◌ {A = Result Net BadNetwork} (Ok x) (Ok net)
    by (Some bad) is = no_ok bad net is
    by None is = is

no_lines : IsWithin 0 no_net
no_lines = (
  record {
    settings = All-nil (λ (s : PortSetting). HasRate s.values);
    links = All-nil (λ (l : NetworkLink). l.least ≤ greatest_moment);
    clocks = omega arith;
    streams = All-nil (λ (s : NetworkStream). IsReadStream s.stream);
    ways = All-nil (λ (port : ℕ). port < 0);
  },
  omega arith,
)

-- The network is what lines may say, and its ways are few.
pub net_law : (octets : List ℕ) (net : Net) → network_of (script_of octets) ≡ Ok net → IsReadNet net × (spent net.streams ≤ room 0)
net_law octets net e =
    let got = lines_law (script_of octets) 0 no_net net no_lines (judged_law (lines_taken no_net (script_of octets)) net e) in
    let le = got.1 in
    let most = script_law octets in
    (got.0, omega (arith, le, most))
