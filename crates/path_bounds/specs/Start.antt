-- What is known of all hops before any class is judged: of each stream, when its frames come to its first port; and where a port drops each of
-- them, that none comes to those behind.
use Rattle.std.specs.Prelude.{◌&&◌, ◌||◌, not, is_some, Bool, List, [], ◌∷◌, Option, Some, None, Result, Ok, Err, ℕ, slice_get, if◌then◌else◌}
use Rattle.abstract_port.specs.declared.Dropped.{Dropped}
use Rattle.stream_bounds.specs.Classes.{class_of, dropped_of}
use Rattle.traffic.specs.declared.table.Stream.{Stream}
use Rattle.path_bounds.specs.Hops.{coming_of, first_span}
use Rattle.path_bounds.specs.declared.hop.Coming.{Coming}
use Rattle.path_bounds.specs.declared.hop.Coming.TheVariants as Comings
use Rattle.path_bounds.specs.declared.hop.Hop.{Hop}
use Rattle.path_bounds.specs.declared.hop.PathPort.{PathPort}
use Rattle.path_bounds.specs.declared.start.WayHop.{WayHop}

-- the class of a stream's frames at a port, where it doesn't drop each
abbrev pub taken_class : Result ℕ Dropped → Option ℕ
taken_class (Ok class) = Some class
taken_class (Err why) = None

abbrev pub class_at : PathPort → Stream → Option ℕ
class_at p x = taken_class (class_of p.settings p.change x)

-- when frames come that no port before drops: where the port drops some of them, that is not known of the others
abbrev pub begun : PathPort → WayHop → Coming
begun p h =
    if is_some (dropped_of p.settings p.change h.stream) then Comings.Unknown
    else if h.first then coming_of h.stream (first_span h.stream p.since) else Comings.Awaited

abbrev pub hop_of : PathPort → WayHop → (never : Bool) → Hop
hop_of p h never = record {
  stream = h.stream;
  number = h.number;
  first = h.first;
  port = h.port;
  class = class_at p h.stream;
  least = h.least;
  greatest = h.greatest;
  coming = if never then Comings.Never else begun p h;
  bound = None;
}

-- whether none comes to the hop behind
abbrev pub never_behind : (never : Bool) → Hop → Bool
never_behind never h = never || not (is_some h.class)

-- a hop before the others, where its port is there
abbrev pub with_port : Option PathPort → WayHop → (never : Bool) → (Bool → List Hop) → List Hop
with_port None h never behind = behind never
with_port (Some p) h never behind =
    hop_of p h (never && not h.first) ∷ behind (never_behind (never && not h.first) (hop_of p h (never && not h.first)))

-- all of them, where none comes to the first or not, unless it is one of a talker
unfoldable pub start_hops : List PathPort → (never : Bool) → List WayHop → List Hop
start_hops ports never [] = []
start_hops ports never (h ∷ hs) = with_port (slice_get ports h.port) h never (λ never. start_hops ports never hs)
