-- The ways of a network's streams: one port after another, with the times of the links between them.
use Rattle.std.specs.Prelude.{ℕ, ◌≡◌, ◌+◌, ◌-◌, ◌^◌, ◌==◌, ◌&&◌, nat_lt, nat_le, not, min, Bool, true, false, List, [], ◌∷◌, ◌++◌, Option, Some, None, is_some, if◌then◌else◌}
use Rattle.wire_time.specs.Moment.{greatest_moment}
use Rattle.network.specs.Network.{Net, first_of, part}
use Rattle.network.specs.declared.network_table.contents.NetworkLink.{NetworkLink}
use Rattle.network.specs.declared.network_table.contents.NetworkStream.{NetworkStream}
use Rattle.traffic.specs.Table.{earliest}
use Rattle.traffic.specs.declared.table.Stream.{Stream}
use Rattle.path_bounds.specs.declared.start.WayHop.{WayHop}
use Rattle.paths.specs.declared.ways.LinkTimes.{LinkTimes}

-- 1. Links

-- the times of a link, if it is one from a port to another
abbrev pub times_of : (from to : ℕ) → NetworkLink → Option LinkTimes
times_of from to l = if (l.from == from) && (l.to == to) then Some (record { least = l.least; greatest = l.greatest }) else None

-- in front of the first port there is no link
abbrev pub no_times : LinkTimes
no_times = record { least = 0; greatest = 0 }

abbrev pub or_none : Option LinkTimes → LinkTimes
or_none None = no_times
or_none (Some times) = times

abbrev pub times_by : List NetworkLink → (before : Option ℕ) → (to : ℕ) → LinkTimes
times_by links None to = no_times
times_by links (Some from) to = or_none (first_of (times_of from to) links)

-- 2. Ways

-- a number as one of 32 bits; that of a port or a stream is one
abbrev pub short : ℕ → ℕ
short n = min n (2 ^ 32 - 1)

abbrev pub way_hop : Stream → (number : ℕ) → (before : Option ℕ) → (port : ℕ) → LinkTimes → WayHop
way_hop x number before port times = record {
  stream = x;
  number = number;
  first = not (is_some before);
  port = short port;
  least = times.least;
  greatest = times.greatest;
}

module _ (links : List NetworkLink) (x : Stream) (number : ℕ) where
  -- the ports of a way, behind others
  unfoldable pub way_from : (before : Option ℕ) → List WayHop → List ℕ → List WayHop
  way_from before kept [] = kept
  way_from before kept (port ∷ ports) =
      way_from (Some port) (kept ++ way_hop x number before port (times_by links before port) ∷ []) ports

-- a stream without a way crosses the one port
abbrev pub way_of : List ℕ → List ℕ
way_of [] = 0 ∷ []
way_of (port ∷ ports) = port ∷ ports

-- the frames of a stream come one after another, and its times are no later than the greatest moment; those of each that is read are
abbrev pub is_periodic : Stream → Bool
is_periodic x = (nat_lt 0 x.period && nat_le x.period greatest_moment) && (nat_le (earliest x) greatest_moment && nat_le x.jitter greatest_moment)

module _ (net : Net) where
  abbrev pub ways_with : Bool → NetworkStream → (number : ℕ) → List WayHop → List WayHop
  ways_with true s number kept = way_from net.links s.stream number None kept (way_of (part net.ways s.begin s.hops))
  ways_with false s number kept = kept

  -- the ways of streams from one on, behind others
  unfoldable pub ways_from : (number : ℕ) → List WayHop → List NetworkStream → List WayHop
  ways_from number kept [] = kept
  ways_from number kept (s ∷ streams) =
      ways_from (short (number + 1)) (ways_with (is_periodic s.stream) s number kept) streams

  abbrev pub ways_in : List WayHop
  ways_in = ways_from 0 [] net.streams
