-- What is told of a port, and of the streams of a class there, as a class of a network's port.
--
-- Times are in picoseconds.
use Rattle.std.specs.Prelude.{◌≡◌, ◌<◌, ◌≤◌, ℕ, ◌-◌, ◌^◌, true, List, [], ◌∷◌, None, is_some, Ok, if◌then◌else◌}
use Rattle.abstract_port.specs.AbstractPort.{plan_asked}
use Rattle.delay_bounds.specs.declared.Bound.{Bound}
use Rattle.stream_bounds.specs.Classes.{class_of, dropped_of}
use Rattle.traffic.specs.declared.table.Stream.{Stream}
use Rattle.path_bounds.specs.Hops.{is_counted, moved}
use Rattle.path_bounds.specs.declared.hop.Coming.TheVariants as Comings
use Rattle.path_bounds.specs.declared.hop.Hop.{Hop}
use Rattle.path_bounds.specs.declared.hop.PathPort.{PathPort}
use Rattle.path_bounds.specs.declared.hop.Span.{Span}
use Rattle.claims.specs.Network.{Hop as NetworkHop, Network, NetworkPort, NetworkStream}
use Rattle.path_claim.specs.Windows.{longest_wait}

-- 1. One by one

abbrev pub port_told : PathPort → NetworkPort
port_told p = record {
  ps = p.settings.port.rate;
  mtu = p.settings.port.mtu;
  room = p.settings.port.room;
  plan = plan_asked p.change;
  since = p.since;
}

-- The nominal moments of a known offset are exact: the jitter of such a stream is in the windows of its frames.
abbrev pub stream_told : Stream → NetworkStream
stream_told x = record {
  shortest = x.shortest;
  longest = x.len;
  period = x.period;
  jitter = if is_some x.offset then 0 else x.jitter;
  offset = x.offset;
}

-- bounds that count from when a window begins
abbrev pub bound_told : Stream → Span → Bound → Bound
bound_told x s b = record { least = b.least; greatest = longest_wait x s b }

-- 2. A class

-- A port takes all frames of a stream into a class, and they come one after another.
pub record IsTaken (p : PathPort) (class : ℕ) (x : Stream) : Type 0 where
  pub to : class_of p.settings p.change x ≡ Ok class
  pub none : dropped_of p.settings p.change x ≡ None
  pub above : 0 < x.period
  pub lengths : x.shortest ≤ x.len

module _ (net : Network) (p : PathPort) (class : ℕ) where
  -- A hop of a network is one of which is told, with these bounds. Its window is counted, and its greatest bound isn't cut off.
  pub record IsHopTold (a : NetworkHop) (h : Hop) (b : Bound) : Type 0 where
    pub taken : IsTaken p class h.stream
    pub span : Span
    pub coming : h.coming ≡ Comings.Within span
    pub counted : is_counted (moved h.stream span) ≡ true
    pub whole : b.greatest < 2 ^ 128 - 1
    pub stream : net.streams a.stream ≡ stream_told h.stream
    pub earliest : a.earliest ≡ span.earliest
    pub latest : a.latest ≡ span.latest
    pub bound : a.bound ≡ bound_told h.stream span b

  -- so are all hops of the class, in their order
  abbrev pub AreHopsTold : List NetworkHop → List Hop → List Bound → Type 0
  AreHopsTold [] [] [] = Unit {0}
  AreHopsTold (a ∷ those) (h ∷ hops) (b ∷ bounds) = IsHopTold a h b × AreHopsTold those hops bounds
  AreHopsTold _ _ _ = ⊥
