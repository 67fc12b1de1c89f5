-- How long a frame of a stream needs the wire of a port.
use Rattle.std.proofs.Common.{◌≡◌, ◌≤◌, ℕ, ◌+◌, Some, slice_get, sym, ap, ◌∙◌, arith, le_refl}
use Rattle.std.proofs.lemmas.Nat.{mul-le}
use Rattle.std.proofs.lemmas.Option.{same_Some}
use Rattle.wire_time.specs.Wire.{occupancy_of, wire_octets}
use Rattle.abstract_port.specs.declared.Start.{Start}
use Rattle.abstract_port.specs.Traffic.{Came}
use Rattle.any_traffic.proofs.OwnStarts.{own_starts_law}
use Rattle.claims.specs.Network.{Hop, IsClassRun, IsLong, IsNumbered, Network, NetworkStream, PortRun, gap, offered_at, queued_at, started_at}
use Rattle.claims.specs.Promise.{need_at}

-- a longer frame needs it no shorter
pub need_rises : (ps a b : ℕ) → a ≤ b → occupancy_of ps a ≤ occupancy_of ps b
need_rises ps a b le =
    let octets : wire_octets a ≤ wire_octets b = omega (arith, le) in
    mul-le (wire_octets a) ps (wire_octets b) ps octets (le_refl ps)

-- a frame of a stream needs it at least as its shortest, and at most as its longest
pub need_of_stream : (net : Network) (port : ℕ) (s : NetworkStream) (f : Came) → IsLong s f
    → (need_at net port s.shortest ≤ need_at net port f.frame.len) × (need_at net port f.frame.len ≤ need_at net port s.longest)
need_of_stream net port s f long = (
  need_rises (net.ports port).ps s.shortest f.frame.len long.0,
  need_rises (net.ports port).ps f.frame.len s.longest long.1,
)

-- and never shorter than the gap
pub gap_within : (ps len : ℕ) → gap ps ≤ occupancy_of ps len
gap_within ps len =
    let octets : 12 ≤ wire_octets len = omega arith in
    mul-le 12 ps (wire_octets len) ps octets (le_refl ps)

-- a frame of a class that drops none ends when it has needed the wire for its own time
pub ended : (net : Network) (port class : ℕ) (r : PortRun) → IsClassRun net port class r
    → queued_at net port class r ≡ offered_at net port class r
    → (k i n : ℕ) (f : Came) (h : Hop) (x : Start) → IsNumbered net port class r k i n f h
    → slice_get (started_at net port class r) k ≡ Some x → (f.moment ≤ x.at) × (x.«end» ≡ x.at + need_at net port f.frame.len)
ended net port class r run all k i n f h x is e =
    let setup = net.ports port in
    let own = own_starts_law setup.ps setup.mtu setup.room class r.command setup.plan r.events run.run k x e in
    let there : slice_get (queued_at net port class r) k ≡ Some f = ap (λ xs. slice_get xs k) all ∙ is.came in
    let same : own.0 ≡ f = same_Some own.0 f (sym own.1 ∙ there) in
    let moment : (own.0).moment ≡ f.moment = ap (λ (y : Came). y.moment) same in
    let from = own.3 in (
      omega (arith, moment, from),
      ap (λ (y : Start). y.«end») own.2 ∙ ap (λ (g : Came). x.at + need_at net port g.frame.len) same,
    )
