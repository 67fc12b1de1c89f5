-- The claim for what is read of a network: what is found of it holds in every run of the network that is found.
use Rattle.std.specs.Prelude.{◌≡◌, ◌≤◌, ℕ, ◌+◌, true, false, List, Some, slice_get}
use Rattle.abstract_port.specs.declared.Start.{Start}
use Rattle.abstract_port.specs.Traffic.{Came}
use Rattle.path_bounds.specs.Judged.{AreJudged, Known, unjudged}
use Rattle.path_bounds.specs.Start.{start_hops}
use Rattle.path_bounds.specs.declared.hop.Hop.{Hop}
use Rattle.path_bounds.specs.declared.hop.PathPort.{PathPort}
use Rattle.path_bounds.specs.declared.start.WayHop.{WayHop}
use Rattle.claims.specs.Network.{IsNetworkRun, IsNumbered, Network, PortRun, started_at, zero_at}
use Rattle.claims.specs.NetworkClaim.{KeepsTime}
use Rattle.path_claim.specs.Built.{AreWays, IsInClass, network_of, place_of}
use Rattle.path_claim.specs.Ends.{EndsAsTold, first_end}
use Rattle.path_claim.specs.Read.{IsRead}

module _ (net : Network) (ports : List PathPort) (clocks : ℕ) (known : Known) (runs : ℕ → PortRun) (nominal : (stream n : ℕ) → ℕ) where
  -- Each class with bounds keeps time, and so the frames of each hop with a window and bounds end as is told of them: no sooner also where that
  -- is before the nominal moment.
  pub record IsKeptBy : Type 0 where
    pub keeps : (port class : ℕ) → net.judged port class ≡ true → KeepsTime net runs nominal port class
    pub ends : (k j n : ℕ) (h : Hop) (p : PathPort) (f : Came) → slice_get ports h.port ≡ Some p → (at : IsInClass net ports clocks known k h)
        → IsNumbered net h.port at.class (runs h.port) j (place_of known.hops h.port at.class k) n f at.hop
        → EndsAsTold net runs nominal h.port at.class j n p at.hop h (at.at).span (at.at).bound
    pub no_sooner : (k j n : ℕ) (h : Hop) (p : PathPort) (f : Came) (x : Start) → slice_get ports h.port ≡ Some p
        → (at : IsInClass net ports clocks known k h)
        → IsNumbered net h.port at.class (runs h.port) j (place_of known.hops h.port at.class k) n f at.hop
        → slice_get (started_at net h.port at.class (runs h.port)) j ≡ Some x
        → zero_at net runs h.port + nominal at.hop.stream n + first_end p h.stream (at.at).span (at.at).bound ≤ x.«end» + p.since

-- The claim: so it is in every run.
abbrev pub FoundClaim : Type 0
FoundClaim =
    (ports : List PathPort) (clocks : ℕ) (ways : List WayHop) (known : Known)
    → IsRead ports clocks ways → AreWays ports ways → AreJudged ports clocks (unjudged ports (start_hops ports false ways)) known
    → (runs : ℕ → PortRun) (nominal : (stream n : ℕ) → ℕ) → IsNetworkRun (network_of ports clocks known) runs nominal
    → IsKeptBy (network_of ports clocks known) ports clocks known runs nominal
