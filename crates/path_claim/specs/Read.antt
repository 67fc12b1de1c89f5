-- What is read of a network keeps all sums far from what 128 bits hold.
--
-- The readers of a network and of its options give so much of streams, links and ports. Times are in picoseconds.
use Rattle.std.specs.Prelude.{◌≡◌, ◌<◌, ◌≤◌, ℕ, ◌*◌, ◌^◌, false, List, Some, length, slice_get}
use Rattle.wire_time.specs.Moment.{greatest_moment}
use Rattle.wire_time.specs.declared.TheConstants.{MAX_MTU, MAX_PS_PER_OCTET, MIN_PS_PER_OCTET}
use Rattle.traffic.specs.Table.{IsSaid}
use Rattle.path_bounds.specs.Judged.{AreJudged, Known, unjudged}
use Rattle.path_bounds.specs.Start.{start_hops}
use Rattle.path_bounds.specs.declared.hop.PathPort.{PathPort}
use Rattle.path_bounds.specs.declared.start.WayHop.{WayHop}
use Rattle.path_claim.specs.Built.{AreWays}
use Rattle.path_claim.specs.Networks.{AreSmall}
use Rattle.path_claim.specs.Sent.{AreSent}

-- A stream is one that a line says, and has a period. Its lengths are numbers of 32 bits. The time of a link is one that a line says.
pub record IsReadHop (w : WayHop) : Type 0 where
  pub said : IsSaid w.stream
  pub period : 0 < w.stream.period
  pub len : w.stream.len < 2 ^ 32
  pub link : w.least ≤ greatest_moment

-- A port has a rate of those that there are, and an mtu within its limits. Its schedule is in force at moment zero for no longer than twice
-- the greatest moment: for that and a cycle at the most.
pub record IsReadPort (p : PathPort) : Type 0 where
  pub least : MIN_PS_PER_OCTET ≤ p.settings.port.rate
  pub rate : p.settings.port.rate ≤ MAX_PS_PER_OCTET
  pub mtu : p.settings.port.mtu ≤ MAX_MTU
  pub since : p.since ≤ 2 * greatest_moment

-- So it is with all ports and all hops of ways, of which there are no more than any memory holds; and clocks differ by a time that a line says.
pub record IsRead (ports : List PathPort) (clocks : ℕ) (ways : List WayHop) : Type 0 where
  pub each_hop : (k : ℕ) (w : WayHop) → slice_get ways k ≡ Some w → IsReadHop w
  pub each_port : (k : ℕ) (p : PathPort) → slice_get ports k ≡ Some p → IsReadPort p
  pub few : length ways ≤ 2 ^ 48
  pub differ : clocks ≤ greatest_moment

-- The laws: then frames of streams come one after another, and once classes are judged, no sum of what is told comes near what 128 bits hold.
abbrev pub ReadSentLaw : Type 0
ReadSentLaw = (ports : List PathPort) (clocks : ℕ) (ways : List WayHop) → IsRead ports clocks ways → AreSent ways

abbrev pub ReadSmallLaw : Type 0
ReadSmallLaw =
    (ports : List PathPort) (clocks : ℕ) (ways : List WayHop) (known : Known) → IsRead ports clocks ways → AreWays ports ways
    → AreJudged ports clocks (unjudged ports (start_hops ports false ways)) known → AreSmall ports clocks known
