-- What is made of a network that is read is what the claim for it asks.
use Rattle.std.proofs.Common.{◌≡◌, ◌≤◌, ℕ, suc, All, false, List, length, Some, None, slice_get, sym, subst, arith}
use Rattle.any_traffic.proofs.ListLaws.{one_at}
use Rattle.network.specs.Network.{Net}
use Rattle.network.specs.declared.port_schedules.schedules.PortSchedule.{PortSchedule}
use Rattle.path_bounds.specs.declared.hop.PathPort.{PathPort}
use Rattle.path_bounds.specs.declared.start.WayHop.{WayHop}
use Rattle.paths.specs.Ports.{clocks_of, port_count}
use Rattle.paths.specs.Ways.{ways_in}
use Rattle.paths.specs.declared.ports.TheConstants.{MOST_NETWORK_PORTS}
use Rattle.path_claim.specs.Found.{FoundClaim}
use Rattle.path_claim.specs.Read.{IsRead, IsReadPort}
use Rattle.stream_bounds.specs.declared.settings.BoundsSettings.{BoundsSettings}
use Rattle.read_claim.specs.ReadClaim.{IsMade, MadeReadLaw, MadeWaysLaw, ReadClaim}
use Rattle.read_claim.proofs.NetLaws.{net_law}
use Rattle.read_claim.proofs.PortLaws.{IsSetup, ports_law}
use Rattle.read_claim.proofs.WayLaws.{IsAlong, IsHopBelow, all_at, along_all, along_next, hops_are, in_is, ways_few}

module _ (s : BoundsSettings) (is : IsSetup s.port) where
  module _ (octets : List ℕ) (net : Net) (kept : List PortSchedule) (ports : List PathPort) (made : IsMade s octets net kept ports) where
    all_ports : All IsReadPort ports × (length ports ≡ port_count net) × (port_count net ≤ MOST_NETWORK_PORTS)
    all_ports = ports_law s is net (net_law octets net made.read).0 kept ports made.made

    all_hops : All (IsHopBelow (port_count net)) (ways_in net)
    all_hops =
        let few = (all_ports).2 in
        hops_are net (net_law octets net made.read).0 (port_count net) (omega arith) (omega arith) (omega (arith, few))

    hop_there : (k : ℕ) (w : WayHop) → slice_get (ways_in net) k ≡ Some w → (p : PathPort) × (slice_get ports w.port ≡ Some p)
    hop_there k w e =
        let hop = all_at (IsHopBelow (port_count net)) (ways_in net) k w all_hops e in
        let less = hop.1 in
        let same = (all_ports).1 in
        one_at ports w.port (omega (arith, less, same))

    hop_along : (k : ℕ) (v w : WayHop) → slice_get (ways_in net) k ≡ Some v → slice_get (ways_in net) (suc k) ≡ Some w → w.first ≡ false
        → v.stream ≡ w.stream
    hop_along k v w one two first =
        along_next (ways_in net) k v w None
        (subst (λ (ws : List WayHop). IsAlong None ws) (sym (in_is net)) (along_all net net.streams 0 None)) one two first

    read_is : IsRead ports (clocks_of net.clocks) (ways_in net)
    read_is =
        let got = net_law octets net made.read in
        let spent = got.1 in
        let few = ways_few net in
        record {
          each_hop = λ k w e. (all_at (IsHopBelow (port_count net)) (ways_in net) k w all_hops e).0;
          each_port = λ k p e. all_at IsReadPort ports k p (all_ports).0 e;
          few = omega (arith, spent, few);
          differ = (got.0).clocks;
        }

  pub ways_law : MadeWaysLaw s
  ways_law octets net kept ports made =
      record { there = hop_there octets net kept ports made; along = hop_along octets net kept ports made }

  pub read_law : MadeReadLaw s
  read_law octets net kept ports made = read_is octets net kept ports made

pub read_claim : FoundClaim → (s : BoundsSettings) → MadeReadLaw s → MadeWaysLaw s → ReadClaim s
read_claim found s read ways octets net kept ports known made judged runs nominal run =
    found ports (clocks_of net.clocks) (ways_in net) known (read octets net kept ports made) (ways octets net kept ports made) judged runs nominal run
