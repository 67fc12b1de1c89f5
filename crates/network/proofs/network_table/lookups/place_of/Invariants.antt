use Rattle.std.proofs.Common.{◌≡◌, drop}
use Rattle.network.specs.Network.{place_from}
use Rattle.network.proofs.network_table.lookups.place_of.Given as goal

abbrev pub invariant-loop-other : goal.invariant-loop-other
invariant-loop-other l = record {
  place : l.place ≡ l.other-index;
  found : place_from l.place l.name (drop l.other-index l.names) ≡ place_from 0 l.name l.names;
}
