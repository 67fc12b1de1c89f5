use Rattle.std.proofs.Common.{◌≡◌, None, drop}
use Rattle.network.specs.Network.{way_fault}
use Rattle.network.specs.Reads.{seen}
use Rattle.network.proofs.network_table.ends.way_fault.Given as goal

abbrev pub invariant-loop-hop : goal.invariant-loop-hop
invariant-loop-hop g l = way_fault (seen l.network) l.before (drop l.hop-index l.way) ≡ way_fault (seen l.network) None l.way
