use Rattle.std.proofs.Common.{◌≡◌, drop}
use Rattle.network.specs.Network.{first_of, link_line, link_line_of}
use Rattle.network.proofs.network_table.lookups.link_line.Given as goal

abbrev pub invariant-loop-link : goal.invariant-loop-link
invariant-loop-link l = first_of (link_line_of l.from l.to) (drop l.link-index l.links) ≡ link_line l.from l.to l.links
