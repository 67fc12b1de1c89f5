use Rattle.std.proofs.Common.{◌≡◌, drop}
use Rattle.network.specs.Network.{first_of}
use Rattle.paths.specs.Ways.{times_of}
use Rattle.paths.proofs.ways.link_times.Given as goal

abbrev pub invariant-loop-link : goal.invariant-loop-link
invariant-loop-link l = first_of (times_of l.from l.to) (drop l.link-index l.links) ≡ first_of (times_of l.from l.to) l.links
