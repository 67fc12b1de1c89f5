use Rattle.std.proofs.Common.{◌≡◌, drop}
use Rattle.network.specs.Lines.{via_from, via_in}
use Rattle.network.proofs.network_table.via.via_in.Given as goal

abbrev pub invariant-loop-place : goal.invariant-loop-place
invariant-loop-place l = via_from l.place l.behind_blank (drop l.place l.octets) ≡ via_in l.octets
