use Rattle.std.proofs.Common.{◌≡◌, take}
use Rattle.network.proofs.network_table.name.Name.of.Given as goal

abbrev pub invariant-loop-octet : goal.invariant-loop-octet
invariant-loop-octet l = l.name ≡ take l.octet-index l.word
