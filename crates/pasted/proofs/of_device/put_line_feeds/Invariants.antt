use Rattle.std.proofs.Common.{◌≡◌, ◌++◌, drop}
use Rattle.pasted.specs.Device.{line_feeds}
use Rattle.pasted.proofs.of_device.put_line_feeds.Given as goal

abbrev pub invariant-loop-octet : goal.invariant-loop-octet
invariant-loop-octet g l = l.initial.out.items ++ line_feeds l.octets ≡ l.out.items ++ line_feeds (drop l.octet-index l.octets)
