use Rattle.std.proofs.Common.{◌≡◌, ◌-◌, ◌≤◌, length, drop}
use Rattle.pcapng.specs.Interfaces.{with_options}
use Rattle.pcapng.proofs.interface.with_options.Given as goal

abbrev pub invariant-loop-at : goal.invariant-loop-at
invariant-loop-at l = record {
  same : with_options l.endian l.fn.plain l.octets ≡ with_options l.endian l.interface (drop l.at l.octets);
  bound : l.at ≤ length l.octets;
}

abbrev pub decreases-loop-at : goal.decreases-loop-at
decreases-loop-at l = length l.octets - l.at
