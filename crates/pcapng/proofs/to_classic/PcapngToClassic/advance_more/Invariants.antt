use Rattle.std.proofs.Common.{◌≡◌, ◌≤◌, ◌-◌, length}
use Rattle.pcapng.specs.Classic.{step}
use Rattle.pcapng.specs.Steps.{GoesFrom}
use Rattle.pcapng.specs.Reader.{reading}
use Rattle.pcapng.proofs.to_classic.PcapngToClassic.advance_more.Given as goal

abbrev pub invariant-loop-at : goal.invariant-loop-at
invariant-loop-at g l = record {
  goes : GoesFrom step (reading l.fn.self) (reading l.self) l.octets l.is_last l.fn.first l.at l.fn.out.items l.out.items;
  bound : l.at ≤ length l.octets;
  some : l.fn.first ≤ l.at;
  header : l.self.has_header ≡ l.fn.self.has_header;
}

abbrev pub decreases-loop-at : goal.decreases-loop-at
decreases-loop-at g l = length l.octets - l.at
