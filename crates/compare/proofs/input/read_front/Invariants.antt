use Rattle.std.proofs.Common.{◌-◌, ◌≤◌, vec_len}
use Rattle.compare.proofs.FrontLaws.{Ahead}
use Rattle.compare.proofs.input.read_front.Given as goal

abbrev pub invariant-octets : goal.invariant-octets
invariant-octets g l = record {
  few : vec_len l.front ≤ 4;
  ahead : Ahead (g.R.Read.remaining l.fn.reader) l.front.items (g.R.Read.remaining l.reader);
}

abbrev pub decreases-octets : goal.decreases-octets
decreases-octets g l = 4 - vec_len l.front
