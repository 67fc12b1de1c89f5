use Rattle.std.proofs.Common.{◌≡◌, ◌<◌, ◌+◌, None, drop, get_or, length}
use Rattle.std.specs.Prelude.{slice_set}
use Rattle.traffic.proofs.TournamentLaws.{AllBut}
use Rattle.traffic.proofs.tournament.climb.Given as goal

abbrev pub invariant-up : goal.invariant-up
invariant-up l = record {
  long : length l.nodes ≡ length l.fn.nodes;
  leaves : drop l.fn.streams l.nodes ≡ slice_set (drop l.fn.streams l.fn.nodes) l.fn.place l.fn.head;
  inner : AllBut l.fn.streams l.nodes l.at;
  here : l.head ≡ get_or l.nodes l.at None;
  low : 0 < l.at;
  high : l.at < l.fn.streams + l.fn.streams;
}

abbrev pub decreases-up : goal.decreases-up
decreases-up l = l.at
