use Rattle.std.proofs.Common.{◌≡◌, ◌++◌, drop}
use Rattle.std.specs.List.{flat_map}
use Rattle.traffic.specs.Words.{courses_from, frames_of, left_of}
use Rattle.traffic.proofs.kept.turns_of.Given as goal

abbrev pub invariant-streams : goal.invariant-streams
invariant-streams g l = record {
  place : l.place ≡ l.stream-index;
  left : flat_map left_of l.turns.items ++ flat_map frames_of (courses_from l.plan l.stream-index (drop l.stream-index l.streams)) ≡ flat_map frames_of (courses_from l.plan 0 l.streams);
}
