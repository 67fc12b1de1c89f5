use Rattle.std.proofs.Common.{◌≡◌, All, drop}
use Rattle.network.specs.Reads.{seen}
use Rattle.stream_bounds.specs.Classes.{IsPeriodic}
use Rattle.paths.specs.Ways.{ways_from}
use Rattle.paths.proofs.ways.put_streams.Given as goal

-- those so far, and those to come
abbrev pub invariant-loop-stream : goal.invariant-loop-stream
invariant-loop-stream l = record {
  so_far : ways_from (seen l.network) l.number l.kept.items (drop l.stream-index l.streams) ≡ ways_from (seen l.network) 0 l.fn.kept.items l.streams;
  all : All (λ hop. IsPeriodic hop.stream) l.kept.items;
}
