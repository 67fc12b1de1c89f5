use Rattle.std.proofs.Common.{◌≡◌, All, None, drop}
use Rattle.stream_bounds.specs.Classes.{IsPeriodic}
use Rattle.paths.specs.Ways.{way_from}
use Rattle.paths.proofs.ways.put_way.Given as goal

-- those so far, and those to come
abbrev pub invariant-loop-port : goal.invariant-loop-port
invariant-loop-port l = record {
  so_far : way_from l.links l.stream l.number l.before l.kept.items (drop l.port-index l.ports)
      ≡ way_from l.links l.stream l.number None l.fn.kept.items l.ports;
  all : All (λ hop. IsPeriodic hop.stream) l.kept.items;
}
