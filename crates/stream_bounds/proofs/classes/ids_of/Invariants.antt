use Rattle.std.proofs.Common.{◌≡◌, ◌++◌, drop, map}
use Rattle.traffic.specs.declared.table.Stream.{Stream}
use Rattle.stream_bounds.proofs.classes.ids_of.Given as goal

abbrev pub invariant-loop-stream : goal.invariant-loop-stream
invariant-loop-stream g l = record { found : l.ids.items ++ map (λ (x : Stream). x.first_id) (drop l.stream-index l.streams) ≡ map (λ (x : Stream). x.first_id) l.streams }
