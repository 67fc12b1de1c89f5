use Rattle.std.proofs.Common.{◌≡◌, ◌++◌, All, drop}
use Rattle.std.specs.List.{filter}
use Rattle.stream_bounds.specs.Classes.{IsPeriodic, class_of, is_class, streams_of}
use Rattle.traffic.specs.declared.table.Stream.{Stream}
use Rattle.stream_bounds.proofs.classes.streams_of.Given as goal

abbrev pub invariant-loop-stream : goal.invariant-loop-stream
invariant-loop-stream g l = record {
  found : l.own.items ++ filter (λ (x : Stream). is_class l.class (class_of l.settings l.change x)) (drop l.stream-index l.streams) ≡ streams_of l.settings l.change l.class l.streams;
  periodic : All IsPeriodic l.own.items;
}
