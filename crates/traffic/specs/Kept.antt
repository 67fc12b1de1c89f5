-- The streams of a table whose frames become a script, as they are kept.
use Rattle.std.specs.Prelude.{List, []}
use Rattle.traffic.specs.declared.plan.Plan.{Plan}
use Rattle.traffic.specs.declared.table.Stream.{Stream}

-- the streams, and what a run makes of them
pub record Keeping : Type 0 where
  pub streams : List Stream
  pub plan : Plan

-- none
abbrev pub nothing_kept : Plan → Keeping
nothing_kept plan = record { streams = []; plan = plan }
