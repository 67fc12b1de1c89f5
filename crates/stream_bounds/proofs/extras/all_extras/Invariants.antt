use Rattle.std.proofs.Common.{◌≡◌, ℕ, Some, length}
use Rattle.std.specs.Prelude.{slice_get}
use Rattle.stream_bounds.specs.Answers.{IsExtra}
use Rattle.stream_bounds.specs.declared.extras.Extra.{Extra}
use Rattle.traffic.specs.declared.table.Stream.{Stream}
use Rattle.stream_bounds.proofs.extras.all_extras.Given as goal

-- what else is told of the streams before a place is there
abbrev pub invariant-loop-place : goal.invariant-loop-place
invariant-loop-place l = record {
  count : length l.extras.items ≡ l.place;
  each : (place : ℕ) (x : Stream) (extra : Extra) → slice_get l.streams place ≡ Some x → slice_get l.extras.items place ≡ Some extra
      → IsExtra l.case.settings.now l.case.change.now l.case.table.now l.case.above.now l.streams l.case.class l.own place x extra;
}
