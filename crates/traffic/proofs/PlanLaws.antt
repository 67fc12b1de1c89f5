-- Streams that are kept by a plan.
use Rattle.std.proofs.Common.{◌≡◌, ◌+◌, ◌-◌, ◌*◌, ◌^◌, Bool, true, false, cond, leb, Result, Ok, Err, refl, arith}
use Rattle.script.specs.declared.faults.ScriptFault.{ScriptFault}
use Rattle.script.specs.declared.faults.ScriptFault.TheVariants.{BadNumber, ClockTooLate}
use Rattle.wire_time.specs.Moment.{greatest_moment}
use Rattle.traffic.specs.Plan.{ends_in_time}
use Rattle.traffic.specs.Words.{IsKept, IsStream, Plan, Stream, greatest_offset, has_ids, judged}

-- their frames can be frames of a script
pub kept_fits : (plan : Plan) (s : Stream) → IsKept (judged plan) s → IsStream plan s
kept_fits plan s is = by_tests (has_ids s) (ends_in_time plan s) refl refl is.kept
  where
    by_tests : (t u : Bool) → has_ids s ≡ t → ends_in_time plan s ≡ u → ◌≡◌ {A = Result Stream ScriptFault} (cond t (cond u (Ok s) (Err ClockTooLate)) (Err BadNumber)) (Ok s) → IsStream plan s
    by_tests false u e f g = absurd cc
    by_tests true false e f g = absurd cc
    by_tests true true e f g =
        let ids : leb (s.first_id + s.count) (2 ^ 64) ≡ true = e in
        let ends : leb (plan.from + greatest_offset plan.timing s + s.jitter + s.period * (s.count - 1)) greatest_moment ≡ true = f in
        record { ids = grind (arith, ids); ends = grind (arith, ends); lengths = is.said.lengths; period = is.said.times.period }
