-- Streams that a capture can have, and their frames.
use Rattle.std.proofs.Common.{◌≡◌, ℕ, ◌+◌, ◌-◌, ◌*◌, ◌^◌, ◌<◌, ◌≤◌, Bool, true, false, cond, List, [], ◌∷◌, Option, Some, None, Result, Ok, Err, refl, sym, ap, ap₂, ◌∙◌, subst, arith}
use Rattle.std.specs.Prelude.{◌&&◌, ◌||◌, not, nat_le, nat_lt, unwrap_or, All}
use Rattle.std.specs.List.{AllByRecursion}
use Rattle.std.proofs.lemmas.Bool.{le-leb, leb-true, ltb-true}
use Rattle.std.proofs.lemmas.List.Elements.{All-weaker, recursion_from_All}
use Rattle.wire_time.specs.Moment.{greatest_moment}
use Rattle.capture.specs.declared.writer.TheConstants.{CAPTURE_END}
use Rattle.script.specs.declared.faults.ScriptFault.{ScriptFault}
use Rattle.script.specs.declared.faults.ScriptFault.TheVariants.{BadNumber, ClockTooLate}
use Rattle.traffic.specs.Draws.{draw, value}
use Rattle.traffic.specs.Frames.{frame_after, length_drawn}
use Rattle.traffic.specs.Plan.{IsKept, course_by, courses_from, ends_in_time as ends_in_script, greatest_offset, greatest_unknown, judged, offset_or, plan_frames}
use Rattle.traffic.specs.Table.{earliest, has_ids}
use Rattle.traffic.specs.declared.course.Course.{Course}
use Rattle.traffic.specs.declared.plan.Plan.{Plan}
use Rattle.traffic.specs.declared.plan.Timing.{Timing}
use Rattle.traffic.specs.declared.plan.Timing.TheVariants.{Drawn, Earliest, Latest}
use Rattle.traffic.specs.declared.table.Stream.{Stream}
use Rattle.traffic.proofs.CourseLaws.{draw_within, length_drawn_within, moment_by_end}
use Rattle.table_capture.specs.Carried.{AreCarried, IsCarried, carried, ends_in_time, is_told}
use Rattle.table_capture.specs.Octets.{has_tag}
use Rattle.table_capture.proofs.FrameLaws.{each_in_turn, OfCourse}

-- ---- streams

-- a stream that a capture can have
pub record Fits (plan : Plan) (s : Stream) : Type 0 where
  pub ids : has_ids s ≡ true
  pub ends : plan.from + greatest_offset plan.timing s + s.jitter + s.period * (s.count - 1) < CAPTURE_END
  pub priority : s.priority < 8
  pub told : has_tag s.tagged s.priority ≡ true → 18 ≤ s.shortest
  pub lengths : s.shortest ≤ s.len

-- it is told
told_by : (t : Bool) (shortest : ℕ) → (not t || nat_le 18 shortest) ≡ true → t ≡ true → 18 ≤ shortest
told_by true shortest e f = leb-true 18 shortest e
told_by false shortest e f = absurd cc

both : (t u : Bool) → (t && u) ≡ true → (t ≡ true) × (u ≡ true)
both true true e = (refl, refl)
both true false e = absurd cc
both false u e = absurd cc

pub fits : (plan : Plan) (s r : Stream) → s.shortest ≤ s.len → carried plan s ≡ Ok r → Fits plan s × (s ≡ r)
fits plan s r lengths e = by_tests (has_ids s && is_told s) (ends_in_time plan s) refl refl e
  where
    by_tests : (t u : Bool) → (has_ids s && is_told s) ≡ t → ends_in_time plan s ≡ u → ◌≡◌ {A = Result Stream ScriptFault} (cond t (cond u (Ok s) (Err ClockTooLate)) (Err BadNumber)) (Ok r) → Fits plan s × (s ≡ r)
    by_tests false u e f g = absurd cc
    by_tests true false e f g = absurd cc
    by_tests true true e f g =
        let ids = both (has_ids s) (is_told s) e in
        let told = both (nat_lt s.priority 8) (not (has_tag s.tagged s.priority) || nat_le 18 s.shortest) ids.1 in (
          record {
            ids = ids.0;
            ends = ltb-true (plan.from + greatest_offset plan.timing s + s.jitter + s.period * (s.count - 1)) CAPTURE_END f;
            priority = ltb-true s.priority 8 told.0;
            told = told_by (has_tag s.tagged s.priority) s.shortest told.1;
            lengths = lengths;
          },
          cc,
        )

kept_fits : (plan : Plan) (s : Stream) → IsKept (carried plan) s → Fits plan s
kept_fits plan s is = (fits plan s s is.said.lengths is.kept).0

-- it can be a script's, too
kept_judged : (plan : Plan) (s : Stream) → IsKept (carried plan) s → IsKept (judged plan) s
kept_judged plan s is =
    let fit = kept_fits plan s is in
    let last = plan.from + greatest_offset plan.timing s + s.jitter + s.period * (s.count - 1) in
    let ends : ends_in_script plan s ≡ true = le-leb last greatest_moment (let less : last < CAPTURE_END = fit.ends in omega (arith, less)) in
    let by : Bool → Bool → Result Stream ScriptFault = λ t u. cond t (cond u (Ok s) (Err ClockTooLate)) (Err BadNumber) in
    let good : judged plan s ≡ Ok s = ap₂ by fit.ids ends in
    record { said = is.said; kept = good }

pub all_judged : (plan : Plan) (streams : List Stream) → All (IsKept (carried plan)) streams → All (IsKept (judged plan)) streams
all_judged plan streams are = All-weaker (IsKept (carried plan)) (IsKept (judged plan)) (kept_judged plan) streams are

-- ---- their frames

-- the frames of a stream are at least as long as the shortest
length_drawn_least : (seed : Option ℕ) (k shortest len : ℕ) → shortest ≤ len → shortest ≤ length_drawn seed k shortest len
length_drawn_least None k shortest len le = le
length_drawn_least (Some seed) k shortest len le = omega arith

-- the frames of a stream that a capture can have
record Runs (c : Course) : Type 0 where
  ends : c.first + c.jitter + c.period * (c.count - 1) < CAPTURE_END
  priority : c.priority < 8
  told : has_tag c.tagged c.priority ≡ true → 18 ≤ c.shortest
  lengths : c.shortest ≤ c.len

one_carried : (c : Course) → Runs c → OfCourse IsCarried c
one_carried c is j less = record {
  moment = (let within = moment_by_end (CAPTURE_END - 1) c (omega (arith, is.ends)) j less in omega (arith, within));
  priority = is.priority;
  told = λ tag. let long = length_drawn_least c.seed j c.shortest c.len is.lengths in let most = is.told tag in omega (arith, long, most);
}

offset_within : (seed key : ℕ) (offset : Option ℕ) (period : ℕ) → offset_or (draw key 0 (period - 1)) offset ≤ offset_or (greatest_unknown (Drawn seed) period) offset
offset_within seed key None period = draw_within key 0 (period - 1)
offset_within seed key (Some offset) period = omega arith

earliest_within : (timing : Timing) (s : Stream) → earliest s ≤ greatest_offset timing s
earliest_within timing s = by_offset s.offset
  where
    by_offset : (offset : Option ℕ) → unwrap_or offset 0 ≤ offset_or (greatest_unknown timing s.period) offset
    by_offset None = omega arith
    by_offset (Some o) = omega arith

runs : (timing : Timing) (from place : ℕ) (s : Stream) → Fits (record { from = from; timing = timing }) s → Runs (course_by timing from place s)
runs Earliest from place s fit =
    let le = earliest_within Earliest s in
    record { ends = omega (arith, le, fit.ends); priority = fit.priority; told = λ tag. (let short = fit.told tag in omega (arith, short, fit.lengths)); lengths = omega arith }
runs Latest from place s fit =
    let le = earliest_within Latest s in
    record { ends = omega (arith, le, fit.ends); priority = fit.priority; told = λ tag. (let short = fit.told tag in omega (arith, short, fit.lengths)); lengths = omega arith }
runs (Drawn seed) from place s fit =
    let le = offset_within seed (value seed place) s.offset s.period in
    record { ends = omega (arith, le, fit.ends); priority = fit.priority; told = fit.told; lengths = fit.lengths }

all_run : (plan : Plan) (place : ℕ) (streams : List Stream) → AllByRecursion (Fits plan) streams → AllByRecursion (OfCourse IsCarried) (courses_from plan place streams)
all_run plan place [] are = tt
all_run plan place (s ∷ streams) are =
    (one_carried (course_by plan.timing plan.from place s) (runs plan.timing plan.from place s are.0), all_run plan (place + 1) streams are.1)

-- the frames of streams that a capture can have
pub frames_carried : (plan : Plan) (streams : List Stream) → AllByRecursion (Fits plan) streams → AreCarried (plan_frames plan streams)
frames_carried plan streams are = each_in_turn IsCarried (courses_from plan 0 streams) (all_run plan 0 streams are)

pub kept_carried : (plan : Plan) (streams : List Stream) → All (IsKept (carried plan)) streams → AreCarried (plan_frames plan streams)
kept_carried plan streams are =
    frames_carried plan streams (recursion_from_All (Fits plan) streams (All-weaker (IsKept (carried plan)) (Fits plan) (kept_fits plan) streams are))
