-- What is written for a table without a fault is a capture of its frames.
use Rattle.std.proofs.Common.{◌≡◌, ℕ, zero, suc, ◌+◌, ◌-◌, ◌^◌, ◌<◌, ◌≤◌, Bool, true, false, cond, List, [], ◌∷◌, ◌++◌, length, map, Option, Some, None, Result, Ok, Err, refl, sym, ap, ◌∙◌, subst, arith, append_assoc, append-nil}
use Rattle.std.specs.Prelude.{codes}
use Rattle.std.specs.Str.{bytes_eq}
use Rattle.std.specs.List.{AllByRecursion}
use Rattle.text.specs.Script.{Script, End, Broken, Line, script_of}
use Rattle.text.specs.Words.{words_of}
use Rattle.capture.specs.CaptureWriter.{written_format}
use Rattle.capture.specs.Captures.{IsCapture}
use Rattle.capture.specs.Layout.{IsSpelling}
use Rattle.capture.specs.declared.format.TheConstants.{MAX_RECORDS}
use Rattle.capture.specs.declared.reader.End.TheVariants.{Whole}
use Rattle.script.specs.Requests.{is_comment}
use Rattle.script.specs.declared.faults.ScriptFault.{ScriptFault}
use Rattle.script.specs.declared.faults.ScriptFault.TheVariants.{UnknownLine}
use Rattle.traffic.specs.Frames.{frame_after}
use Rattle.traffic.specs.Plan.{course_by, courses_from, plan_frames}
use Rattle.traffic.specs.Room.{IsCount, counted_in, counted_line, counted_with, frame_count}
use Rattle.traffic.specs.Table.{Table, in_line, judged_line, line_judged, stream_said, table_by, with_line}
use Rattle.traffic.specs.declared.course.Coming.{Coming}
use Rattle.traffic.specs.declared.course.Course.{Course}
use Rattle.traffic.specs.declared.frame_count.FrameCount.{FrameCount}
use Rattle.traffic.specs.declared.frame_count.FrameCount.TheVariants.{Few, Many}
use Rattle.traffic.specs.declared.plan.Plan.{Plan}
use Rattle.traffic.specs.declared.plan.Timing.{Timing}
use Rattle.traffic.specs.declared.plan.Timing.TheVariants.{Drawn, Earliest, Latest}
use Rattle.traffic.specs.declared.table.Stream.{Stream}
use Rattle.traffic.proofs.ComingLaws.{IsSmall, Small, said_small}
use Rattle.traffic.proofs.CountedLaws.{count_more, counted_by_moment}
use Rattle.traffic.proofs.CourseLaws.{length_drawn_within}
use Rattle.table_capture.specs.Carried.{AreCarried, carried}
use Rattle.table_capture.specs.Law.{CaptureLaw, frames_in, read_record}
use Rattle.table_capture.specs.Outcome.{outcome_of, outcome_unless, table_of}
use Rattle.table_capture.proofs.CarriedLaws.{Fits, fits, frames_carried}
use Rattle.table_capture.proofs.FrameLaws.{OfCourse, each_in_turn}
use Rattle.table_capture.proofs.ReadLaws.{IsShort, capture_read, frame_read}

-- ---- the streams of a table

record Good (plan : Plan) (s : Stream) : Type 0 where
  fit : Fits plan s
  len : s.len < 2 ^ 32

abbrev IsJudged : Plan → Result Stream ScriptFault → Type 0
IsJudged plan (Ok s) = Good plan s
IsJudged plan (Err fault) = Unit {0}

judged_good : (plan : Plan) (s : Stream) → Small s → IsJudged plan (carried plan s)
judged_good plan s small = by_result (carried plan s) refl
  where
    by_result : (r : Result Stream ScriptFault) → carried plan s ≡ r → IsJudged plan r
    by_result (Ok r) e = (let fit = fits plan s r small.lengths e in subst (Good plan) fit.1 (record { fit = fit.0; len = small.len }))
    by_result (Err fault) e = tt

abbrev IsJudgedLine : Plan → Result (Option Stream) ScriptFault → Type 0
IsJudgedLine plan (Ok None) = Unit {0}
IsJudgedLine plan (Ok (Some s)) = Good plan s
IsJudgedLine plan (Err fault) = Unit {0}

in_line_judged : (plan : Plan) (r : Result Stream ScriptFault) → IsJudged plan r → IsJudgedLine plan (in_line r)
in_line_judged plan (Ok s) h = h
in_line_judged plan (Err fault) h = tt

stream_line : (plan : Plan) (r : Result Stream ScriptFault) → IsSmall r → IsJudgedLine plan (judged_line (carried plan) (in_line r))
stream_line plan (Ok s) h = in_line_judged plan (carried plan s) (judged_good plan s h)
stream_line plan (Err fault) h = tt

line_is_judged : (plan : Plan) (ws : List (List ℕ)) → IsJudgedLine plan (line_judged (carried plan) ws)
line_is_judged plan [] = tt
line_is_judged plan (w ∷ ws) = by_tests (is_comment w) (bytes_eq w (codes "stream"))
  where
    by_tests : (t u : Bool) → IsJudgedLine plan (judged_line (carried plan) (cond t (Ok None) (cond u (in_line (stream_said ws)) (Err UnknownLine))))
    by_tests true u = tt
    by_tests false true = stream_line plan (stream_said ws) (said_small ws)
    by_tests false false = tt

with_line_good : (plan : Plan) (number : ℕ) (r : Result (Option Stream) ScriptFault) (rest : Table) → IsJudgedLine plan r → AllByRecursion (Good plan) rest.streams
    → AllByRecursion (Good plan) (with_line number r rest).streams
with_line_good plan number (Ok None) rest h g = g
with_line_good plan number (Ok (Some s)) rest h g = (h, g)
with_line_good plan number (Err fault) rest h g = tt

table_good : (plan : Plan) (script : Script) → AllByRecursion (Good plan) (table_of plan script).streams
unfolding table_by
table_good plan End = tt
table_good plan (Broken number limit) = tt
table_good plan (Line number octets rest) =
    with_line_good plan number (line_judged (carried plan) (words_of octets)) (table_of plan rest) (line_is_judged plan (words_of octets)) (table_good plan rest)

all_fit : (plan : Plan) (streams : List Stream) → AllByRecursion (Good plan) streams → AllByRecursion (Fits plan) streams
all_fit plan [] are = tt
all_fit plan (s ∷ streams) are = (are.0.fit, all_fit plan streams are.1)

-- ---- their frames have lengths of 32 bits

same_len : (timing : Timing) (from place : ℕ) (s : Stream) → s.shortest ≤ s.len → ((course_by timing from place s).len ≡ s.len) × ((course_by timing from place s).shortest ≤ s.len)
same_len Earliest from place s le = (refl, omega arith)
same_len Latest from place s le = (refl, omega arith)
same_len (Drawn seed) from place s le = (refl, le)

short_course : (plan : Plan) (place : ℕ) (s : Stream) → Good plan s → OfCourse IsShort (course_by plan.timing plan.from place s)
short_course plan place s good j less =
    let c = course_by plan.timing plan.from place s in
    let len = same_len plan.timing plan.from place s good.fit.lengths in
    let within = length_drawn_within c.seed j c.shortest c.len (omega (arith, len)) in
    omega (arith, within, len, good.len)

all_short : (plan : Plan) (place : ℕ) (streams : List Stream) → AllByRecursion (Good plan) streams → AllByRecursion (OfCourse IsShort) (courses_from plan place streams)
all_short plan place [] are = tt
all_short plan place (s ∷ streams) are = (short_course plan place s are.0, all_short plan (place + 1) streams are.1)

-- ---- how many they are

module _ (judge : Stream → Result Stream ScriptFault) where
  with_fault : (number : ℕ) (fault : ScriptFault) (rest : Table) (X : Type 0) → (with_line number (Err fault) rest).fault ≡ None → X
  with_fault number fault rest X e = absurd cc

  abbrev AllCounted : Script → Type 0
  AllCounted script = (counted : FrameCount) (before : List Stream) → IsCount counted (frame_count before) → (table_by judge script).fault ≡ None
      → IsCount (counted_in judge counted script) (frame_count (before ++ (table_by judge script).streams))

  counted_line_all : (number : ℕ) (rest : Script) → AllCounted rest → (said : Result (Option Stream) ScriptFault) (counted : FrameCount) (before : List Stream) → IsCount counted (frame_count before)
      → (with_line number said (table_by judge rest)).fault ≡ None
      → IsCount (counted_in judge (counted_line number said counted) rest) (frame_count (before ++ (with_line number said (table_by judge rest)).streams))
  counted_line_all number rest all (Ok None) counted before is e = all counted before is e
  counted_line_all number rest all (Ok (Some s)) counted before is e =
      let more = count_more number counted (counted_with number s.count counted) before (before ++ s ∷ []) s refl refl is in
      subst (λ (xs : List Stream). IsCount (counted_in judge (counted_with number s.count counted) rest) (frame_count xs)) (append_assoc before (s ∷ []) (table_by judge rest).streams)
      (all (counted_with number s.count counted) (before ++ s ∷ []) more e)
  counted_line_all number rest all (Err fault) counted before is e = with_fault number fault (table_by judge rest) _ e

  -- of streams before a table, with those of the table
  counted_all : (script : Script) → AllCounted script
  unfolding table_by counted_in
  counted_all End counted before is e = subst (λ (xs : List Stream). IsCount counted (frame_count xs)) (sym (append-nil before)) is
  counted_all (Broken number limit) counted before is e = absurd cc
  counted_all (Line number octets rest) counted before is e = counted_line_all number rest (counted_all rest) (line_judged judge (words_of octets)) counted before is e

-- ---- the law

module _ (spelling : IsSpelling) (plan : Plan) (table : List ℕ) where
  abbrev said : Table
  said = table_of plan (script_of table)

  abbrev counted : FrameCount
  counted = counted_in (carried plan) (Few 0) (script_of table)

  good : AllByRecursion (Good plan) said.streams
  good = table_good plan (script_of table)

  whole_by : (fault : Option (ℕ × ScriptFault)) (count : FrameCount) → said.fault ≡ fault → counted ≡ count → (outcome_unless plan fault count said.streams).fault ≡ None
      → AreCarried (frames_in plan table) × IsCapture (outcome_unless plan fault count said.streams).text written_format (map read_record (frames_in plan table)) Whole
  whole_by (Some (number, fault)) count e f g = absurd cc
  whole_by None (Many line) e f g = absurd cc
  whole_by None (Few n) e f g =
      let all = counted_all (carried plan) (script_of table) (Few 0) [] (refl, omega arith) e in
      let few = counted_by_moment plan (Few n) said.streams (subst (λ c. IsCount c (frame_count said.streams)) f all) in
      let are = frames_carried plan said.streams (all_fit plan said.streams good) in
      let short = each_in_turn IsShort (courses_from plan 0 said.streams) (all_short plan 0 said.streams good) in
      (are, capture_read spelling (frames_in plan table) are short (omega (arith, few)))

  whole : (outcome_of plan table).fault ≡ None → AreCarried (frames_in plan table) × IsCapture (outcome_of plan table).text written_format (map read_record (frames_in plan table)) Whole
  whole e = whole_by said.fault counted refl refl e

pub capture_law : IsSpelling → CaptureLaw
capture_law spelling = record { whole = λ plan table. whole spelling plan table; frames = λ c is number. frame_read c is number }
