-- The frames of a table have numbers in their ranges.
use Rattle.std.proofs.Common.{◌≡◌, ℕ, zero, suc, ◌+◌, ◌-◌, ◌*◌, ◌^◌, ◌<◌, ◌≤◌, Bool, true, false, eqb, leb, cond, List, [], ◌∷◌, ◌++◌, length, Option, Some, None, Result, Ok, Err, refl, arith}
use Rattle.std.specs.List.{flat_map}
use Rattle.std.specs.Prelude.{codes, unwrap_or}
use Rattle.std.specs.Str.{bytes_eq}
use Rattle.wire_time.specs.Moment.{greatest_moment}
use Rattle.text.specs.Times.{time_in}
use Rattle.text.specs.Numbers.{at_most, number_in, value_behind}
use Rattle.text.specs.Words.{words_of}
use Rattle.text.specs.Script.{Script, End, Broken, Line}
use Rattle.script.specs.Requests.{is_comment}
use Rattle.script.specs.declared.faults.ScriptFault.{ScriptFault}
use Rattle.script.specs.declared.faults.ScriptFault.TheVariants.{UnknownLine, BadNumber, ClockTooLate}
use Rattle.traffic.specs.Draws.{draw, value}
use Rattle.traffic.specs.Frames.{IsCourse, by_moment, frame_after, frames_after, frames_of, insert}
use Rattle.traffic.specs.Plan.{course_by, course_of, courses_from, ends_in_time, exact_course, greatest_offset, greatest_unknown, judged, offset_or, plan_frames, table_of}
use Rattle.traffic.specs.Merged.{AreComing, IsComing}
use Rattle.traffic.specs.Parts.{ends_in}
use Rattle.traffic.specs.Table.{Table, by_ends, by_number, by_offset, earliest, has_ids, in_line, judged_line, line_judged, no_longer, offset_in, shortest_of, stream_in_words, stream_said, table_by, with_line}
use Rattle.traffic.specs.declared.parts.Ends.{Ends}
use Rattle.traffic.specs.declared.table.Stream.{Stream}
use Rattle.traffic.specs.declared.course.Coming.{Coming}
use Rattle.traffic.specs.declared.course.Course.{Course}
use Rattle.traffic.specs.declared.plan.Plan.{Plan}
use Rattle.traffic.specs.declared.plan.Timing.{Timing}
use Rattle.traffic.specs.declared.plan.Timing.TheVariants.{Drawn, Earliest, Latest}
use Rattle.traffic.proofs.CourseLaws.{draw_within, length_drawn_within, moment_within}

-- ---- the numbers of a line

at_most_within : (most n : ℕ) (v : Option ℕ) → at_most most v ≡ Some n → n ≤ most
at_most_within most n None e = absurd cc
at_most_within most n (Some m) e = by_test (leb m most) refl e
  where
    by_test : (t : Bool) → leb m most ≡ t → ◌≡◌ {A = Option ℕ} (cond t (Some m) None) (Some n) → n ≤ most
    by_test true f g = (let same : m ≡ n = cc in grind (arith, f, same))
    by_test false f g = absurd cc

number_within : (base most n : ℕ) (word : List ℕ) → number_in base most word ≡ Some n → n ≤ most
number_within base most n word e = by_test (eqb (length word) 0) e
  where
    by_test : (t : Bool) → cond t None (at_most most (value_behind base 0 word)) ≡ Some n → n ≤ most
    by_test true g = absurd cc
    by_test false g = at_most_within most n (value_behind base 0 word) g

-- a stream whose priority and lengths are of their types
pub record Small (s : Stream) : Type 0 where
  pub priority : s.priority < 2 ^ 8
  pub len : s.len < 2 ^ 32
  pub lengths : s.shortest ≤ s.len

abbrev pub IsSmall : Result Stream ScriptFault → Type 0
IsSmall (Ok s) = Small s
IsSmall (Err fault) = Unit {0}

by_ends_small : (r : Result Ends ScriptFault) (f : Ends → Result Stream ScriptFault) → ((ends : Ends) → IsSmall (f ends)) → IsSmall (by_ends r f)
by_ends_small (Ok ends) f h = h ends
by_ends_small (Err fault) f h = tt

no_longer_within : (len shortest n : ℕ) → no_longer len shortest ≡ Some n → n ≤ len
no_longer_within len shortest n e = by_test (leb shortest len) refl e
  where
    by_test : (t : Bool) → leb shortest len ≡ t → ◌≡◌ {A = Option ℕ} (cond t (Some shortest) None) (Some n) → n ≤ len
    by_test true f g = (let same : shortest ≡ n = cc in grind (arith, f, same))
    by_test false f g = absurd cc

shortest_small : (shortest : Option ℕ) (f : ℕ → Result Stream ScriptFault) → ((n : ℕ) → shortest ≡ Some n → IsSmall (f n)) → IsSmall (by_number shortest f)
shortest_small None f h = tt
shortest_small (Some n) f h = h n refl

abbrev stream_with : (id priority len period : ℕ) → Option ℕ → (count shortest : ℕ) → Ends → Stream
stream_with id priority len period offset count shortest ends = record {
  first_id = id;
  priority = priority;
  len = len;
  shortest = shortest;
  period = period;
  offset = offset;
  jitter = unwrap_or ends.jitter 0;
  count = count;
  tagged = ends.tagged;
  deadline = ends.deadline;
}

numbers_small : (id priority len period : Option ℕ) (offset : Result (Option ℕ) ScriptFault) (count : Option ℕ) (ends : Ends) → ((n : ℕ) → priority ≡ Some n → n < 2 ^ 8) → ((n : ℕ) → len ≡ Some n → n < 2 ^ 32)
    → IsSmall (by_number id (λ id. by_number priority (λ priority. by_number len (λ len. by_number period (λ period. by_offset offset (λ offset. by_number count (λ count. by_number (shortest_of ends.shortest len) (λ shortest.
    Ok (stream_with id priority len period offset count shortest ends)))))))))
numbers_small None priority len period offset count ends p l = tt
numbers_small (Some id) None len period offset count ends p l = tt
numbers_small (Some id) (Some priority) None period offset count ends p l = tt
numbers_small (Some id) (Some priority) (Some len) None offset count ends p l = tt
numbers_small (Some id) (Some priority) (Some len) (Some period) (Err fault) count ends p l = tt
numbers_small (Some id) (Some priority) (Some len) (Some period) (Ok offset) None ends p l = tt
numbers_small (Some id) (Some priority) (Some len) (Some period) (Ok offset) (Some count) ends p l =
    shortest_small (shortest_of ends.shortest len) (λ shortest. Ok (stream_with id priority len period offset count shortest ends)) (λ shortest is. record { priority = p priority refl; len = l len refl; lengths = no_longer_within len (unwrap_or ends.shortest len) shortest is })

words_small : (id priority len period offset count : List ℕ) (ends : Ends) → IsSmall (stream_in_words id priority len period offset count ends)
words_small id priority len period offset count ends =
    numbers_small (number_in 10 (2 ^ 64 - 1) id) (number_in 10 (2 ^ 8 - 1) priority) (number_in 10 (2 ^ 32 - 1) len) (time_in greatest_moment period) (offset_in offset) (number_in 10 (2 ^ 32 - 1) count) ends
    (λ n e. omega (arith, number_within 10 (2 ^ 8 - 1) n priority e))
    (λ n e. omega (arith, number_within 10 (2 ^ 32 - 1) n len e))

pub said_small : (ws : List (List ℕ)) → IsSmall (stream_said ws)
said_small [] = tt
said_small (a ∷ []) = tt
said_small (a ∷ b ∷ []) = tt
said_small (a ∷ b ∷ c ∷ []) = tt
said_small (a ∷ b ∷ c ∷ d ∷ []) = tt
said_small (a ∷ b ∷ c ∷ d ∷ e ∷ []) = tt
said_small (id ∷ priority ∷ len ∷ period ∷ offset ∷ count ∷ ws) = by_ends_small (ends_in ws) (λ ends. stream_in_words id priority len period offset count ends) (λ ends. words_small id priority len period offset count ends)

-- ---- a stream that is judged

-- a stream whose frames are frames of a script
record IsGood (plan : Plan) (s : Stream) : Type 0 where
  ids : s.first_id + s.count ≤ 2 ^ 64
  ends : plan.from + greatest_offset plan.timing s + s.jitter + s.period * (s.count - 1) ≤ greatest_moment
  small : Small s

abbrev IsJudged : Plan → Result Stream ScriptFault → Type 0
IsJudged plan (Ok s) = IsGood plan s
IsJudged plan (Err fault) = Unit {0}

judged_good : (plan : Plan) (s : Stream) → Small s → IsJudged plan (judged plan s)
judged_good plan s small = by_tests (has_ids s) (ends_in_time plan s) refl refl
  where
    by_tests : (t u : Bool) → has_ids s ≡ t → ends_in_time plan s ≡ u → IsJudged plan (cond t (cond u (Ok s) (Err ClockTooLate)) (Err BadNumber))
    by_tests false u e f = tt
    by_tests true false e f = tt
    by_tests true true e f =
        let ids : leb (s.first_id + s.count) (2 ^ 64) ≡ true = e in
        let ends : leb (plan.from + greatest_offset plan.timing s + s.jitter + s.period * (s.count - 1)) greatest_moment ≡ true = f in
        record { ids = grind (arith, ids); ends = grind (arith, ends); small = small }

abbrev IsJudgedLine : Plan → Result (Option Stream) ScriptFault → Type 0
IsJudgedLine plan (Ok None) = Unit {0}
IsJudgedLine plan (Ok (Some s)) = IsGood plan s
IsJudgedLine plan (Err fault) = Unit {0}

in_line_judged : (plan : Plan) (r : Result Stream ScriptFault) → IsJudged plan r → IsJudgedLine plan (in_line r)
in_line_judged plan (Ok s) h = h
in_line_judged plan (Err fault) h = tt

stream_line : (plan : Plan) (r : Result Stream ScriptFault) → IsSmall r → IsJudgedLine plan (judged_line (judged plan) (in_line r))
stream_line plan (Ok s) h = in_line_judged plan (judged plan s) (judged_good plan s h)
stream_line plan (Err fault) h = tt

line_is_judged : (plan : Plan) (ws : List (List ℕ)) → IsJudgedLine plan (line_judged (judged plan) ws)
line_is_judged plan [] = tt
line_is_judged plan (w ∷ ws) = by_tests (is_comment w) (bytes_eq w (codes "stream"))
  where
    by_tests : (t u : Bool) → IsJudgedLine plan (judged_line (judged plan) (cond t (Ok None) (cond u (in_line (stream_said ws)) (Err UnknownLine))))
    by_tests true u = tt
    by_tests false true = stream_line plan (stream_said ws) (said_small ws)
    by_tests false false = tt

-- ---- the streams of a table

abbrev AreGood : Plan → List Stream → Type 0
AreGood plan [] = Unit {0}
AreGood plan (s ∷ ss) = IsGood plan s × AreGood plan ss

with_line_good : (plan : Plan) (number : ℕ) (r : Result (Option Stream) ScriptFault) (rest : Table) → IsJudgedLine plan r → AreGood plan rest.streams → AreGood plan (with_line number r rest).streams
with_line_good plan number (Ok None) rest h g = g
with_line_good plan number (Ok (Some s)) rest h g = (h, g)
with_line_good plan number (Err fault) rest h g = tt

table_good : (plan : Plan) (script : Script) → AreGood plan (table_of plan script).streams
unfolding table_by
table_good plan End = tt
table_good plan (Broken number limit) = tt
table_good plan (Line number octets rest) = with_line_good plan number (line_judged (judged plan) (words_of octets)) (table_of plan rest) (line_is_judged plan (words_of octets)) (table_good plan rest)

-- ---- their frames

append_coming : (fs gs : List Coming) → AreComing fs → AreComing gs → AreComing (fs ++ gs)
append_coming [] gs p q = q
append_coming (f ∷ fs) gs p q = (p.0, append_coming fs gs p.1 q)

insert_coming : (f : Coming) (fs : List Coming) → IsComing f → AreComing fs → AreComing (insert f fs)
unfolding insert
insert_coming f [] is are = (is, tt)
insert_coming f (g ∷ gs) is are = by_test (leb f.moment g.moment) (insert_coming f gs is are.1)
  where
    by_test : (t : Bool) → AreComing (insert f gs) → AreComing (cond t (f ∷ g ∷ gs) (g ∷ insert f gs))
    by_test true more = (is, are)
    by_test false more = (are.0, more)

moment_coming : (fs : List Coming) → AreComing fs → AreComing (by_moment fs)
unfolding by_moment
moment_coming [] are = tt
moment_coming (f ∷ fs) are = insert_coming f (by_moment fs) are.0 (moment_coming fs are.1)

-- the frames of a stream are a script's: its priority and lengths are of their types
record IsCoursing (c : Course) : Type 0 where
  fits : IsCourse c
  priority : c.priority < 2 ^ 8
  len : c.len < 2 ^ 32

one_coming : (c : Course) (k : ℕ) → IsCoursing c → k < c.count → IsComing (frame_after c k)
one_coming c k good less = record {
  moment = moment_within c k good.fits less;
  id = omega (arith, good.fits.ids, less);
  priority = good.priority;
  len = (let within = length_drawn_within c.seed k c.shortest c.len good.fits.lengths in omega (arith, within, good.len));
}

after_coming : (c : Course) (k n : ℕ) → IsCoursing c → k + n ≤ c.count → AreComing (frames_after c k n)
unfolding frames_after
after_coming c k zero good few = tt
after_coming c k (suc n) good few = (one_coming c k good (omega (arith, few)), after_coming c (k + 1) n good (omega (arith, few)))

-- each stream as a plan has it
offset_within : (seed : ℕ) (key : ℕ) (offset : Option ℕ) (period : ℕ) → offset_or (draw key 0 (period - 1)) offset ≤ offset_or (greatest_unknown (Drawn seed) period) offset
offset_within seed key None period = draw_within key 0 (period - 1)
offset_within seed key (Some offset) period = omega arith

earliest_within : (timing : Timing) (s : Stream) → earliest s ≤ greatest_offset timing s
earliest_within timing s = by_offset s.offset
  where
    by_offset : (offset : Option ℕ) → unwrap_or offset 0 ≤ offset_or (greatest_unknown timing s.period) offset
    by_offset None = omega arith
    by_offset (Some o) = omega arith

exact_coursing : (first : ℕ) (s : Stream) → s.first_id + s.count ≤ 2 ^ 64 → first + s.period * (s.count - 1) ≤ greatest_moment → Small s → IsCoursing (exact_course first s)
exact_coursing first s ids ends small = record {
  fits = record { ids = ids; ends = omega (arith, ends); lengths = omega arith; jitter = omega arith; first = omega (arith, ends) };
  priority = small.priority;
  len = small.len;
}

coursing : (timing : Timing) (from place : ℕ) (s : Stream) → IsGood (record { from = from; timing = timing }) s → IsCoursing (course_by timing from place s)
coursing Earliest from place s good = exact_coursing (from + earliest s) s good.ids (let le = earliest_within Earliest s in omega (arith, le, good.ends)) good.small
coursing Latest from place s good = exact_coursing (from + earliest s + s.jitter) s good.ids (let le = earliest_within Latest s in omega (arith, le, good.ends)) good.small
coursing (Drawn seed) from place s good =
    let le = offset_within seed (value seed place) s.offset s.period in
    record {
      fits = record { ids = good.ids; ends = omega (arith, le, good.ends); lengths = good.small.lengths; jitter = omega (arith, good.ends); first = omega (arith, le, good.ends) };
      priority = good.small.priority;
      len = good.small.len;
    }

all_coming : (plan : Plan) (place : ℕ) (ss : List Stream) → AreGood plan ss → AreComing (flat_map frames_of (courses_from plan place ss))
all_coming plan place [] are = tt
all_coming plan place (s ∷ ss) are =
    let course = course_of plan place s in
    append_coming (frames_of course) (flat_map frames_of (courses_from plan (place + 1) ss)) (after_coming course 0 course.count (coursing plan.timing plan.from place s are.0) (omega arith)) (all_coming plan (place + 1) ss are.1)

-- those of a table
pub table_coming : (plan : Plan) (script : Script) → AreComing (plan_frames plan (table_of plan script).streams)
table_coming plan script =
    let streams = (table_of plan script).streams in
    moment_coming (flat_map frames_of (courses_from plan 0 streams)) (all_coming plan 0 streams (table_good plan script))
