-- The frames of a table, counted line by line.
use Rattle.std.proofs.Common.{◌≡◌, ℕ, zero, suc, ◌+◌, List, [], ◌∷◌, ◌++◌, Option, Some, None, Result, Ok, Bool, true, false, refl, sym, ap, ◌∙◌, subst, arith, length, length-append}
use Rattle.std.specs.Prelude.{IfSome, nat_le, nat_lt, if◌then◌else◌}
use Rattle.std.proofs.lemmas.Bool.{ltb-false}
use Rattle.std.proofs.lemmas.List.Sums.{sum_by-append, sum_by-cons}
use Rattle.std.specs.List.{flat_map}
use Rattle.traffic.specs.Words.{words_of, Script, End, Line, Advances, AreCounted, IsCount, Coming, Course, Few, FrameCount, Many, Plan, by_moment, counted_in, counted_line, counted_with, course_of, courses_from, frame_count, frames_after, frames_in_turn, frames_of, line_judged, Stream}
use Rattle.traffic.specs.Frames.{insert}
use Rattle.traffic.specs.Plan.{course_by}
use Rattle.traffic.specs.declared.plan.Timing.{Timing}
use Rattle.traffic.specs.declared.plan.Timing.TheVariants.{Drawn, Earliest, Latest}
use Rattle.traffic.specs.declared.frame_count.TheConstants.{MOST_FRAMES}
use Rattle.script.specs.declared.faults.ScriptFault.{ScriptFault}

-- By what is judged of a stream.
module _ (judge : Stream → Result Stream ScriptFault) where
  -- The count of known lines is what was counted, and then that of those to come.
  abbrev pub Counts : Option Script → FrameCount → Option Script → Type 0
  Counts None counted left = Unit {0}
  Counts (Some all) counted None = ⊥
  Counts (Some all) counted (Some script) = counted_in judge (Few 0) all ≡ counted_in judge counted script

  pub begun : (all : Option Script) → Counts all (Few 0) all
  begun None = tt
  begun (Some script) = refl

  on_line : (counted : FrameCount) (number : ℕ) (line : List ℕ) (rest : Script) → counted_in judge counted (Line number line rest) ≡ counted_in judge (counted_line number (line_judged judge (words_of line)) counted) rest
  unfolding counted_in
  on_line counted number line rest = refl

  on_end : (counted : FrameCount) → counted_in judge counted End ≡ counted
  unfolding counted_in
  on_end counted = refl

  module _ (number : ℕ) (line : List ℕ) where
    -- a line is read
    pub counts_on : (all : Option Script) (counted now : FrameCount) (s t : Option Script) (said : Result (Option Stream) ScriptFault)
        → Counts all counted s → Advances s (Ok true) number line t → line_judged judge (words_of line) ≡ said → now ≡ counted_line number said counted → Counts all now t
    counts_on None counted now s t said g a e n = tt
    counts_on (Some all) counted now None t said g a e n = absurd g
    counts_on (Some all) counted now (Some script) t said g (rest, left, is) e n =
        let P : Option Script → Type 0 = λ u. Counts (Some all) now u in
        subst P (sym left) (g ∙ ap (counted_in judge counted) is ∙ on_line counted number line rest ∙ ap (λ x. counted_in judge (counted_line number x counted) rest) e ∙ ap (λ x. counted_in judge x rest) (sym n))

    -- the lines end
    pub all_counted : (all : Option Script) (counted : FrameCount) (s t : Option Script)
        → Counts all counted s → Advances s (Ok false) number line t → IfSome all (λ script. counted ≡ counted_in judge (Few 0) script)
    all_counted None counted s t g a = tt
    all_counted (Some all) counted None t g a = absurd g
    all_counted (Some all) counted (Some script) t g a = sym (g ∙ ap (counted_in judge counted) a ∙ on_end counted)

-- ---- few frames are so many

-- of streams that are counted, one more
pub count_more : (number : ℕ) (counted now : FrameCount) (streams new : List Stream) (stream : Stream) → now ≡ counted_with number stream.count counted → new ≡ streams ++ stream ∷ []
    → IsCount counted (frame_count streams) → IsCount now (frame_count new)
count_more number (Many line) now streams new stream n a is = subst (λ c. IsCount c (frame_count new)) (sym n) tt
count_more number (Few frames) now streams new stream n a is = subst (λ c. IsCount c (frame_count new)) (sym n) (by_test (nat_lt MOST_FRAMES (frames + stream.count)) refl) where
  more : frame_count new ≡ frame_count streams + stream.count
  more =
      let one = sum_by-cons (λ (s : Stream). s.count) stream [] in
      let all = ap frame_count a ∙ sum_by-append (λ (s : Stream). s.count) streams (stream ∷ []) in
      omega (arith, one, all)

  by_test : (t : Bool) → nat_lt MOST_FRAMES (frames + stream.count) ≡ t → IsCount (if t then Many number else Few (frames + stream.count)) (frame_count new)
  by_test true e = tt
  by_test false e = (omega (arith, more, is.0), ltb-false MOST_FRAMES (frames + stream.count) e)

-- ---- as many frames

-- a stream's frames
after_long : (c : Course) (k n : ℕ) → length (frames_after c k n) ≡ n
unfolding frames_after
after_long c k zero = refl
after_long c k (suc n) = ap suc (after_long c (k + 1) n)

same_count : (timing : Timing) (from place : ℕ) (s : Stream) → (course_by timing from place s).count ≡ s.count
same_count Earliest from place s = refl
same_count Latest from place s = refl
same_count (Drawn seed) from place s = refl

all_long : (plan : Plan) (place : ℕ) (streams : List Stream) → length (flat_map frames_of (courses_from plan place streams)) ≡ frame_count streams
all_long plan place [] = refl
all_long plan place (s ∷ streams) =
    let course = course_of plan place s in
    let one = length-append (frames_of course) (flat_map frames_of (courses_from plan (place + 1) streams)) in
    let first = after_long course 0 course.count in
    let count = same_count plan.timing plan.from place s in
    let rest = all_long plan (place + 1) streams in
    let sum = sum_by-cons (λ (x : Stream). x.count) s streams in
    omega (arith, one, first, count, rest, sum)

-- by moment they are as many
inserted_long : (f : Coming) (fs : List Coming) → length (insert f fs) ≡ suc (length fs)
unfolding insert
inserted_long f [] = refl
inserted_long f (g ∷ gs) = by_test (nat_le f.moment g.moment) (inserted_long f gs) where
  by_test : (t : Bool) → length (insert f gs) ≡ suc (length gs) → length (if t then f ∷ g ∷ gs else g ∷ insert f gs) ≡ suc (suc (length gs))
  by_test true more = refl
  by_test false more = ap suc more

sorted_long : (fs : List Coming) → length (by_moment fs) ≡ length fs
unfolding by_moment
sorted_long [] = refl
sorted_long (f ∷ fs) = inserted_long f (by_moment fs) ∙ ap suc (sorted_long fs)

pub counted_by_moment : (plan : Plan) (counted : FrameCount) (streams : List Stream) → IsCount counted (frame_count streams) → AreCounted counted (frames_in_turn (courses_from plan 0 streams))
counted_by_moment plan counted streams is = subst (IsCount counted) (sym (sorted_long (flat_map frames_of (courses_from plan 0 streams)) ∙ all_long plan 0 streams)) is
