-- What is merged is read line by line.
use Rattle.std.proofs.Common.{◌≡◌, ℕ, zero, suc, ◌+◌, ◌-◌, ◌%◌, ◌^◌, ◌<◌, ◌≤◌, Bool, true, false, eqb, leb, ltb, cond, List, [], ◌∷◌, ◌++◌, length, get_or, Option, Some, None, refl, sym, ap, ◌∙◌, subst, append_assoc, append-nil, length-append, arith, decimal}
use Rattle.std.specs.Prelude.{not, ◌&&◌, ◌||◌, codes}
use Rattle.std.specs.List.{concat, list_all, onto_first}
use Rattle.std.proofs.Math.Seq.{get_or-append_seam}
use Rattle.std.proofs.lemmas.Fmt.{decimal_by_steps_wide, length-decimal-le_wide}
use Rattle.wire_time.specs.Moment.{greatest_moment}
use Rattle.wire_time.specs.declared.Frame.{Frame}
use Rattle.text.specs.Words.{is_blank, starts_blank, starts_with_break, starts_with_line_feed, words_of}
use Rattle.text.specs.Script.{Script, End, Broken, Line, joins, fresh, ends, script_of}
use Rattle.text.specs.declared.line_reader.lines.Limit.{Limit}
use Rattle.text.specs.declared.line_reader.lines.Limit.TheVariants.{LongLine, TooManyLines}
use Rattle.text.specs.declared.line_reader.lines.TheConstants.{MAX_LINE_OCTETS, MAX_LINES}
use Rattle.traffic.specs.Merge.{clock_after, frames_before, frames_from, line_text, merged, moment_of, passed_line}
use Rattle.traffic.specs.Merged.{AreComing, IsComing, MergedLaw, clock_lines, clock_words, frame_lines, frame_words, lines_in, merged_lines, tag_words}
use Rattle.traffic.specs.Room.{clock_count, counted_in, limit_passed, line_count, lines_taken, line_feeds, passed_on, unless_passed}
use Rattle.traffic.specs.Written.{clock_line, clock_to, frame_end, frame_line, lines_of}
use Rattle.traffic.specs.declared.course.Coming.{Coming}
use Rattle.script.specs.declared.faults.ScriptFault.{ScriptFault}
use Rattle.traffic.specs.Outcome.{fault_in, outcome_unless, outcome_within}
use Rattle.traffic.specs.Plan.{judged, plan_frames, table_of}
use Rattle.traffic.specs.declared.plan.Plan.{Plan}
use Rattle.traffic.specs.declared.frame_count.FrameCount.{FrameCount}
use Rattle.traffic.specs.declared.frame_count.FrameCount.TheVariants.{Few}
use Rattle.traffic.specs.declared.table.Stream.{Stream}
use Rattle.traffic.proofs.ComingLaws.{table_coming}
use Rattle.traffic.proofs.CountLaws.{one_left}
use Rattle.traffic.proofs.FitLaws.{Numbered, all_numbered, has_room, no_count, split_at}
use Rattle.traffic.proofs.SaidLaws.{clock_says, frame_says}
use Rattle.traffic.proofs.ReadLaws.{feeds-append, feeds-cons, AllLines, AreReadable, IsReadable, Walks, all_walk, none_walked, one_walked, read_lines, readable-append, shorter, with_feeds, with_feeds-append}

-- ---- the blank

feed_same : (xs : List ℕ) → starts_with_line_feed (xs ++ 32 ∷ []) ≡ starts_with_line_feed xs
feed_same [] = refl
feed_same (b ∷ bs) = refl

break_same : (xs : List ℕ) → starts_with_break (xs ++ 32 ∷ []) ≡ starts_with_break xs
break_same [] = refl
break_same (b ∷ bs) = ap (λ t. eqb b 10 || (eqb b 13 && t)) (feed_same bs)

blank_same : (xs : List ℕ) → starts_blank (xs ++ 32 ∷ []) ≡ starts_blank xs
blank_same [] = refl
blank_same (b ∷ bs) = ap (λ t. is_blank b || (eqb b 92 && t)) (break_same bs)

-- a blank at the end changes no word
words_same : (xs : List ℕ) → words_of (xs ++ 32 ∷ []) ≡ words_of xs
words_same [] = refl
words_same (b ∷ bs) =
    let more = bs ++ 32 ∷ [] in
    ap (λ t. cond t (words_of more) (cond (starts_blank more) ((b ∷ []) ∷ words_of more) (onto_first b (words_of more)))) (blank_same (b ∷ bs))
    ∙ ap (λ t. cond (starts_blank (b ∷ bs)) (words_of more) (cond t ((b ∷ []) ∷ words_of more) (onto_first b (words_of more)))) (blank_same bs)
    ∙ ap (λ ws. cond (starts_blank (b ∷ bs)) ws (cond (starts_blank bs) ((b ∷ []) ∷ ws) (onto_first b ws))) (words_same bs)

passed_words : (line : List ℕ) → words_of (passed_line line) ≡ words_of line
passed_words line = by_join (joins line)
  where
    by_join : (t : Bool) → words_of (cond t (line ++ codes " ") line) ≡ words_of line
    by_join true = words_same line
    by_join false = refl

-- and ends no line with a backslash
joins_blank : (octets : List ℕ) → joins (octets ++ 32 ∷ []) ≡ false
joins_blank octets =
    let n : length (octets ++ 32 ∷ []) - 1 ≡ length octets = omega (arith, length-append octets (32 ∷ [])) in
    let last : get_or (octets ++ 32 ∷ []) (length (octets ++ 32 ∷ []) - 1) 0 ≡ 32 = ap (λ k. get_or (octets ++ 32 ∷ []) k 0) n ∙ get_or-append_seam octets 32 [] 0 in
    rw last refl

not_long : (many long joined : Bool) → joined ≡ true → ◌≡◌ {A = Option Limit} (cond many (Some TooManyLines) (cond (long && joined) (Some LongLine) None)) None → long ≡ false
not_long true long joined j e = absurd cc
not_long false true true j e = absurd cc
not_long false true false j e = absurd cc
not_long false false joined j e = refl

-- a line that passes no limit is read as it is passed on
passes : (room number : ℕ) (line : List ℕ) → Walks line → limit_passed room number line ≡ None → IsReadable (passed_line line)
passes room number line w none = by_join (joins line) refl
  where
    by_join : (t : Bool) → joins line ≡ t → IsReadable (cond t (line ++ codes " ") line)
    by_join true e =
        let long = not_long (ltb room (number + line_feeds line)) (eqb (length line) MAX_LINE_OCTETS) (joins line) e none in
        (one_walked line 32 w refl (shorter line long w.short), joins_blank line)
    by_join false e = (w, e)

-- ---- lines of plain octets

abbrev is_plain : ℕ → Bool
is_plain octet = not (eqb octet 10) && (not (eqb octet 13) && not (eqb octet 92))

plain_feed : (b : ℕ) → is_plain b ≡ true → (eqb b 10 ≡ false) × ((eqb b 13 ≡ false) × (eqb b 92 ≡ false))
plain_feed b e = of_tests (eqb b 10) (eqb b 13) (eqb b 92) e
  where
    of_tests : (t u v : Bool) → (not t && (not u && not v)) ≡ true → (t ≡ false) × ((u ≡ false) × (v ≡ false))
    of_tests true u v e = absurd cc
    of_tests false true v e = absurd cc
    of_tests false false true e = absurd cc
    of_tests false false false e = (refl, (refl, refl))

both_head : (t u : Bool) → (t && u) ≡ true → t ≡ true
both_head true u e = refl
both_head false u e = absurd cc

both_tail : (t u : Bool) → (t && u) ≡ true → u ≡ true
both_tail true u e = e
both_tail false u e = absurd cc

plain-append : (xs ys : List ℕ) → list_all is_plain xs ≡ true → list_all is_plain ys ≡ true → list_all is_plain (xs ++ ys) ≡ true
plain-append [] ys p q = q
plain-append (x ∷ xs) ys p q = ap (λ t. t && list_all is_plain (xs ++ ys)) (both_head (is_plain x) (list_all is_plain xs) p) ∙ plain-append xs ys (both_tail (is_plain x) (list_all is_plain xs) p) q

plain_at : (xs : List ℕ) (k : ℕ) → list_all is_plain xs ≡ true → is_plain (get_or xs k 0) ≡ true
plain_at [] k e = refl
plain_at (x ∷ xs) zero e = both_head (is_plain x) (list_all is_plain xs) e
plain_at (x ∷ xs) (suc k) e = plain_at xs k (both_tail (is_plain x) (list_all is_plain xs) e)

unjoined : (xs : List ℕ) → list_all is_plain xs ≡ true → joins xs ≡ false
unjoined xs e =
    let last = plain_feed (get_or xs (length xs - 1) 0) (plain_at xs (length xs - 1) e) in
    rw (last.1.1, last.1.0) refl

walks_on : (octets run : List ℕ) → Walks octets → list_all is_plain run ≡ true → length octets + length run ≤ MAX_LINE_OCTETS → Walks (octets ++ run)
walks_on octets [] w e short = subst Walks (sym (append-nil octets)) w
walks_on octets (b ∷ bs) w e short =
    let feed = plain_feed b (both_head (is_plain b) (list_all is_plain bs) e) in
    let over : ends octets b ≡ false = ap (λ t. t && not (joins octets)) feed.0 in
    subst Walks (append_assoc octets (b ∷ []) bs)
    (walks_on (octets ++ b ∷ []) bs (one_walked octets b w over (omega arith)) (both_tail (is_plain b) (list_all is_plain bs) e) (omega (arith, length-append octets (b ∷ []))))

plain_readable : (xs : List ℕ) → list_all is_plain xs ≡ true → length xs ≤ MAX_LINE_OCTETS → IsReadable xs
plain_readable xs e short = (walks_on [] xs none_walked e (omega arith), unjoined xs e)

-- ---- the lines of frames

digit_plain : (d : ℕ) → d < 10 → is_plain (48 + d) ≡ true
digit_plain d small = grind arith

decimal_plain : (n : ℕ) → n < 10 ^ 64 → list_all is_plain (decimal n) ≡ true
decimal_plain n within =
    decimal_by_steps_wide (λ n ds. list_all is_plain ds ≡ true)
    (λ n small. ap (λ t. t && true) (digit_plain n small))
    (λ n ds large some. plain-append ds ((48 + n % 10) ∷ []) some (ap (λ t. t && true) (digit_plain (n % 10) (omega arith))))
    n within

clock_octets : (m : ℕ) → m ≤ greatest_moment → list_all is_plain (clock_words m) ≡ true
clock_octets m within = plain-append (codes "clock ") (decimal m ++ []) refl (plain-append (decimal m) [] (decimal_plain m (omega arith)) refl)

clock_plain : (m : ℕ) → m ≤ greatest_moment → IsReadable (clock_words m)
clock_plain m within =
    let small : m < 10 ^ 22 = omega arith in
    let short = length-decimal-le_wide 22 m (omega arith) small (omega arith) in
    let long = length-append (decimal m) [] in
    plain_readable (clock_words m) (clock_octets m within) (omega (arith, long, short, length-append (codes "clock ") (decimal m ++ [])))

tag_plain : (t : Bool) → list_all is_plain (tag_words t ++ []) ≡ true
tag_plain true = refl
tag_plain false = refl

tag_short : (t : Bool) → length (tag_words t ++ []) ≤ 7
tag_short true = omega arith
tag_short false = omega arith

frame_octets : (f : Coming) → IsComing f → list_all is_plain (frame_words f.frame) ≡ true
frame_octets f is =
    let len = f.frame.len in
    let priority = f.frame.priority in
    let id = f.frame.id in
    let tag = tag_words f.frame.tagged ++ [] in
    let four = plain-append (decimal len) tag (decimal_plain len (omega (arith, is.len))) (tag_plain f.frame.tagged) in
    let three = plain-append (decimal priority) (codes " " ++ (decimal len ++ tag)) (decimal_plain priority (omega (arith, is.priority))) four in
    plain-append (decimal id) (codes " " ++ (decimal priority ++ (codes " " ++ (decimal len ++ tag)))) (decimal_plain id (omega (arith, is.id))) three

frame_plain : (f : Coming) → IsComing f → IsReadable (frame_words f.frame)
frame_plain f is =
    let id = f.frame.id in
    let priority = f.frame.priority in
    let len = f.frame.len in
    let tag = tag_words f.frame.tagged ++ [] in
    let id_short = length-decimal-le_wide 20 id (omega arith) (omega (arith, is.id)) (omega (arith, is.id)) in
    let priority_short = length-decimal-le_wide 3 priority (omega arith) (omega (arith, is.priority)) (omega (arith, is.priority)) in
    let len_short = length-decimal-le_wide 10 len (omega arith) (omega (arith, is.len)) (omega (arith, is.len)) in
    let lengths = length-append (decimal len) tag in
    let more = length-append (decimal priority) (codes " " ++ (decimal len ++ tag)) in
    let most = length-append (decimal id) (codes " " ++ (decimal priority ++ (codes " " ++ (decimal len ++ tag)))) in
    plain_readable (frame_words f.frame) (frame_octets f is) (omega (arith, id_short, priority_short, len_short, lengths, more, most, tag_short f.frame.tagged))

no_frame_line : (written : Option ℕ) → frame_lines written [] ≡ []
unfolding frame_lines
no_frame_line written = refl

one_frame_line : (written : Option ℕ) (f : Coming) (fs : List Coming) → frame_lines written (f ∷ fs) ≡ clock_lines written f.moment ++ (frame_words f.frame ∷ frame_lines (Some f.moment) fs)
unfolding frame_lines
one_frame_line written f fs = refl

clock_readable : (written : Option ℕ) (m : ℕ) → m ≤ greatest_moment → AreReadable (clock_lines written m)
clock_readable None m within = (clock_plain m within, tt)
clock_readable (Some n) m within = by_same (eqb n m)
  where
    by_same : (t : Bool) → AreReadable (cond t [] (clock_words m ∷ []))
    by_same true = tt
    by_same false = (clock_plain m within, tt)

frames_readable : (written : Option ℕ) (fs : List Coming) → AreComing fs → AreReadable (frame_lines written fs)
frames_readable written [] are = subst AreReadable (sym (no_frame_line written)) tt
frames_readable written (f ∷ fs) are =
    subst AreReadable (sym (one_frame_line written f fs))
    (readable-append (clock_lines written f.moment) (frame_words f.frame ∷ frame_lines (Some f.moment) fs) (clock_readable written f.moment are.0.moment) (frame_plain f are.0, frames_readable (Some f.moment) fs are.1))

-- the frames before a moment, and the others
are_before : (m : ℕ) (fs : List Coming) → AreComing fs → AreComing (frames_before m fs)
unfolding frames_before
are_before m [] are = tt
are_before m (f ∷ fs) are = by_test (ltb f.moment m) (are_before m fs are.1)
  where
    by_test : (t : Bool) → AreComing (frames_before m fs) → AreComing (cond t (f ∷ frames_before m fs) [])
    by_test true more = (are.0, more)
    by_test false more = tt

are_from : (m : ℕ) (fs : List Coming) → AreComing fs → AreComing (frames_from m fs)
unfolding frames_from
are_from m [] are = tt
are_from m (f ∷ fs) are = by_test (ltb f.moment m) (are_from m fs are.1)
  where
    by_test : (t : Bool) → AreComing (frames_from m fs) → AreComing (cond t (frames_from m fs) (f ∷ fs))
    by_test true more = more
    by_test false more = are

-- ---- all lines

no_merged : (clock : Option ℕ) (frames : List Coming) → merged_lines clock End frames ≡ frame_lines clock frames
unfolding merged_lines
no_merged clock frames = refl

broken_merged : (clock : Option ℕ) (number : ℕ) (limit : Limit) (frames : List Coming) → merged_lines clock (Broken number limit) frames ≡ []
unfolding merged_lines
broken_merged clock number limit frames = refl

one_merged : (clock : Option ℕ) (number : ℕ) (line : List ℕ) (rest : Script) (frames : List Coming)
    → merged_lines clock (Line number line rest) frames
    ≡ frame_lines clock (frames_before (moment_of (clock_after clock line)) frames)
    ++ (passed_line line ∷ merged_lines (clock_after clock line) rest (frames_from (moment_of (clock_after clock line)) frames))
unfolding merged_lines
one_merged clock number line rest frames = refl

merged_readable : (script : Script) (clock : Option ℕ) (frames : List Coming) → AllLines (λ line. IsReadable (passed_line line)) script → AreComing frames → AreReadable (merged_lines clock script frames)
merged_readable End clock frames all are = subst AreReadable (sym (no_merged clock frames)) (frames_readable clock frames are)
merged_readable (Broken number limit) clock frames all are = subst AreReadable (sym (broken_merged clock number limit frames)) tt
merged_readable (Line number line rest) clock frames all are =
    let later = clock_after clock line in
    subst AreReadable (sym (one_merged clock number line rest frames))
    (readable-append (frame_lines clock (frames_before (moment_of later) frames)) (passed_line line ∷ merged_lines later rest (frames_from (moment_of later) frames))
    (frames_readable clock (frames_before (moment_of later) frames) (are_before (moment_of later) frames are))
    (all.0, merged_readable rest later (frames_from (moment_of later) frames) all.1 (are_from (moment_of later) frames are)))

-- the lines of a script that are passed on
all_pass : (room : ℕ) (script : Script) → AllLines Walks script → AllLines (λ line. IsReadable (passed_line line)) (passed_on room script)
unfolding passed_on
all_pass room End all = tt
all_pass room (Broken number limit) all = tt
all_pass room (Line number line rest) all = by_limit (limit_passed room number line) refl (all_pass room rest all.1)
  where
    by_limit : (passed : Option Limit) → limit_passed room number line ≡ passed → AllLines (λ more. IsReadable (passed_line more)) (passed_on room rest) → AllLines (λ line. IsReadable (passed_line line)) (unless_passed passed number line (passed_on room rest))
    by_limit None e more = (passes room number line all.0 e, more)
    by_limit (Some limit) e more = tt

-- ---- the text

clock_line_is : (m : ℕ) → clock_line m ≡ clock_words m ++ (10 ∷ [])
clock_line_is m = simp append_assoc

frame_line_is : (f : Frame) → frame_line f ≡ frame_words f ++ (10 ∷ [])
frame_line_is f = by_tag f.tagged
  where
    by_tag : (t : Bool)
        → concat (codes "frame " ∷ decimal f.id ∷ codes " " ∷ decimal f.priority ∷ codes " " ∷ decimal f.len ∷ frame_end t ∷ [])
        ≡ concat (codes "frame " ∷ decimal f.id ∷ codes " " ∷ decimal f.priority ∷ codes " " ∷ decimal f.len ∷ tag_words t ∷ []) ++ (10 ∷ [])
    by_tag true = simp append_assoc
    by_tag false = simp append_assoc

clock_to_is : (written : Option ℕ) (m : ℕ) → clock_to written m ≡ with_feeds (clock_lines written m)
clock_to_is None m = clock_line_is m
clock_to_is (Some n) m = by_same (eqb n m)
  where
    by_same : (t : Bool) → cond t [] (clock_line m) ≡ with_feeds (cond t [] (clock_words m ∷ []))
    by_same true = refl
    by_same false = clock_line_is m

no_text : (written : Option ℕ) → lines_of written [] ≡ []
unfolding lines_of
no_text written = refl

one_text : (written : Option ℕ) (f : Coming) (fs : List Coming) → lines_of written (f ∷ fs) ≡ clock_to written f.moment ++ frame_line f.frame ++ lines_of (Some f.moment) fs
unfolding lines_of
one_text written f fs = refl

lines_of_is : (written : Option ℕ) (fs : List Coming) → lines_of written fs ≡ with_feeds (frame_lines written fs)
lines_of_is written [] = no_text written ∙ sym (ap with_feeds (no_frame_line written))
lines_of_is written (f ∷ fs) =
    let rest = frame_lines (Some f.moment) fs in
    let parts : with_feeds (frame_lines written (f ∷ fs)) ≡ with_feeds (clock_lines written f.moment) ++ (frame_words f.frame ++ (10 ∷ with_feeds rest)) =
    ap with_feeds (one_frame_line written f fs) ∙ with_feeds-append (clock_lines written f.moment) (frame_words f.frame ∷ rest) in
    one_text written f fs
    ∙ ap (λ x. clock_to written f.moment ++ frame_line f.frame ++ x) (lines_of_is (Some f.moment) fs)
    ∙ ap (λ x. x ++ frame_line f.frame ++ with_feeds rest) (clock_to_is written f.moment)
    ∙ ap (λ x. with_feeds (clock_lines written f.moment) ++ x ++ with_feeds rest) (frame_line_is f.frame)
    ∙ (simp append_assoc)
    ∙ sym parts

line_text_is : (line : List ℕ) → line_text line ≡ passed_line line ++ (10 ∷ [])
line_text_is line = by_join (joins line)
  where
    by_join : (t : Bool) → line ++ cond t (codes " \n") (codes "\n") ≡ cond t (line ++ codes " ") line ++ (10 ∷ [])
    by_join true = sym (append_assoc line (codes " ") (10 ∷ []))
    by_join false = refl

merged_end : (clock : Option ℕ) (frames : List Coming) → merged clock End frames ≡ lines_of clock frames
unfolding merged
merged_end clock frames = refl

merged_broken : (clock : Option ℕ) (number : ℕ) (limit : Limit) (frames : List Coming) → merged clock (Broken number limit) frames ≡ []
unfolding merged
merged_broken clock number limit frames = refl

merged_line : (clock : Option ℕ) (number : ℕ) (line : List ℕ) (rest : Script) (frames : List Coming)
    → merged clock (Line number line rest) frames
    ≡ lines_of clock (frames_before (moment_of (clock_after clock line)) frames) ++ line_text line ++ merged (clock_after clock line) rest (frames_from (moment_of (clock_after clock line)) frames)
unfolding merged
merged_line clock number line rest frames = refl

merged_is : (script : Script) (clock : Option ℕ) (frames : List Coming) → merged clock script frames ≡ with_feeds (merged_lines clock script frames)
merged_is End clock frames = merged_end clock frames ∙ lines_of_is clock frames ∙ sym (ap with_feeds (no_merged clock frames))
merged_is (Broken number limit) clock frames = merged_broken clock number limit frames ∙ sym (ap with_feeds (broken_merged clock number limit frames))
merged_is (Line number line rest) clock frames =
    let later = clock_after clock line in
    let before = frames_before (moment_of later) frames in
    let more = merged_lines later rest (frames_from (moment_of later) frames) in
    let parts : with_feeds (merged_lines clock (Line number line rest) frames) ≡ with_feeds (frame_lines clock before) ++ (passed_line line ++ (10 ∷ with_feeds more)) =
    ap with_feeds (one_merged clock number line rest frames) ∙ with_feeds-append (frame_lines clock before) (passed_line line ∷ more) in
    merged_line clock number line rest frames
    ∙ ap (λ x. lines_of clock before ++ line_text line ++ x) (merged_is rest later (frames_from (moment_of later) frames))
    ∙ ap (λ x. x ++ line_text line ++ with_feeds more) (lines_of_is clock before)
    ∙ ap (λ x. with_feeds (frame_lines clock before) ++ x ++ with_feeds more) (line_text_is line)
    ∙ (simp append_assoc)
    ∙ sym parts

-- ---- how many lines it has

plain_feeds : (xs : List ℕ) → list_all is_plain xs ≡ true → line_feeds xs ≡ 0
plain_feeds [] e = refl
plain_feeds (b ∷ bs) e =
    let feed = plain_feed b (both_head (is_plain b) (list_all is_plain bs) e) in
    let none : ◌≡◌ {A = ℕ} (cond (eqb b 10) 1 0) 0 = ap (λ t. cond t 1 0) feed.0 in
    let rest = plain_feeds bs (both_tail (is_plain b) (list_all is_plain bs) e) in
    omega (arith, feeds-cons b bs, none, rest)

one_feed : (xs : List ℕ) → list_all is_plain xs ≡ true → line_feeds (xs ++ (10 ∷ [])) ≡ 1
one_feed xs e = feeds-append xs (10 ∷ []) ∙ ap (λ n. n + 1) (plain_feeds xs e)

clock_feeds : (written : Option ℕ) (m : ℕ) → m ≤ greatest_moment → line_feeds (clock_to written m) ≡ clock_count written m
clock_feeds None m within = ap line_feeds (clock_line_is m) ∙ one_feed (clock_words m) (clock_octets m within)
clock_feeds (Some n) m within = by_same (eqb n m)
  where
    by_same : (t : Bool) → line_feeds (cond t [] (clock_line m)) ≡ cond t 0 1
    by_same true = refl
    by_same false = ap line_feeds (clock_line_is m) ∙ one_feed (clock_words m) (clock_octets m within)

lines_feeds : (written : Option ℕ) (fs : List Coming) → AreComing fs → line_feeds (lines_of written fs) ≡ line_count written fs
lines_feeds written [] are = ap line_feeds (no_text written) ∙ sym (no_count written)
lines_feeds written (f ∷ fs) are =
    let text = clock_to written f.moment ++ frame_line f.frame in
    let rest = lines_of (Some f.moment) fs in
    let clock = clock_feeds written f.moment are.0.moment in
    let frame = ap line_feeds (frame_line_is f.frame) ∙ one_feed (frame_words f.frame) (frame_octets f are.0) in
    let here = ap line_feeds (one_text written f fs) in
    let parts = feeds-append text rest in
    let front = feeds-append (clock_to written f.moment) (frame_line f.frame) in
    let count = one_left written (f ∷ fs) f fs refl in
    let more = lines_feeds (Some f.moment) fs are.1 in
    omega (arith, clock, frame, here, parts, front, count, more)

text_feeds : (line : List ℕ) → line_feeds (line_text line) ≡ line_feeds line + 1
text_feeds line = by_join (joins line)
  where
    by_join : (t : Bool) → line_feeds (line ++ cond t (codes " \n") (codes "\n")) ≡ line_feeds line + 1
    by_join true = feeds-append line (codes " \n")
    by_join false = feeds-append line (codes "\n")

fits : (room : ℕ) (script : Script) (breaks : ℕ) (clock : Option ℕ) (frames : List Coming) → Numbered breaks script → breaks ≤ room → AreComing frames
    → line_feeds (merged clock (passed_on room script) frames) + breaks ≤ room + line_count clock frames
unfolding passed_on
fits room End breaks clock frames numbered within are =
    let text = ap line_feeds (merged_end clock frames) in
    omega (arith, text, lines_feeds clock frames are)
fits room (Broken number limit) breaks clock frames numbered within are =
    let text = ap line_feeds (merged_broken clock number limit frames) in
    omega (arith, text)
fits room (Line number line rest) breaks clock frames numbered within are =
    by_limit (limit_passed room number line) refl
    (λ less. fits room rest (breaks + line_feeds line + 1) (clock_after clock line) (frames_from (moment_of (clock_after clock line)) frames) numbered.1 less (are_from (moment_of (clock_after clock line)) frames are))
  where
    by_limit : (passed : Option Limit) → limit_passed room number line ≡ passed
        → (breaks + line_feeds line + 1 ≤ room → line_feeds (merged (clock_after clock line) (passed_on room rest) (frames_from (moment_of (clock_after clock line)) frames)) + (breaks + line_feeds line + 1)
        ≤ room + line_count (clock_after clock line) (frames_from (moment_of (clock_after clock line)) frames))
        → line_feeds (merged clock (unless_passed passed number line (passed_on room rest)) frames) + breaks ≤ room + line_count clock frames
    by_limit (Some limit) e more =
        let text = ap line_feeds (merged_broken clock number limit frames) in
        omega (arith, text)
    by_limit None e more =
        let later = clock_after clock line in
        let before = lines_of clock (frames_before (moment_of later) frames) in
        let behind = merged later (passed_on room rest) (frames_from (moment_of later) frames) in
        let text = ap line_feeds (merged_line clock number line (passed_on room rest) frames) in
        let parts = feeds-append (before ++ line_text line) behind in
        let front = feeds-append before (line_text line) in
        let count = lines_feeds clock (frames_before (moment_of later) frames) (are_before (moment_of later) frames are) in
        let first : number ≡ breaks + 1 = numbered.0 in
        let few = has_room room number line e in
        let rest_fits = more (omega (arith, first, few)) in
        omega (arith, text, parts, front, count, text_feeds line, rest_fits, split_at clock line frames)

-- ---- the law

-- what is written of a script, up to a fault of it
front : (room : ℕ) (script : List ℕ) (frames : List Coming) → AreComing frames → room + line_count None frames ≤ MAX_LINES
    → lines_in (script_of (merged None (passed_on room (script_of script)) frames)) ≡ Some (merged_lines None (passed_on room (script_of script)) frames)
front room script frames are within =
    let passed = passed_on room (script_of script) in
    let is = merged_is passed None frames in
    let readable = merged_readable passed None frames (all_pass room (script_of script) (all_walk script (fresh 0) none_walked)) are in
    let count = ap (λ x. line_feeds x) is in
    let few = fits room (script_of script) 0 None frames (all_numbered script (fresh 0) 0 refl refl) (omega arith) are in
    ap (λ x. lines_in (script_of x)) is ∙ read_lines (merged_lines None passed frames) 0 readable (omega (arith, within, few, count))

-- a script without a fault is passed on whole
fault_behind : (number : ℕ) (line : List ℕ) (rest : Script) → fault_in (Line number line rest) ≡ fault_in rest
unfolding fault_in
fault_behind number line rest = refl

fault_there : (number : ℕ) (limit : Limit) → fault_in (Broken number limit) ≡ None → ⊥
unfolding fault_in
fault_there number limit e = absurd cc

all_passed : (room : ℕ) (script : Script) → fault_in (passed_on room script) ≡ None → passed_on room script ≡ script
unfolding passed_on
all_passed room End e = refl
all_passed room (Broken number limit) e = refl
all_passed room (Line number line rest) e = by_limit (limit_passed room number line) e (all_passed room rest)
  where
    by_limit : (passed : Option Limit) → fault_in (unless_passed passed number line (passed_on room rest)) ≡ None → (fault_in (passed_on room rest) ≡ None → passed_on room rest ≡ rest)
        → unless_passed passed number line (passed_on room rest) ≡ Line number line rest
    by_limit None f more = ap (Line number line) (more (sym (fault_behind number line (passed_on room rest)) ∙ f))
    by_limit (Some limit) f more = absurd (fault_there number limit f)

module _ (counted : FrameCount) (frames : List Coming) (script : List ℕ) (are : AreComing frames) where
  taken_is : (t : Bool) (n count : ℕ) → leb n MAX_LINES ≡ t → ◌≡◌ {A = Option ℕ} (cond t (Some n) None) (Some count) → (count ≡ n) × (n ≤ MAX_LINES)
  taken_is true n count e f = (cc, grind (arith, e))
  taken_is false n count e f = absurd cc

  of_taken : (taken : Option ℕ) → lines_taken (line_count None frames) ≡ taken → (outcome_within taken counted frames (script_of script)).fault ≡ None
      → lines_in (script_of (outcome_within taken counted frames (script_of script)).text) ≡ Some (merged_lines None (script_of script) frames)
  of_taken None e f = absurd cc
  of_taken (Some count) e f =
      let is = taken_is (leb (line_count None frames) MAX_LINES) (line_count None frames) count refl e in
      front (MAX_LINES - count) script frames are (omega (arith, is.0, is.1))
      ∙ ap (λ x. Some (merged_lines None x frames)) (all_passed (MAX_LINES - count) (script_of script) f)

of_table : (plan : Plan) (fault : Option (ℕ × ScriptFault)) (counted : FrameCount) (streams : List Stream) (script : List ℕ) → AreComing (plan_frames plan streams) → (outcome_unless plan fault counted streams (script_of script)).fault ≡ None
    → lines_in (script_of (outcome_unless plan fault counted streams (script_of script)).text) ≡ Some (merged_lines None (script_of script) (plan_frames plan streams))
of_table plan (Some (number, fault)) counted streams script are e = absurd cc
of_table plan None counted streams script are e = of_taken counted (plan_frames plan streams) script are (lines_taken (line_count None (plan_frames plan streams))) refl e

pub merged_law : MergedLaw
merged_law = record {
  whole = λ plan table script e.
      let lines = script_of table in
      of_table plan (table_of plan lines).fault (counted_in (judged plan) (Few 0) lines) (table_of plan lines).streams script (table_coming plan lines) e;
  front = front;
  words = passed_words;
  frames = frame_says;
  clocks = clock_says;
}
