-- How many lines a merged script has.
use Rattle.std.proofs.Common.{◌≡◌, ℕ, ◌+◌, ◌<◌, ◌≤◌, Bool, true, false, eqb, ltb, cond, List, [], ◌∷◌, ◌++◌, length, Option, Some, None, refl, sym, ap, ◌∙◌, subst, arith, ◌⊎◌, inl, inr}
use Rattle.std.specs.Prelude.{not, ◌&&◌, max}
use Rattle.std.proofs.lemmas.Bool.{cases_lt}
use Rattle.text.specs.Script.{Script, End, Broken, Line, Progress, joins, fresh, script_from, ends, breaks_after}
use Rattle.text.specs.declared.line_reader.lines.Limit.{Limit}
use Rattle.text.specs.declared.line_reader.lines.Limit.TheVariants.{LongLine, TooManyLines}
use Rattle.text.specs.declared.line_reader.lines.TheConstants.{MAX_LINE_OCTETS, MAX_LINES}
use Rattle.traffic.specs.Merge.{clock_after, clock_in, frames_before, frames_from, latest, moment_of}
use Rattle.traffic.specs.Room.{clock_count, limit_passed, line_count, line_feeds}
use Rattle.traffic.specs.declared.course.Coming.{Coming}
use Rattle.traffic.proofs.BeforeLaws.{all_from, none_before, none_from, not_before, one_before, past_one}
use Rattle.traffic.proofs.CountLaws.{one_left}
use Rattle.traffic.proofs.ReadLaws.{feeds-append, feeds-cons}

-- ---- the numbers of lines

-- lines whose numbers count physical lines, after so many
abbrev pub Numbered : ℕ → Script → Type 0
Numbered breaks End = Unit {0}
Numbered breaks (Broken number limit) = Unit {0}
Numbered breaks (Line number line rest) = (number ≡ breaks + 1) × Numbered (breaks + line_feeds line + 1) rest

at_end : (t : Bool) (first breaks : ℕ) (octets : List ℕ) → first ≡ breaks + 1 → Numbered breaks (cond t End (Line first octets End))
at_end true first breaks octets e = tt
at_end false first breaks octets e = (e, tt)

by_case : (breaks n m : ℕ) (a b : Limit) (z u : Script) (long many over : Bool) → Numbered breaks z → (over ≡ false → Numbered breaks u) → Numbered breaks (cond (long && not over) (Broken n a) (cond many (Broken m b) (cond over z u)))
by_case breaks n m a b z u true many false g h = tt
by_case breaks n m a b z u true true true g h = tt
by_case breaks n m a b z u true false true g h = g
by_case breaks n m a b z u false true over g h = tt
by_case breaks n m a b z u false false true g h = g
by_case breaks n m a b z u false false false g h = h refl

one_feed : (t : Bool) (n m : ℕ) → cond t (n + m + 1) (n + m) ≡ n + (m + (cond t 1 0 + 0))
one_feed true n m = omega arith
one_feed false n m = omega arith

pub all_numbered : (input : List ℕ) (p : Progress) (breaks : ℕ) → p.first ≡ breaks + 1 → p.breaks ≡ breaks + line_feeds p.octets → Numbered breaks (script_from p input)
all_numbered [] p breaks first feeds = at_end (eqb (length p.octets) 0) p.first breaks p.octets first
all_numbered (b ∷ bs) p breaks first feeds =
    let more = feeds-append p.octets (b ∷ []) ∙ ap (λ n. line_feeds p.octets + n) (feeds-cons b []) in
    let count : breaks_after p.breaks b ≡ breaks + line_feeds (p.octets ++ b ∷ []) =
    ap (λ n. breaks_after n b) feeds ∙ one_feed (eqb b 10) breaks (line_feeds p.octets) ∙ ap (λ n. breaks + n) (sym more) in
    let next : Numbered (p.breaks + 1) (script_from (fresh (p.breaks + 1)) bs) = all_numbered bs (fresh (p.breaks + 1)) (p.breaks + 1) refl (omega arith) in
    by_case breaks _ _ _ _ _ _ (eqb (length p.octets) MAX_LINE_OCTETS) (eqb p.breaks MAX_LINES) (ends p.octets b)
    (first, subst (λ n. Numbered (n + 1) (script_from (fresh (p.breaks + 1)) bs)) feeds next)
    (λ over. all_numbered bs (record { octets = p.octets ++ b ∷ []; first = p.first; breaks = breaks_after p.breaks b }) breaks first count)

-- ---- the lines of frames

pub no_count : (written : Option ℕ) → line_count written [] ≡ 0
unfolding line_count
no_count written = refl

clock_within : (written : Option ℕ) (m : ℕ) → clock_count written m ≤ 1
clock_within None m = omega arith
clock_within (Some n) m = by_same (eqb n m)
  where
    by_same : (t : Bool) → cond t 0 1 ≤ 1
    by_same true = omega arith
    by_same false = omega arith

-- a clock line that is written spares no other than that of its moment
abbrev Spares : ℕ → Option ℕ → Option ℕ → Type 0
Spares m written later = (n : ℕ) → written ≡ Some n → m ≤ n → later ≡ Some n

spared : (m : ℕ) (written later : Option ℕ) (moment : ℕ) → Spares m written later → m ≤ moment → clock_count later moment ≤ clock_count written moment
spared m None later moment s le = clock_within later moment
spared m (Some n) later moment s le = by_same (eqb n moment) refl
  where
    by_same : (t : Bool) → eqb n moment ≡ t → clock_count later moment ≤ cond t 0 1
    by_same true e =
        let same : n ≡ moment = grind (arith, e) in
        let is = s n refl (omega (arith, le, same)) in
        rw (is, e) (omega arith)
    by_same false e = clock_within later moment

split : (m : ℕ) (written later : Option ℕ) (fs : List Coming) → Spares m written later → line_count written (frames_before m fs) + line_count later (frames_from m fs) ≤ line_count written fs
split m written later [] s =
    let before = ap (line_count written) (none_before m) in
    let from = ap (line_count later) (none_from m) in
    omega (arith, before, from, no_count later)
split m written later (f ∷ fs) s = by_moment (cases_lt f.moment m) (split m (Some f.moment) later fs)
  where
    by_moment : (f.moment < m) ⊎ (m ≤ f.moment) → (Spares m (Some f.moment) later → line_count (Some f.moment) (frames_before m fs) + line_count later (frames_from m fs) ≤ line_count (Some f.moment) fs)
        → line_count written (frames_before m (f ∷ fs)) + line_count later (frames_from m (f ∷ fs)) ≤ line_count written (f ∷ fs)
    by_moment (inl less) more =
        let before = ap (line_count written) (one_before m f fs less) in
        let from = ap (line_count later) (past_one m f fs less) in
        let first = one_left written (f ∷ frames_before m fs) f (frames_before m fs) refl in
        let all = one_left written (f ∷ fs) f fs refl in
        let rest = more (λ n e le. absurd (let same : f.moment ≡ n = cc in omega (arith, same, le, less))) in
        omega (arith, before, from, first, all, rest)
    by_moment (inr le) more =
        let before = ap (line_count written) (not_before m f fs le) in
        let from = ap (line_count later) (all_from m f fs le) in
        let all = one_left written (f ∷ fs) f fs refl in
        let here = one_left later (f ∷ fs) f fs refl in
        omega (arith, before, from, all, here, no_count written, spared m written later f.moment s le)

max_spares : (clock number n : ℕ) → ◌≡◌ {A = Option ℕ} (Some clock) (Some n) → max clock number ≤ n → ◌≡◌ {A = Option ℕ} (Some (max clock number)) (Some n)
max_spares clock number n e le =
    let same : clock ≡ n = cc in
    let greatest : max clock number ≡ n = grind (arith, same, le) in
    ap Some greatest

spares : (clock number : Option ℕ) → Spares (moment_of (latest clock number)) clock (latest clock number)
spares None number n e le = absurd cc
spares (Some clock) None n e le = e
spares (Some clock) (Some number) n e le = max_spares clock number n e le

-- the frames before a line, and the others
pub split_at : (clock : Option ℕ) (line : List ℕ) (fs : List Coming)
    → line_count clock (frames_before (moment_of (clock_after clock line)) fs) + line_count (clock_after clock line) (frames_from (moment_of (clock_after clock line)) fs) ≤ line_count clock fs
split_at clock line fs = split (moment_of (clock_after clock line)) clock (clock_after clock line) fs (spares clock (clock_in line))

-- a line that is passed on ends within the room
pub has_room : (room number : ℕ) (line : List ℕ) → limit_passed room number line ≡ None → number + line_feeds line ≤ room
has_room room number line e = by_limit (ltb room (number + line_feeds line)) refl e
  where
    by_limit : (t : Bool) → ltb room (number + line_feeds line) ≡ t
        → ◌≡◌ {A = Option Limit} (cond t (Some TooManyLines) (cond (eqb (length line) MAX_LINE_OCTETS && joins line) (Some LongLine) None)) None → number + line_feeds line ≤ room
    by_limit true f e = absurd cc
    by_limit false f e = grind (arith, f)
