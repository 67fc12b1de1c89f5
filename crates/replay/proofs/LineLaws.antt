-- The lines of a kept script, one after another.
use Rattle.std.proofs.Common.{◌≡◌, ◌≤◌, ◌<◌, ◌+◌, ◌++◌, ℕ, List, [], ◌∷◌, length, map, drop, Result, Ok, Err, refl, sym, ap, ◌∙◌, arith, drop-cons, add-one}
use Rattle.std.specs.Prelude.{slice_range}
use Rattle.std.proofs.Math.ListN.{get_or}
use Rattle.std.proofs.lemmas.List.{drop-map, drop_all}
use Rattle.std.proofs.lemmas.List.Elements.{All-drop, All-head, All-tail}
use Rattle.std.proofs.lemmas.Bool.{le-leb, lt-leb}
use Rattle.replay.specs.Words.{Command, CAPTURE_END, TcFault, words_of, Request, tc_request, AreKept, IsKept, kept_clock, kept_request, kept_requests, Timed, latest_clock, lines_by, lines_past, requests_of, timed_from, KeptLine, Tc}
use Rattle.replay.specs.declared.kept_script.KeptLine.TheVariants.{Clock, Query, Count}

-- a line that begins with tc says no moment
tc-clock : (clock : ℕ) (command : Result Command TcFault) → latest_clock clock (tc_request command) ≡ clock
tc-clock clock (Ok command) = refl
tc-clock clock (Err fault) = refl

pub clock-kept : (read : List (List ℕ) → Result Command TcFault) (octets : List ℕ) (clock : ℕ) (line : KeptLine) → latest_clock clock (kept_request read octets line) ≡ kept_clock clock line
clock-kept read octets clock (Clock m) = refl
clock-kept read octets clock Query = refl
clock-kept read octets clock (Count class) = refl
clock-kept read octets clock (Tc start finish number) = tc-clock clock (read (words_of (slice_range octets start finish)))

pub clock-early : (octets : List ℕ) (clock : ℕ) (line : KeptLine) → IsKept octets line → clock ≤ CAPTURE_END → kept_clock clock line ≤ CAPTURE_END
clock-early octets clock (Clock m) is h = omega arith
clock-early octets clock Query is h = h
clock-early octets clock (Count class) is h = h
clock-early octets clock (Tc start finish number) is h = h

module _ (read : List (List ℕ) → Result Command TcFault) (octets : List ℕ) where
  -- the first of lines
  timed-cons : (clock : ℕ) (line : KeptLine) (lines : List KeptLine)
      → timed_from clock (kept_requests read octets (line ∷ lines)) ≡ record { moment = kept_clock clock line; request = kept_request read octets line } ∷ timed_from (kept_clock clock line) (kept_requests read octets lines)
  timed-cons clock line lines =
      ap (λ (n : ℕ). record { moment = n; request = kept_request read octets line } ∷ timed_from n (kept_requests read octets lines)) (clock-kept read octets clock line)

  -- the line that stands at a place
  pub line-at : (lines : List KeptLine) (at clock m : ℕ) (d : KeptLine) → at < length lines → m ≡ kept_clock clock (get_or lines at d)
      → timed_from clock (drop at (kept_requests read octets lines))
      ≡ record { moment = m; request = kept_request read octets (get_or lines at d) } ∷ timed_from m (drop (at + 1) (kept_requests read octets lines))
  line-at lines at clock m d below is =
      let f = kept_request read octets in
      let line = get_or lines at d in
      let e : drop at lines ≡ line ∷ drop (at + 1) lines = drop-cons lines at d below ∙ ap (λ n. line ∷ drop n lines) (sym (add-one at)) in
      ap (λ (rs : List Request). timed_from clock rs) (drop-map f at lines ∙ ap (λ ls. map f ls) e)
      ∙ timed-cons clock line (drop (at + 1) lines)
      ∙ ap (λ (rs : List Request). record { moment = kept_clock clock line; request = f line } ∷ timed_from (kept_clock clock line) rs) (sym (drop-map f (at + 1) lines))
      ∙ ap (λ (n : ℕ). record { moment = n; request = f line } ∷ timed_from n (drop (at + 1) (kept_requests read octets lines))) (sym is)

  -- after the last line
  pub no-lines : (lines : List KeptLine) (at clock : ℕ) → length lines ≤ at → timed_from clock (drop at (kept_requests read octets lines)) ≡ []
  no-lines lines at clock over =
      let f = kept_request read octets in
      ap (λ (rs : List Request). timed_from clock rs) (drop-map f at lines ∙ ap (λ ls. map f ls) (drop_all at lines over))

  -- no line is after the last moment that a capture can say
  all_by : (lines : List KeptLine) (clock : ℕ) → AreKept octets lines → clock ≤ CAPTURE_END
      → lines_by CAPTURE_END (timed_from clock (kept_requests read octets lines)) ≡ timed_from clock (kept_requests read octets lines)
  all_by [] clock are h = refl
  all_by (line ∷ lines) clock are h =
      let m = kept_clock clock line in
      let head : IsKept octets line = All-head (IsKept octets) line lines are in
      let early : m ≤ CAPTURE_END = clock-early octets clock line head h in
      let first : Timed = record { moment = m; request = kept_request read octets line } in
      let rest = timed_from m (kept_requests read octets lines) in
      let yes_by : lines_by CAPTURE_END (first ∷ rest) ≡ first ∷ lines_by CAPTURE_END rest = rw (le-leb m CAPTURE_END early) refl in
      ap (λ (ls : List Timed). lines_by CAPTURE_END ls) (timed-cons clock line lines)
      ∙ yes_by ∙ ap (λ (ls : List Timed). first ∷ ls) (all_by lines m (All-tail (IsKept octets) line lines are) early)
      ∙ sym (timed-cons clock line lines)

  pub all_lines : (lines : List KeptLine) (at clock : ℕ) → AreKept octets lines → clock ≤ CAPTURE_END
      → lines_by CAPTURE_END (timed_from clock (drop at (kept_requests read octets lines))) ≡ timed_from clock (drop at (kept_requests read octets lines))
  all_lines lines at clock are h =
      let same = drop-map (kept_request read octets) at lines in
      ap (λ (rs : List Request). lines_by CAPTURE_END (timed_from clock rs)) same ∙ all_by (drop at lines) clock (All-drop (IsKept octets) at lines are) h ∙ sym (ap (λ (rs : List Request). timed_from clock rs) same)

-- the first of the lines to come is not after the moment
module _ (upto : ℕ) (lines tail : List Timed) (a : Timed) (is : lines ≡ a ∷ tail) where
  pub by-more : a.moment ≤ upto → requests_of (lines_by upto lines) ≡ (a.request ∷ []) ++ requests_of (lines_by upto tail)
  by-more h = ap (λ (ls : List Timed). requests_of (lines_by upto ls)) is ∙ rw (le-leb a.moment upto h) refl

  pub past-more : a.moment ≤ upto → lines_past upto lines ≡ lines_past upto tail
  past-more h = ap (λ (ls : List Timed). lines_past upto ls) is ∙ rw (le-leb a.moment upto h) refl

  pub by-over : upto < a.moment → requests_of (lines_by upto lines) ≡ []
  by-over h = ap (λ (ls : List Timed). requests_of (lines_by upto ls)) is ∙ rw (lt-leb a.moment upto h) refl

  pub past-over : upto < a.moment → lines_past upto lines ≡ lines
  past-over h = ap (λ (ls : List Timed). lines_past upto ls) is ∙ rw (lt-leb a.moment upto h) (sym is)
