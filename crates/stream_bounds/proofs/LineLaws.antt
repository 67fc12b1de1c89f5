-- The lines of classes and of streams, one after another.
use Rattle.std.proofs.Common.{◌≡◌, ◌<◌, ◌≤◌, ℕ, suc, ◌+◌, ◌-◌, Bool, false, List, [], ◌∷◌, ◌++◌, length, drop, get_or, slice_index_or, Option, Some, None, refl, sym, ap, ◌∙◌, arith}
use Rattle.std.proofs.lemmas.List.{at_drop_all, at_drop_more}
use Rattle.abstract_port.specs.declared.Change.{Change}
use Rattle.stream_bounds.specs.BoundLines.{bound_lines, class_finding, class_finding_in, class_line, class_lines, flag_text, flag_texts, finding_in, first_of, stream_finding, stream_text}
use Rattle.stream_bounds.specs.Classes.{class_of}
use Rattle.stream_bounds.specs.Verdicts.{ClassAnswer, answer_at, extra_of, left_after, needs_of, next_delay}
use Rattle.stream_bounds.specs.declared.extras.Extra.{Extra}
use Rattle.stream_bounds.specs.declared.faults.Finding.{Finding}
use Rattle.stream_bounds.specs.declared.settings.BoundsSettings.{BoundsSettings}
use Rattle.stream_bounds.specs.declared.verdicts.Delay.{Delay}
use Rattle.stream_bounds.specs.declared.verdicts.Needs.{Needs}
use Rattle.stream_bounds.specs.declared.verdicts.Verdict.{Verdict}
use Rattle.traffic.specs.declared.table.Stream.{Stream}

-- the line of one class more
pub class_more : (room : ℕ) (answers : List ClassAnswer) (class : ℕ) (v : Verdict) → class < 8 → v ≡ (answer_at answers class).verdict
    → class_lines room answers (8 - class) class ≡ class_line class room v ++ class_lines room answers (8 - (class + 1)) (class + 1)
unfolding class_lines
class_more room answers class v less is =
    let step : 8 - class ≡ suc (8 - (class + 1)) = omega arith in
    ap (λ n. class_lines room answers n class) step ∙ ap (λ w. class_line class room w ++ class_lines room answers (8 - (class + 1)) (class + 1)) (sym is)

-- there are no more
pub class_end : (room : ℕ) (answers : List ClassAnswer) (class : ℕ) → 8 ≤ class → class_lines room answers (8 - class) class ≡ []
unfolding class_lines
class_end room answers class over = ap (λ n. class_lines room answers n class) (let none : 8 - class ≡ 0 = omega arith in none)

-- one class more of those that are meant
pub flag_more : (flags : List Bool) (class : ℕ) → class < 8
    → flag_texts flags (8 - class) class ≡ flag_text (slice_index_or flags class false) class ++ flag_texts flags (8 - (class + 1)) (class + 1)
unfolding flag_texts
flag_more flags class less =
    ap (λ n. flag_texts flags n class) (let step : 8 - class ≡ suc (8 - (class + 1)) = omega arith in step)

-- there are no more
pub flag_end : (flags : List Bool) (class : ℕ) → 8 ≤ class → flag_texts flags (8 - class) class ≡ []
unfolding flag_texts
flag_end flags class over = ap (λ n. flag_texts flags n class) (let none : 8 - class ≡ 0 = omega arith in none)

-- findings one after another
first_of_three : (a b c : Option Finding) → first_of (first_of a b) c ≡ first_of a (first_of b c)
first_of_three (Some x) b c = refl
first_of_three None b c = refl

none_later : (a : Option Finding) → first_of a None ≡ a
none_later (Some x) = refl
none_later None = refl

module _ (answers : List ClassAnswer) where
  one_class : (n class : ℕ) → class_finding_in answers (suc n) class ≡ first_of (class_finding class (answer_at answers class).verdict) (class_finding_in answers n (class + 1))
  unfolding class_finding_in
  one_class n class = refl

  no_class : (class : ℕ) → class_finding_in answers 0 class ≡ None
  unfolding class_finding_in
  no_class class = refl

  -- the finding about one class more
  pub class_found_more : (class : ℕ) (v : Verdict) (first found now all : Option Finding) → class < 8
      → v ≡ (answer_at answers class).verdict → found ≡ class_finding class v → now ≡ first_of first found
      → first_of first (class_finding_in answers (8 - class) class) ≡ all → first_of now (class_finding_in answers (8 - (class + 1)) (class + 1)) ≡ all
  class_found_more class v first found now all less is found_is now_is so_far =
      let rest : Option Finding = class_finding_in answers (8 - (class + 1)) (class + 1) in
      let step : 8 - class ≡ suc (8 - (class + 1)) = omega arith in
      let whole = ap (λ n. class_finding_in answers n class) step ∙ one_class (8 - (class + 1)) class in
      ap (λ f. first_of f rest) (now_is ∙ ap (first_of first) (found_is ∙ ap (class_finding class) is))
      ∙ (first_of_three first (class_finding class (answer_at answers class).verdict) rest
      ∙ (sym (ap (first_of first) whole) ∙ so_far))

  -- there are no more
  pub class_found_end : (class : ℕ) (first all : Option Finding) → 8 ≤ class → first_of first (class_finding_in answers (8 - class) class) ≡ all → first ≡ all
  class_found_end class first all over so_far =
      let none : 8 - class ≡ 0 = omega arith in
      sym (none_later first) ∙ (sym (ap (first_of first) (ap (λ n. class_finding_in answers n class) none ∙ no_class class)) ∙ so_far)

module _ (s : BoundsSettings) (c : Change) where
  one_line : (answers : List ClassAnswer) (x : Stream) (xs : List Stream) → bound_lines s c answers (x ∷ xs)
      ≡ stream_text s.slack (needs_of s.port.rate x) x (next_delay s c answers x) (extra_of answers (class_of s c x))
      ++ bound_lines s c (left_after answers (class_of s c x)) xs
  unfolding bound_lines
  one_line answers x xs = refl

  no_line : (answers : List ClassAnswer) → bound_lines s c answers [] ≡ []
  unfolding bound_lines
  no_line answers = refl

  one_finding : (answers : List ClassAnswer) (x : Stream) (xs : List Stream) → finding_in s c answers (x ∷ xs)
      ≡ first_of (stream_finding (needs_of s.port.rate x) x (next_delay s c answers x) x.deadline) (finding_in s c (left_after answers (class_of s c x)) xs)
  unfolding finding_in
  one_finding answers x xs = refl

  no_finding : (answers : List ClassAnswer) → finding_in s c answers [] ≡ None
  unfolding finding_in
  no_finding answers = refl

  -- the line of one stream more
  pub stream_more : (answers : List ClassAnswer) (xs : List Stream) (i : ℕ) (d : Stream) → i < length xs
      → bound_lines s c answers (drop i xs)
      ≡ stream_text s.slack (needs_of s.port.rate (get_or xs i d)) (get_or xs i d) (next_delay s c answers (get_or xs i d))
      (extra_of answers (class_of s c (get_or xs i d))) ++ bound_lines s c (left_after answers (class_of s c (get_or xs i d))) (drop (i + 1) xs)
  stream_more answers xs i d less = at_drop_more (bound_lines s c answers) xs i d less ∙ one_line answers (get_or xs i d) (drop (i + 1) xs)

  pub stream_end : (answers : List ClassAnswer) (xs : List Stream) (i : ℕ) → length xs ≤ i → bound_lines s c answers (drop i xs) ≡ []
  stream_end answers xs i over = at_drop_all (bound_lines s c answers) xs i over ∙ no_line answers

  -- in the words of the code
  pub told_more : (answers left : List ClassAnswer) (xs : List Stream) (i : ℕ) (d : Stream) (needs : Needs) (delay : Delay) (extra : Extra)
      → i < length xs → needs ≡ needs_of s.port.rate (get_or xs i d) → delay ≡ next_delay s c answers (get_or xs i d)
      → extra ≡ extra_of answers (class_of s c (get_or xs i d)) → left ≡ left_after answers (class_of s c (get_or xs i d))
      → bound_lines s c answers (drop i xs) ≡ stream_text s.slack needs (get_or xs i d) delay extra ++ bound_lines s c left (drop (i + 1) xs)
  told_more answers left xs i d needs delay extra less needs_is delay_is extra_is left_is =
      let x : Stream = get_or xs i d in
      let rest : List Stream = drop (i + 1) xs in
      let after : List ClassAnswer = left_after answers (class_of s c x) in
      stream_more answers xs i d less
      ∙ (ap (λ n. stream_text s.slack n x (next_delay s c answers x) (extra_of answers (class_of s c x)) ++ bound_lines s c after rest) (sym needs_is)
      ∙ (ap (λ e. stream_text s.slack needs x e (extra_of answers (class_of s c x)) ++ bound_lines s c after rest) (sym delay_is)
      ∙ (ap (λ j. stream_text s.slack needs x delay j ++ bound_lines s c after rest) (sym extra_is)
      ∙ ap (λ l. stream_text s.slack needs x delay extra ++ bound_lines s c l rest) (sym left_is))))

  -- its finding
  pub finding_more : (answers : List ClassAnswer) (xs : List Stream) (i : ℕ) (d : Stream) (first all : Option Finding) → i < length xs
      → first_of first (finding_in s c answers (drop i xs)) ≡ all
      → first_of (first_of first (stream_finding (needs_of s.port.rate (get_or xs i d)) (get_or xs i d) (next_delay s c answers (get_or xs i d)) (get_or xs i d).deadline))
      (finding_in s c (left_after answers (class_of s c (get_or xs i d))) (drop (i + 1) xs)) ≡ all
  finding_more answers xs i d first all less so_far =
      first_of_three first _ _
      ∙ (sym (ap (first_of first) (at_drop_more (finding_in s c answers) xs i d less ∙ one_finding answers (get_or xs i d) (drop (i + 1) xs))) ∙ so_far)

  pub found_more : (answers left : List ClassAnswer) (xs : List Stream) (i : ℕ) (d : Stream) (needs : Needs) (delay : Delay) (first found now all : Option Finding) → i < length xs
      → needs ≡ needs_of s.port.rate (get_or xs i d) → delay ≡ next_delay s c answers (get_or xs i d) → left ≡ left_after answers (class_of s c (get_or xs i d))
      → found ≡ stream_finding needs (get_or xs i d) delay (get_or xs i d).deadline → now ≡ first_of first found
      → first_of first (finding_in s c answers (drop i xs)) ≡ all → first_of now (finding_in s c left (drop (i + 1) xs)) ≡ all
  found_more answers left xs i d needs delay first found now all less needs_is delay_is left_is found_is now_is so_far =
      let x : Stream = get_or xs i d in
      let rest : List Stream = drop (i + 1) xs in
      ap (λ f. first_of f (finding_in s c left rest)) now_is
      ∙ (ap (λ f. first_of (first_of first f) (finding_in s c left rest)) found_is
      ∙ (ap (λ l. first_of (first_of first (stream_finding needs x delay x.deadline)) (finding_in s c l rest)) left_is
      ∙ (ap (λ e. first_of (first_of first (stream_finding needs x e x.deadline)) (finding_in s c (left_after answers (class_of s c x)) rest)) delay_is
      ∙ (ap (λ n. first_of (first_of first (stream_finding n x (next_delay s c answers x) x.deadline)) (finding_in s c (left_after answers (class_of s c x)) rest)) needs_is
      ∙ finding_more answers xs i d first all less so_far))))

  pub finding_end : (answers : List ClassAnswer) (xs : List Stream) (i : ℕ) (first all : Option Finding) → length xs ≤ i
      → first_of first (finding_in s c answers (drop i xs)) ≡ all → first ≡ all
  finding_end answers xs i first all over so_far = sym (none_later first) ∙ (sym (ap (first_of first) (at_drop_all (finding_in s c answers) xs i over ∙ no_finding answers)) ∙ so_far)
