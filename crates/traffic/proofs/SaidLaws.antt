-- The lines of frames say those frames.
use Rattle.std.proofs.Common.{◌≡◌, ℕ, ◌+◌, ◌-◌, ◌*◌, ◌/◌, ◌%◌, ◌^◌, ◌<◌, ◌≤◌, Bool, true, false, eqb, ltb, cond, List, [], ◌∷◌, ◌++◌, length, Option, Some, None, Ok, Err, refl, sym, ap, ◌∙◌, arith, decimal, length-append}
use Rattle.std.specs.Prelude.{◌&&◌, codes, option_and_then}
use Rattle.std.specs.List.{list_all}
use Rattle.std.proofs.lemmas.Bool.{le-leb, lt-ltb, ne_eqb}
use Rattle.std.proofs.lemmas.Fmt.{decimal_by_steps_wide}
use Rattle.wire_time.specs.Moment.{greatest_moment}
use Rattle.abstract_port.specs.declared.Event.TheVariants.{Arrive, Clock}
use Rattle.text.specs.Numbers.{IsNumber, at_most, digit_in, is_digit, number_in, value_behind}
use Rattle.text.specs.Words.{words_of}
use Rattle.text.proofs.FrontLaws.{number_before}
use Rattle.script.specs.Requests.{clock_event, clock_with, frame_event, frame_with, said, said_in}
use Rattle.script.specs.declared.faults.ScriptFault.TheVariants.{ClockTooLate}
use Rattle.script.specs.declared.script_line.Said.TheVariants as Says
use Rattle.traffic.specs.Merged.{IsComing, clock_words, frame_words, tag_words}
use Rattle.traffic.specs.declared.course.Coming.{Coming}

-- ---- decimal numbers

digit_value : (d : ℕ) → d < 10 → digit_in 10 (48 + d) ≡ Some d
digit_value d small = grind arith

digit_is : (d : ℕ) → d < 10 → is_digit (48 + d) ≡ true
digit_is d small = grind arith

nothing_behind : (n : ℕ) → value_behind 10 n [] ≡ Some n
unfolding value_behind
nothing_behind n = refl

one_behind : (n b : ℕ) (bs : List ℕ) → value_behind 10 n (b ∷ bs) ≡ option_and_then (λ d. value_behind 10 (n * 10 + d) bs) (digit_in 10 b)
unfolding value_behind
one_behind n b bs = refl

digit_behind : (n d : ℕ) → d < 10 → value_behind 10 n ((48 + d) ∷ []) ≡ Some (n * 10 + d)
digit_behind n d small =
    one_behind n (48 + d) [] ∙ ap (option_and_then (λ k. value_behind 10 (n * 10 + k) [])) (digit_value d small) ∙ nothing_behind (n * 10 + d)

value-append : (xs ys : List ℕ) (n : ℕ) → value_behind 10 n (xs ++ ys) ≡ option_and_then (λ v. value_behind 10 v ys) (value_behind 10 n xs)
value-append [] ys n = sym (ap (option_and_then (λ v. value_behind 10 v ys)) (nothing_behind n))
value-append (b ∷ bs) ys n =
    one_behind n b (bs ++ ys) ∙ by_digit (digit_in 10 b) (λ k. value-append bs ys k) ∙ sym (ap (option_and_then (λ v. value_behind 10 v ys)) (one_behind n b bs))
  where
    by_digit : (o : Option ℕ) → ((k : ℕ) → value_behind 10 k (bs ++ ys) ≡ option_and_then (λ v. value_behind 10 v ys) (value_behind 10 k bs))
        → option_and_then (λ d. value_behind 10 (n * 10 + d) (bs ++ ys)) o ≡ option_and_then (λ v. value_behind 10 v ys) (option_and_then (λ d. value_behind 10 (n * 10 + d) bs) o)
    by_digit None more = refl
    by_digit (Some d) more = more (n * 10 + d)

decimal_value : (n : ℕ) → n < 10 ^ 64 → value_behind 10 0 (decimal n) ≡ Some n
decimal_value n within =
    decimal_by_steps_wide (λ n ds. value_behind 10 0 ds ≡ Some n)
    (λ n small. (let same : 0 * 10 + n ≡ n = omega arith in digit_behind 0 n small ∙ ap Some same))
    (λ n ds large some.
    let whole : n / 10 * 10 + n % 10 ≡ n = omega arith in
    value-append ds ((48 + n % 10) ∷ []) 0 ∙ ap (option_and_then (λ v. value_behind 10 v ((48 + n % 10) ∷ []))) some ∙ digit_behind (n / 10) (n % 10) (omega arith) ∙ ap Some whole)
    n within

both : (t u : Bool) → t ≡ true → u ≡ true → (t && u) ≡ true
both true u e f = f
both false u e f = absurd cc

all-append : (xs ys : List ℕ) → list_all is_digit xs ≡ true → list_all is_digit ys ≡ true → list_all is_digit (xs ++ ys) ≡ true
all-append [] ys p q = q
all-append (x ∷ xs) ys p q = by_test (is_digit x) p (λ e. all-append xs ys e q)
  where
    by_test : (t : Bool) → (t && list_all is_digit xs) ≡ true → (list_all is_digit xs ≡ true → list_all is_digit (xs ++ ys) ≡ true) → (t && list_all is_digit (xs ++ ys)) ≡ true
    by_test true e more = more e
    by_test false e more = absurd cc

decimal_digits : (n : ℕ) → n < 10 ^ 64 → list_all is_digit (decimal n) ≡ true
decimal_digits n within =
    decimal_by_steps_wide (λ n ds. list_all is_digit ds ≡ true)
    (λ n small. both (is_digit (48 + n)) true (digit_is n small) refl)
    (λ n ds large some. all-append ds ((48 + n % 10) ∷ []) some (both (is_digit (48 + n % 10)) true (digit_is (n % 10) (omega arith)) refl))
    n within

decimal_some : (n : ℕ) → n < 10 ^ 64 → 0 < length (decimal n)
decimal_some n within =
    decimal_by_steps_wide (λ n ds. 0 < length ds)
    (λ n small. omega arith)
    (λ n ds large some. omega (arith, length-append ds ((48 + n % 10) ∷ [])))
    n within

decimal_number : (n : ℕ) → n < 10 ^ 64 → IsNumber (decimal n) n
decimal_number n within = record {
  digits = both (ltb 0 (length (decimal n))) (list_all is_digit (decimal n)) (lt-ltb 0 (length (decimal n)) (decimal_some n within)) (decimal_digits n within);
  number = λ most.
      let some = decimal_some n within in
      let filled : eqb (length (decimal n)) 0 ≡ false = ne_eqb (length (decimal n)) 0 (λ e. omega (arith, e, some)) in
      ap (λ t. cond t None (at_most most (value_behind 10 0 (decimal n)))) filled ∙ ap (at_most most) (decimal_value n within);
}

number_is : (most n : ℕ) → n < 10 ^ 64 → n ≤ most → number_in 10 most (decimal n) ≡ Some n
number_is most n within le = (decimal_number n within).number most ∙ ap (λ t. cond t (Some n) None) (le-leb n most le)

-- ---- the lines

clock_words_are : (m : ℕ) → m < 10 ^ 64 → words_of (decimal m ++ []) ≡ decimal m ∷ []
clock_words_are m within = number_before (decimal m) [] m (decimal_number m within) refl refl

clock_front : (xs : List ℕ) → said_in (codes "clock " ++ xs) ≡ said (clock_event (words_of xs))
clock_front xs = refl

pub clock_says : (m : ℕ) → m ≤ greatest_moment → said_in (clock_words m) ≡ Ok (Some (Says.Asked (Clock m)))
clock_says m within =
    let none : ltb greatest_moment m ≡ false = grind (arith, within) in
    clock_front (decimal m ++ []) ∙ ap (λ ws. said (clock_event ws)) (clock_words_are m (omega arith))
    ∙ ap (λ o. said (clock_with o)) (number_is (2 ^ 128 - 1) m (omega arith) (omega arith))
    ∙ ap (λ t. said (cond t (Err ClockTooLate) (Ok (Clock m)))) none

frame_front : (xs : List ℕ) → said_in (codes "frame " ++ xs) ≡ said (frame_event (words_of xs))
frame_front xs = refl

abbrev tag_list : Bool → List (List ℕ)
tag_list true = codes "tagged" ∷ []
tag_list false = []

frame_words_are : (f : Coming) (t : Bool) → IsComing f
    → words_of (decimal f.frame.id ++ (codes " " ++ (decimal f.frame.priority ++ (codes " " ++ (decimal f.frame.len ++ (tag_words t ++ []))))))
    ≡ decimal f.frame.id ∷ decimal f.frame.priority ∷ decimal f.frame.len ∷ tag_list t
frame_words_are f t is =
    let id = f.frame.id in
    let priority = f.frame.priority in
    let len = f.frame.len in
    number_before (decimal id) (codes " " ++ (decimal priority ++ (codes " " ++ (decimal len ++ (tag_words t ++ []))))) id (decimal_number id (omega (arith, is.id))) refl refl
    ∙ ap (λ ws. decimal id ∷ ws) (number_before (decimal priority) (codes " " ++ (decimal len ++ (tag_words t ++ []))) priority (decimal_number priority (omega (arith, is.priority))) refl refl)
    ∙ ap (λ ws. decimal id ∷ decimal priority ∷ ws) (by_tag t)
  where
    by_tag : (t : Bool) → words_of (decimal f.frame.len ++ (tag_words t ++ [])) ≡ decimal f.frame.len ∷ tag_list t
    by_tag true = number_before (decimal f.frame.len) (codes " tagged") f.frame.len (decimal_number f.frame.len (omega (arith, is.len))) refl refl
    by_tag false = number_before (decimal f.frame.len) [] f.frame.len (decimal_number f.frame.len (omega (arith, is.len))) refl refl

frame_event_is : (f : Coming) (t : Bool) → IsComing f
    → frame_event (decimal f.frame.id ∷ decimal f.frame.priority ∷ decimal f.frame.len ∷ tag_list t) ≡ Ok (Arrive (record { id = f.frame.id; priority = f.frame.priority; len = f.frame.len; tagged = t }))
frame_event_is f t is = by_tag t
  where
    id_is : number_in 10 (2 ^ 64 - 1) (decimal f.frame.id) ≡ Some f.frame.id
    id_is = number_is (2 ^ 64 - 1) f.frame.id (omega (arith, is.id)) (omega (arith, is.id))

    priority_is : number_in 10 (2 ^ 8 - 1) (decimal f.frame.priority) ≡ Some f.frame.priority
    priority_is = number_is (2 ^ 8 - 1) f.frame.priority (omega (arith, is.priority)) (omega (arith, is.priority))

    len_is : number_in 10 (2 ^ 32 - 1) (decimal f.frame.len) ≡ Some f.frame.len
    len_is = number_is (2 ^ 32 - 1) f.frame.len (omega (arith, is.len)) (omega (arith, is.len))

    by_numbers : (t : Bool) → frame_with (number_in 10 (2 ^ 64 - 1) (decimal f.frame.id)) (number_in 10 (2 ^ 8 - 1) (decimal f.frame.priority)) (number_in 10 (2 ^ 32 - 1) (decimal f.frame.len)) t
        ≡ Ok (Arrive (record { id = f.frame.id; priority = f.frame.priority; len = f.frame.len; tagged = t }))
    by_numbers t = rw (id_is, priority_is, len_is) refl

    by_tag : (t : Bool) → frame_event (decimal f.frame.id ∷ decimal f.frame.priority ∷ decimal f.frame.len ∷ tag_list t) ≡ Ok (Arrive (record { id = f.frame.id; priority = f.frame.priority; len = f.frame.len; tagged = t }))
    by_tag true = by_numbers true
    by_tag false = by_numbers false

pub frame_says : (f : Coming) → IsComing f → said_in (frame_words f.frame) ≡ Ok (Some (Says.Asked (Arrive f.frame)))
frame_says f is =
    let t = f.frame.tagged in
    frame_front (decimal f.frame.id ++ (codes " " ++ (decimal f.frame.priority ++ (codes " " ++ (decimal f.frame.len ++ (tag_words t ++ []))))))
    ∙ ap (λ ws. said (frame_event ws)) (frame_words_are f t is)
    ∙ ap said (frame_event_is f t is)
