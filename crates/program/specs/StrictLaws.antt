-- What alerts find, one list after another.
use Rattle.std.proofs.Common.{◌≡◌, ◌||◌, Bool, true, false, List, [], ◌∷◌, ◌++◌, refl, sym, ap, ◌∙◌, subst}
use Rattle.std.specs.Prelude.{◌&&◌}
use Rattle.script.specs.Alerts.{Alert}
use Rattle.program.specs.Strict.{IsSeen, Sight, any_counts, are_plain, counts, is_plain}

or_none : (b : Bool) → b ≡ (b || false)
or_none true = refl
or_none false = refl

or_assoc : (a b c : Bool) → ((a || b) || c) ≡ (a || (b || c))
or_assoc true b c = refl
or_assoc false b c = refl

first_of_two : (a b : Bool) → (a && b) ≡ true → a ≡ true
first_of_two true b e = refl
first_of_two false b e = e

second_of_two : (a b : Bool) → (a && b) ≡ true → b ≡ true
second_of_two true b e = e
second_of_two false b e = absurd (cc)

both_of_two : (a b : Bool) → a ≡ true → b ≡ true → (a && b) ≡ true
both_of_two a b e f = ap (λ x. x && b) e ∙ f

pub counts-both : (frames : Bool) (xs ys : List Alert) → any_counts frames (xs ++ ys) ≡ (any_counts frames xs || any_counts frames ys)
counts-both frames [] ys = refl
counts-both frames (x ∷ xs) ys = ap (λ b. counts frames x || b) (counts-both frames xs ys) ∙ sym (or_assoc (counts frames x) (any_counts frames xs) (any_counts frames ys))

pub plain-first : (xs ys : List Alert) → are_plain (xs ++ ys) ≡ true → are_plain xs ≡ true
plain-first [] ys e = refl
plain-first (x ∷ xs) ys e =
    both_of_two (is_plain x) (are_plain xs) (first_of_two (is_plain x) (are_plain (xs ++ ys)) e) (plain-first xs ys (second_of_two (is_plain x) (are_plain (xs ++ ys)) e))

pub plain-second : (xs ys : List Alert) → are_plain (xs ++ ys) ≡ true → are_plain ys ≡ true
plain-second [] ys e = e
plain-second (x ∷ xs) ys e = plain-second xs ys (second_of_two (is_plain x) (are_plain (xs ++ ys)) e)

pub plain-both : (xs ys : List Alert) → are_plain xs ≡ true → are_plain ys ≡ true → are_plain (xs ++ ys) ≡ true
plain-both [] ys e f = f
plain-both (x ∷ xs) ys e f =
    both_of_two (is_plain x) (are_plain (xs ++ ys)) (first_of_two (is_plain x) (are_plain xs) e) (plain-both xs ys (second_of_two (is_plain x) (are_plain xs) e) f)

some_of : (a b : Bool) → a ≡ true → (a || b) ≡ true
some_of a b e = ap (λ x. x || b) e

other_of : (a b : Bool) → b ≡ true → (a || b) ≡ true
other_of true b e = refl
other_of false b e = e

pub none_seen : (s : Sight) → IsSeen [] s s
none_seen s = record { looks = refl; kept = λ some. or_none s.found ∙ some; exact = λ plain. or_none s.found; timed = λ plain. refl }

pub both_seen : (xs ys : List Alert) (s t u : Sight) → IsSeen xs s t → IsSeen ys t u → IsSeen (xs ++ ys) s u
both_seen xs ys s t u a b = record {
  looks = b.looks ∙ a.looks;
  kept = λ some. by (s.found || any_counts s.frames xs) refl (sym parts ∙ some);
  exact = λ plain.
      let here = a.exact (plain-first xs ys plain) in
      let then = b.exact (plain-second xs ys plain) in
      then ∙ ap (λ x. x || any_counts t.frames ys) here ∙ ap (λ x. (s.found || any_counts s.frames xs) || any_counts x ys) a.looks ∙ sym parts;
  timed = λ plain. b.timed (plain-second xs ys plain) ∙ a.timed (plain-first xs ys plain);
}
  where
    parts : (s.found || any_counts s.frames (xs ++ ys)) ≡ ((s.found || any_counts s.frames xs) || any_counts s.frames ys)
    parts = ap (λ x. s.found || x) (counts-both s.frames xs ys) ∙ sym (or_assoc s.found (any_counts s.frames xs) (any_counts s.frames ys))

    by : (c : Bool) → (s.found || any_counts s.frames xs) ≡ c → ((s.found || any_counts s.frames xs) || any_counts s.frames ys) ≡ true → u.found ≡ true
    by true e some = b.kept (some_of t.found (any_counts t.frames ys) (a.kept e))
    by false e some = b.kept (other_of t.found (any_counts t.frames ys) (ap (λ x. any_counts x ys) a.looks ∙ (sym (ap (λ x. x || any_counts s.frames ys) e) ∙ some)))
