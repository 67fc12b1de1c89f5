-- The fields of a line, one after another.
use Rattle.std.proofs.Common.{◌≡◌, ℕ, ◌+◌, ◌<◌, List, [], ◌∷◌, length, Bool, true, false, refl, sym, ap, ◌∙◌, subst, cond, eqb, arith, drop, take}
use Rattle.std.specs.Prelude.{not}
use Rattle.std.specs.List.{onto_first, position_or_len, slice_split}
use Rattle.std.proofs.lemmas.List.Splits.{slice_split_first}
use Rattle.compare.specs.Fields.{fields_in}

abbrev pub comma : ℕ → Bool
comma octet = eqb octet 44

-- one octet more of a list in which no element passes
whole_by : (b : Bool) (x : ℕ) (xs : List ℕ) (n : ℕ) (parts : List (List ℕ)) → cond (not b) (1 + n) 0 ≡ length (x ∷ xs) → (n ≡ length xs → parts ≡ xs ∷ [])
    → cond b ([] ∷ parts) (onto_first x parts) ≡ (x ∷ xs) ∷ []
whole_by true x xs n parts e more = absurd (omega (arith, e))
whole_by false x xs n parts e more = ap (onto_first x) (more (omega (arith, e)))

-- a list in which no element passes is the one part
whole : (xs : List ℕ) → position_or_len comma xs ≡ length xs → slice_split comma xs ≡ xs ∷ []
whole [] e = refl
whole (x ∷ xs) e = whole_by (comma x) x xs (position_or_len comma xs) (slice_split comma xs) e (whole xs)

-- a line without a comma is its one field
pub one_field : (line : List ℕ) (end : ℕ) → end ≡ position_or_len comma line → end ≡ length line → fields_in line ≡ line ∷ []
unfolding fields_in
one_field line end e f = whole line (sym e ∙ f)

-- the first field ends at the first comma
pub first_field : (line : List ℕ) (end : ℕ) → end ≡ position_or_len comma line → end < length line → fields_in line ≡ take end line ∷ fields_in (drop (end + 1) line)
unfolding fields_in
first_field line end e short =
    let P : ℕ → Type 0 = λ n. slice_split comma line ≡ take n line ∷ slice_split comma (drop (n + 1) line) in
    subst P (sym e) (slice_split_first comma line 0 (subst (λ n. n < length line) e short))
