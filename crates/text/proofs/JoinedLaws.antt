-- Words that are joined by spaces are read as those words.
use Rattle.std.proofs.Common.{◌≡◌, ℕ, List, [], ◌∷◌, ◌++◌, Bool, true, false, cond, eqb, refl, sym, ap, ◌∙◌, arith}
use Rattle.std.proofs.lemmas.List.{append-nil}
use Rattle.std.specs.Prelude.{not, ◌&&◌, ◌||◌}
use Rattle.std.specs.List.{list_all, onto_first, join_with_byte}
use Rattle.text.specs.Words.{is_blank, starts_with_line_feed, starts_with_break, starts_blank, words_of}
use Rattle.text.specs.Joined.{AreWords}

pub and_first : (t u : Bool) → (t && u) ≡ true → t ≡ true
and_first true u e = refl
and_first false u e = absurd cc

pub and_second : (t u : Bool) → (t && u) ≡ true → u ≡ true
and_second true u e = e
and_second false u e = absurd cc

not_true : (t : Bool) → not t ≡ true → t ≡ false
not_true true e = absurd cc
not_true false e = refl

-- the first octet of a word is no blank
first_unblank : (b : ℕ) (w : List ℕ) → list_all (λ octet. not (is_blank octet)) (b ∷ w) ≡ true → is_blank b ≡ false
first_unblank b w e = not_true (is_blank b) (and_first _ _ e)

-- an octet that is no blank ends no physical line
no_break_before : (b : ℕ) (bs : List ℕ) → is_blank b ≡ false → starts_with_break (b ∷ bs) ≡ false
no_break_before b bs e = by_tests (eqb b 32) (eqb b 9) (eqb b 13) (eqb b 10) (starts_with_line_feed bs) e
  where
    by_tests : (s t u v l : Bool) → (s || t || u || v) ≡ false → (v || (u && l)) ≡ false
    by_tests true t u v l e = absurd cc
    by_tests false true u v l e = absurd cc
    by_tests false false true v l e = absurd cc
    by_tests false false false true l e = absurd cc
    by_tests false false false false l e = refl

-- nor is it a blank before such an octet
no_blank : (b : ℕ) (bs : List ℕ) → is_blank b ≡ false → starts_with_break bs ≡ false → starts_blank (b ∷ bs) ≡ false
no_blank b bs e f = by_tests (is_blank b) (eqb b 92) (starts_with_break bs) e f
  where
    by_tests : (t u v : Bool) → t ≡ false → v ≡ false → (t || (u && v)) ≡ false
    by_tests true u v p q = absurd cc
    by_tests false true v p q = q
    by_tests false false v p q = refl

-- a word of which the rest is no part
pub word_before : (b : ℕ) (w rest : List ℕ) → list_all (λ octet. not (is_blank octet)) (b ∷ w) ≡ true → starts_blank rest ≡ true → starts_with_break rest ≡ false → words_of ((b ∷ w) ++ rest) ≡ (b ∷ w) ∷ words_of rest
word_before b [] rest e blank whole =
    let first = no_blank b rest (first_unblank b [] e) whole in
    rw (first, blank) refl
word_before b (c ∷ w) rest e blank whole =
    let more : list_all (λ octet. not (is_blank octet)) (c ∷ w) ≡ true = and_second _ _ e in
    let next : is_blank c ≡ false = first_unblank c w more in
    let first = no_blank b (c ∷ w ++ rest) (first_unblank b (c ∷ w) e) (no_break_before c (w ++ rest) next) in
    let second = no_blank c (w ++ rest) next (behind w more) in
    ap (λ t. cond t (words_of (c ∷ w ++ rest)) (cond (starts_blank (c ∷ w ++ rest)) ((b ∷ []) ∷ words_of (c ∷ w ++ rest)) (onto_first b (words_of (c ∷ w ++ rest))))) first
    ∙ ap (λ t. cond t ((b ∷ []) ∷ words_of (c ∷ w ++ rest)) (onto_first b (words_of (c ∷ w ++ rest)))) second
    ∙ ap (onto_first b) (word_before c w rest more blank whole)
  where
    behind : (w : List ℕ) → list_all (λ octet. not (is_blank octet)) (c ∷ w) ≡ true → starts_with_break (w ++ rest) ≡ false
    behind [] e = whole
    behind (d ∷ w) e = no_break_before d (w ++ rest) (first_unblank d w (and_second _ _ e))

pub joined_words : (words : List (List ℕ)) → AreWords words → words_of (join_with_byte 32 words) ≡ words
joined_words [] are = refl
joined_words ([] ∷ more) are = absurd (let some = are.0.some in omega arith)
joined_words ((b ∷ w) ∷ []) are = ap words_of (sym (append-nil (b ∷ w))) ∙ word_before b w [] are.0.unblank refl refl
joined_words ((b ∷ w) ∷ next ∷ more) are = word_before b w (32 ∷ join_with_byte 32 (next ∷ more)) are.0.unblank refl refl ∙ ap (λ (l : List (List ℕ)). (b ∷ w) ∷ l) (joined_words (next ∷ more) are.1)
