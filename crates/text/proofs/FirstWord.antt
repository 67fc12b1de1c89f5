-- The first word of a list of octets.
use Rattle.std.proofs.Common.{◌≡◌, ◌<◌, ℕ, suc, List, [], ◌∷◌, Bool, true, false, cond, zero, refl, sym, ap, ◌∙◌, length, take, drop, arith}
use Rattle.std.specs.List.{onto_first}
use Rattle.text.specs.Words.{starts_blank, word_length, words_of}

true≢false : true ≡ false → ⊥
true≢false e = cc

pub word_length_blank : (bs : List ℕ) → starts_blank bs ≡ true → word_length bs ≡ 0
word_length_blank [] e = refl
word_length_blank (b ∷ bs) e = ap (λ t. cond t 0 (suc (word_length bs))) e

pub words_of_blank : (b : ℕ) (bs : List ℕ) → starts_blank (b ∷ bs) ≡ true → words_of (b ∷ bs) ≡ words_of bs
words_of_blank b bs e = rw e refl

-- the word that the first octet begins
begun : (t : Bool) (b : ℕ) (bs : List ℕ) → starts_blank bs ≡ t → (starts_blank bs ≡ false → words_of bs ≡ take (word_length bs) bs ∷ words_of (drop (word_length bs) bs)) → cond t ((b ∷ []) ∷ words_of bs) (onto_first b (words_of bs)) ≡ (b ∷ take (word_length bs) bs) ∷ words_of (drop (word_length bs) bs)
begun true b bs h rest = ap (λ k. (b ∷ take k bs) ∷ words_of (drop k bs)) (sym (word_length_blank bs h))
begun false b bs h rest = ap (onto_first b) (rest h)

-- it and the words after it
pub first_word : (bs : List ℕ) → starts_blank bs ≡ false → words_of bs ≡ take (word_length bs) bs ∷ words_of (drop (word_length bs) bs)
first_word [] e = absurd (true≢false e)
first_word (b ∷ bs) e =
    ap (λ t. cond t (words_of bs) (cond (starts_blank bs) ((b ∷ []) ∷ words_of bs) (onto_first b (words_of bs)))) e
    ∙ begun (starts_blank bs) b bs refl (first_word bs)
    ∙ ap (λ n. take n (b ∷ bs) ∷ words_of (drop n (b ∷ bs))) (sym (ap (λ t. cond t 0 (suc (word_length bs))) e))

pub within_word : (n : ℕ) (bs : List ℕ) → starts_blank (drop n bs) ≡ false → n < length bs
within_word zero [] e = absurd (true≢false e)
within_word (suc n) [] e = absurd (true≢false e)
within_word zero (b ∷ bs) e = omega arith
within_word (suc n) (b ∷ bs) e = omega (arith, within_word n bs e)

pub word_length_more : (n : ℕ) (bs : List ℕ) → starts_blank (drop n bs) ≡ false → word_length (drop n bs) ≡ suc (word_length (drop (suc n) bs))
word_length_more zero [] e = absurd (true≢false e)
word_length_more (suc n) [] e = absurd (true≢false e)
word_length_more zero (b ∷ bs) e = ap (λ t. cond t 0 (suc (word_length bs))) e
word_length_more (suc n) (b ∷ bs) e = word_length_more n bs e
