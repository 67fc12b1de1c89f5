-- A first word that stands before a space, or ends the line.
use Rattle.std.proofs.Common.{◌≡◌, ◌<◌, ◌≤◌, ℕ, ◌+◌, zero, suc, Bool, true, false, List, [], ◌∷◌, ◌++◌, length, get_or, take, drop, refl, sym, ap, ◌∙◌, subst, arith}
use Rattle.std.specs.Prelude.{nat_lt, not, ◌&&◌}
use Rattle.std.specs.List.{list_all}
use Rattle.std.proofs.lemmas.Bool.{lt-ltb}
use Rattle.std.proofs.lemmas.List.{take-append-drop, take-take, take_more}
use Rattle.text.specs.Words.{is_blank, starts_blank, starts_with_break, words_of}
use Rattle.text.proofs.JoinedLaws.{and_first, and_second, word_before}

pub both : (t u : Bool) → t ≡ true → u ≡ true → (t && u) ≡ true
both true u e f = f
both false u e f = absurd cc

all_push : (xs : List ℕ) (b : ℕ) → list_all (λ octet. not (is_blank octet)) xs ≡ true → not (is_blank b) ≡ true → list_all (λ octet. not (is_blank octet)) (xs ++ b ∷ []) ≡ true
all_push [] b e f = both _ _ f refl
all_push (x ∷ xs) b e f = both _ _ (and_first _ _ e) (all_push xs b (and_second _ _ e) f)

-- octets that are no blanks, one octet on
pub unblank_more : (i : ℕ) (octets : List ℕ) → i < length octets → list_all (λ octet. not (is_blank octet)) (take i octets) ≡ true → not (is_blank (get_or octets i 0)) ≡ true → list_all (λ octet. not (is_blank octet)) (take (i + 1) octets) ≡ true
unblank_more i octets within all one = ap (list_all (λ octet. not (is_blank octet))) (take_more octets i 0 within) ∙ all_push (take i octets) (get_or octets i 0) all one

above_space : (b : ℕ) → nat_lt 32 b ≡ true → not (is_blank b) ≡ true
above_space b e = grind arith

-- octets above the space are no blanks
pub above_unblank : (xs : List ℕ) → list_all (λ octet. nat_lt 32 octet) xs ≡ true → list_all (λ octet. not (is_blank octet)) xs ≡ true
above_unblank [] e = refl
above_unblank (b ∷ bs) e = both _ _ (above_space b (and_first _ _ e)) (above_unblank bs (and_second _ _ e))

-- among the first octets too
pub unblank_front : (end few : ℕ) (octets front : List ℕ) → end ≤ few → front ≡ take few octets → list_all (λ octet. nat_lt 32 octet) (take end front) ≡ true → list_all (λ octet. not (is_blank octet)) (take end octets) ≡ true
unblank_front end few octets front within is above =
    let same : take end front ≡ take end octets = ap (take end) is ∙ take-take end few octets within in
    ap (list_all (λ octet. not (is_blank octet))) (sym same) ∙ above_unblank (take end front) above

-- octets that are no blanks, before a blank, are the first word
pub plain_first : (end : ℕ) (octets : List ℕ) → 0 < end → end ≤ length octets → list_all (λ octet. not (is_blank octet)) (take end octets) ≡ true → starts_blank (drop end octets) ≡ true → starts_with_break (drop end octets) ≡ false → words_of octets ≡ take end octets ∷ words_of (drop end octets)
plain_first zero octets some within unblank blank whole = absurd (omega arith)
plain_first (suc k) [] some within unblank blank whole = absurd (omega arith)
plain_first (suc k) (b ∷ bs) some within unblank blank whole =
    sym (ap (λ (l : List ℕ). words_of (b ∷ l)) (take-append-drop k bs)) ∙ word_before b (take k bs) (drop k bs) unblank blank whole

-- two octets above the space, before a space, are the first word
pub pair_first : (octets : List ℕ) → 3 ≤ length octets → 32 < get_or octets 0 0 → 32 < get_or octets 1 0 → get_or octets 2 0 ≡ 32 → words_of octets ≡ (get_or octets 0 0 ∷ get_or octets 1 0 ∷ []) ∷ words_of (drop 3 octets)
pair_first [] there first second is = absurd (omega arith)
pair_first (a ∷ []) there first second is = absurd (omega arith)
pair_first (a ∷ b ∷ []) there first second is = absurd (omega arith)
pair_first (a ∷ b ∷ s ∷ bs) there first second is = subst (λ c. words_of (a ∷ b ∷ c ∷ bs) ≡ (a ∷ b ∷ []) ∷ words_of bs) (sym is) spaced
  where
    spaced : words_of (a ∷ b ∷ 32 ∷ bs) ≡ (a ∷ b ∷ []) ∷ words_of bs
    spaced = plain_first 2 (a ∷ b ∷ 32 ∷ bs) (omega arith) (omega arith) (above_unblank (a ∷ b ∷ []) (both _ _ (lt-ltb 32 a first) (both _ _ (lt-ltb 32 b second) refl))) refl refl
