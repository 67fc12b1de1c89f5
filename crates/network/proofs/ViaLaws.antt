-- A line of octets that is cut where a word begins behind a blank.
use Rattle.std.proofs.Common.{◌≡◌, ◌≤◌, ℕ, ◌+◌, zero, suc, List, [], ◌∷◌, ◌++◌, length, take, drop, Option, Some, None, Bool, true, false, cond, eqb, refl, sym, ap, ◌∙◌, subst, arith}
use Rattle.std.specs.Prelude.{◌&&◌, ◌||◌, not}
use Rattle.std.specs.List.{onto_first}
use Rattle.std.proofs.lemmas.List.{take-append-le, take_all, drop-append-le, drop_all}
use Rattle.text.specs.Words.{is_blank, starts_blank, starts_with_break, starts_with_line_feed, words_of}
use Rattle.network.specs.Lines.{are_via, via_from}
use Rattle.network.specs.ViaLaw.{IsCutAt, ViaLaw}

-- the last of octets is a blank; where there are none, this is so or not
abbrev ends_blank : Bool → List ℕ → Bool
ends_blank behind [] = behind
ends_blank behind (b ∷ bs) = ends_blank (is_blank b) bs

-- the first of octets is no blank
abbrev IsUnblank : List ℕ → Type 0
IsUnblank [] = ⊥
IsUnblank (b ∷ bs) = is_blank b ≡ false

no_feed : (b : ℕ) → is_blank b ≡ false → eqb b 10 ≡ false
no_feed b e = by_tests (eqb b 32) (eqb b 9) (eqb b 13) (eqb b 10) e
  where
    by_tests : (s t u v : Bool) → (s || t || u || v) ≡ false → v ≡ false
    by_tests true t u v e = absurd cc
    by_tests false true u v e = absurd cc
    by_tests false false true v e = absurd cc
    by_tests false false false v e = e

module _ (back : List ℕ) (unblank : IsUnblank back) where
  feedless : (xs : List ℕ) → IsUnblank xs → starts_with_line_feed xs ≡ false
  feedless [] u = absurd u
  feedless (b ∷ bs) u = no_feed b u

  feed_same : (cs : List ℕ) → starts_with_line_feed (cs ++ back) ≡ starts_with_line_feed cs
  feed_same [] = feedless back unblank
  feed_same (d ∷ ds) = refl

  break_same : (c : ℕ) (cs : List ℕ) → starts_with_break (c ∷ cs ++ back) ≡ starts_with_break (c ∷ cs)
  break_same c cs = ap (λ (t : Bool). eqb c 10 || (eqb c 13 && t)) (feed_same cs)

  blank_same : (b : ℕ) (bs : List ℕ) → ends_blank (is_blank b) bs ≡ true → starts_blank (b ∷ bs ++ back) ≡ starts_blank (b ∷ bs)
  blank_same b [] e = ap (λ (t : Bool). t || (eqb b 92 && starts_with_break back)) e ∙ sym (ap (λ (t : Bool). t || (eqb b 92 && starts_with_break [])) e)
  blank_same b (c ∷ cs) e = ap (λ (t : Bool). is_blank b || (eqb b 92 && t)) (break_same c cs)

  words_some : (bs : List ℕ) → starts_blank bs ≡ false → (w : List ℕ) × (ws : List (List ℕ)) × (words_of bs ≡ w ∷ ws)
  words_some [] e = absurd cc
  words_some (b ∷ bs) e = by_next (words_some bs) (starts_blank bs) refl
    where
      at_next : (t : Bool) → starts_blank bs ≡ t → words_of (b ∷ bs) ≡ cond t ((b ∷ []) ∷ words_of bs) (onto_first b (words_of bs))
      at_next t f =
          ap (λ (u : Bool). cond u (words_of bs) (cond (starts_blank bs) ((b ∷ []) ∷ words_of bs) (onto_first b (words_of bs)))) e
          ∙ ap (λ (u : Bool). cond u ((b ∷ []) ∷ words_of bs) (onto_first b (words_of bs))) f

      by_next : (starts_blank bs ≡ false → (w : List ℕ) × (ws : List (List ℕ)) × (words_of bs ≡ w ∷ ws)) → (t : Bool) → starts_blank bs ≡ t → (w : List ℕ) × (ws : List (List ℕ)) × (words_of (b ∷ bs) ≡ w ∷ ws)
      by_next more true f = (b ∷ [], words_of bs, at_next true f)
      by_next more false f = onto (more f)
        where
          onto : ((w : List ℕ) × (ws : List (List ℕ)) × (words_of bs ≡ w ∷ ws)) → (w : List ℕ) × (ws : List (List ℕ)) × (words_of (b ∷ bs) ≡ w ∷ ws)
          onto (w, ws, is) = (b ∷ w, ws, at_next false f ∙ ap (onto_first b) is)

  -- one octet more in front of words and others
  onto_more : (b : ℕ) (vs rest : List (List ℕ)) → ((w : List ℕ) × (ws : List (List ℕ)) × (vs ≡ w ∷ ws)) → onto_first b (vs ++ rest) ≡ onto_first b vs ++ rest
  onto_more b vs rest (w, ws, is) = ap (λ (xs : List (List ℕ)). onto_first b (xs ++ rest)) is ∙ sym (ap (λ (xs : List (List ℕ)). onto_first b xs ++ rest) is)

  one_more : (b : ℕ) (vs rest : List (List ℕ)) (t u : Bool) → (u ≡ false → (w : List ℕ) × (ws : List (List ℕ)) × (vs ≡ w ∷ ws))
      → cond t (vs ++ rest) (cond u ((b ∷ []) ∷ (vs ++ rest)) (onto_first b (vs ++ rest))) ≡ cond t vs (cond u ((b ∷ []) ∷ vs) (onto_first b vs)) ++ rest
  one_more b vs rest true u some = refl
  one_more b vs rest false true some = refl
  one_more b vs rest false false some = onto_more b vs rest (some refl)

  -- the words of octets that end with a blank, and those behind them
  words_cut : (front : List ℕ) → ends_blank true front ≡ true → words_of (front ++ back) ≡ words_of front ++ words_of back
  words_cut [] e = refl
  words_cut (b ∷ []) e =
      ap (λ (t : Bool). cond t (words_of back) (cond (starts_blank back) ((b ∷ []) ∷ words_of back) (onto_first b (words_of back)))) (blank_same b [] e ∙ blank_alone)
      ∙ sym (ap (λ (t : Bool). cond t [] ((b ∷ []) ∷ []) ++ words_of back) blank_alone)
    where
      blank_alone : starts_blank (b ∷ []) ≡ true
      blank_alone = ap (λ (t : Bool). t || (eqb b 92 && starts_with_break [])) e
  words_cut (b ∷ c ∷ cs) e =
      let rest = words_of back in
      let vs = words_of (c ∷ cs) in
      let both = words_cut (c ∷ cs) e in
      ap (λ (t : Bool). cond t (words_of (c ∷ cs ++ back)) (cond (starts_blank (c ∷ cs ++ back)) ((b ∷ []) ∷ words_of (c ∷ cs ++ back)) (onto_first b (words_of (c ∷ cs ++ back))))) (blank_same b (c ∷ cs) e)
      ∙ ap (λ (t : Bool). cond (starts_blank (b ∷ c ∷ cs)) (words_of (c ∷ cs ++ back)) (cond t ((b ∷ []) ∷ words_of (c ∷ cs ++ back)) (onto_first b (words_of (c ∷ cs ++ back))))) (blank_same c cs e)
      ∙ ap (λ (ws : List (List ℕ)). cond (starts_blank (b ∷ c ∷ cs)) ws (cond (starts_blank (c ∷ cs)) ((b ∷ []) ∷ ws) (onto_first b ws))) both
      ∙ one_more b vs rest (starts_blank (b ∷ c ∷ cs)) (starts_blank (c ∷ cs)) (words_some (c ∷ cs))

-- ---- where the word via is found

-- octets in front, which end with a blank, and the others, which begin with the word via
record IsFound (place : ℕ) (behind : Bool) (octets : List ℕ) (found : ℕ) : Type 0 where
  pub front : List ℕ
  pub back : List ℕ
  pub parts : octets ≡ front ++ back
  pub at : found ≡ place + length front
  pub ends : ends_blank behind front ≡ true
  pub unblank : IsUnblank back
  pub via : are_via (words_of back) ≡ true

of_octet : (place : ℕ) (behind : Bool) (b : ℕ) (bs : List ℕ)
    → via_from place behind (b ∷ bs) ≡ cond (behind && not (is_blank b) && are_via (words_of (b ∷ bs))) (Some place) (via_from (place + 1) (is_blank b) bs)
unfolding via_from
of_octet place behind b bs = refl

of_none : (place : ℕ) (behind : Bool) → via_from place behind [] ≡ None
unfolding via_from
of_none place behind = refl

all_three : (t u v : Bool) → (t && not u && v) ≡ true → (t ≡ true) × (u ≡ false) × (v ≡ true)
all_three true false v e = (refl, refl, e)
all_three true true v e = absurd cc
all_three false u v e = absurd cc

some_same : (m n : ℕ) → Some m ≡ Some n → m ≡ n
some_same m n e = cc

found : (place : ℕ) (behind : Bool) (octets : List ℕ) (q : ℕ) → via_from place behind octets ≡ Some q → IsFound place behind octets q
found place behind [] q e = absurd (let none = sym (of_none place behind) ∙ e in cc)
found place behind (b ∷ bs) q e = by_test (found (place + 1) (is_blank b) bs q) (behind && not (is_blank b) && are_via (words_of (b ∷ bs))) refl
  where
    is_cond : (t : Bool) → (behind && not (is_blank b) && are_via (words_of (b ∷ bs))) ≡ t → cond t (Some place) (via_from (place + 1) (is_blank b) bs) ≡ Some q
    is_cond t f = sym (of_octet place behind b bs ∙ ap (λ (u : Bool). cond u (Some place) (via_from (place + 1) (is_blank b) bs)) f) ∙ e

    by_test : (via_from (place + 1) (is_blank b) bs ≡ Some q → IsFound (place + 1) (is_blank b) bs q) → (t : Bool) → (behind && not (is_blank b) && are_via (words_of (b ∷ bs))) ≡ t → IsFound place behind (b ∷ bs) q
    by_test more true f =
        let all = all_three behind (is_blank b) (are_via (words_of (b ∷ bs))) f in
        let same = some_same place q (is_cond true f) in
        record { front = []; back = b ∷ bs; parts = refl; at = omega (arith, same); ends = all.0; unblank = all.1; via = all.2 }
    by_test more false f =
        let rest = more (is_cond false f) in
        let here = rest.at in
        record { front = b ∷ rest.front; back = rest.back; parts = ap (λ (xs : List ℕ). b ∷ xs) rest.parts; at = omega (arith, here); ends = rest.ends; unblank = rest.unblank; via = rest.via }

-- as octets in front of others
front_is : (front back : List ℕ) → take (length front) (front ++ back) ≡ front
front_is front back = take-append-le (length front) front back (omega arith) ∙ take_all (length front) front (omega arith)

back_is : (front back : List ℕ) → drop (length front) (front ++ back) ≡ back
back_is front back = drop-append-le (length front) front back (omega arith) ∙ ap (λ (xs : List ℕ). xs ++ back) (drop_all (length front) front (omega arith))

cut : (octets : List ℕ) (place : ℕ) → IsFound 0 true octets place → IsCutAt octets place
cut octets place is =
    let P : ℕ → Type 0 = λ n. IsCutAt octets n in
    let Q : List ℕ → Type 0 = λ xs. IsCutAt xs (length is.front) in
    let at : length is.front ≡ place = let e = is.at in omega (arith, e) in
    let here : IsCutAt (is.front ++ is.back) (length is.front) = record {
      words = words_cut is.back is.unblank is.front is.ends
          ∙ sym (ap (λ (xs : List ℕ). words_of xs ++ words_of (drop (length is.front) (is.front ++ is.back))) (front_is is.front is.back)
          ∙ ap (λ (xs : List ℕ). words_of is.front ++ words_of xs) (back_is is.front is.back));
      via = ap (λ (xs : List ℕ). are_via (words_of xs)) (back_is is.front is.back) ∙ is.via;
    } in
    subst P at (subst Q (sym is.parts) here)

pub via_law : ViaLaw
via_law octets place e = cut octets place (found 0 true octets place e)
