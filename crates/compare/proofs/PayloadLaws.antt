-- The numbers of octets, as a map has them.
use Rattle.std.proofs.Common.{◌≡◌, ◌⊎◌, ℕ, ◌+◌, ◌≤◌, ◌<◌, Bool, true, false, cond, eqb, List, [], ◌∷◌, ◌++◌, length, Option, Some, None, inl, inr, refl, sym, ap, ◌∙◌, subst, arith}
use Rattle.std.specs.Prelude.{is_some, not}
use Rattle.std.specs.Bool.{Decides}
use Rattle.std.specs.HashMap.{HashMap, UpdatesBy, get_by, hash_map_len}
use Rattle.std.specs.Map.{KeepsOthers}
use Rattle.std.specs.Str.{bytes_eq}
use Rattle.std.specs.declared.vec.Vec.{Vec}
use Rattle.std.proofs.lemmas.Bool.{eqb-true}
use Rattle.std.proofs.lemmas.Bool.Decides.{eqb_tells}
use Rattle.std.proofs.lemmas.List.{length-append}
use Rattle.std.proofs.lemmas.List.Folds.{position_or_len_push}
use Rattle.std.proofs.lemmas.List.Sums.{prefix_len-le-length}
use Rattle.std.proofs.lemmas.Slice.Eq.{bytes_eq-Decides}
use Rattle.compare.specs.Frames.{payload_key, seen_after}
use Rattle.compare.specs.Payloads.{AreNumbered, number_of}

-- 1. Tests

tell_by : {P : Type 0} (b : Bool) → Decides b P → ((b ≡ true) × P) ⊎ ((b ≡ false) × (P → ⊥))
tell_by true d = inl (refl, d.0 refl)
tell_by false d = inr (refl, λ p. let no : false ≡ true = d.1 p in cc)

bytes_tell : (xs ys : List ℕ) → ((bytes_eq xs ys ≡ true) × (xs ≡ ys)) ⊎ ((bytes_eq xs ys ≡ false) × (xs ≡ ys → ⊥))
bytes_tell xs ys = tell_by (bytes_eq xs ys) (bytes_eq-Decides xs ys)

bytes_apart : (xs ys : List ℕ) → (xs ≡ ys → ⊥) → bytes_eq xs ys ≡ false
bytes_apart xs ys other = elim (bytes_tell xs ys) [ inl same ↦ absurd (other same.1) | inr apart ↦ apart.0 ]

absent_by : (b : Bool) (k : ℕ) → cond b None (Some k) ≡ None → b ≡ true
absent_by true k e = refl
absent_by false k e = cc

none_at : (k n : ℕ) → k ≡ n → cond (eqb k n) None (Some k) ≡ None
none_at k n e = elim (eqb_tells k n) [ inl same ↦ ap (λ (b : Bool). cond b None (Some k)) same.0 | inr apart ↦ absurd (apart.1 e) ]

some_at : (k n : ℕ) → k < n → cond (eqb k n) None (Some k) ≡ Some k
some_at k n short = elim (eqb_tells k n) [ inl same ↦ absurd (omega (arith, same.1, short)) | inr apart ↦ ap (λ (b : Bool). cond b None (Some k)) apart.0 ]

-- 2. One more

module _ (seen : List (List ℕ)) (octets : List ℕ) where
  longer : length (seen ++ octets ∷ []) ≡ length seen + 1
  longer = length-append seen (octets ∷ [])

  -- the new octets get the next number
  new_number : eqb (payload_key seen octets) (length seen) ≡ true → number_of (seen ++ octets ∷ []) octets ≡ Some (length seen)
  new_number new =
      let key : payload_key (seen ++ octets ∷ []) octets ≡ length seen + 0 =
      position_or_len_push (λ other. bytes_eq octets other) seen octets
      ∙ (λ i. cond (new i) (length seen + cond ((bytes_eq-Decides octets octets).1 refl i) 0 1) (payload_key seen octets)) in
      some_at (payload_key (seen ++ octets ∷ []) octets) (length (seen ++ octets ∷ [])) (omega (arith, key, longer)) ∙ ap Some (omega (arith, key))

  -- others keep theirs
  kept_number : (other : List ℕ) → bytes_eq other octets ≡ false → number_of (seen ++ octets ∷ []) other ≡ number_of seen other
  kept_number other apart =
      let push = position_or_len_push (λ x. bytes_eq other x) seen octets in
      let few : payload_key seen other ≤ length seen = prefix_len-le-length (λ x. not (bytes_eq other x)) seen in
      elim (eqb_tells (payload_key seen other) (length seen)) [
        | inl same ↦
            let key : payload_key (seen ++ octets ∷ []) other ≡ length seen + 1 = push ∙ (λ i. cond (same.0 i) (length seen + cond (apart i) 0 1) (payload_key seen other)) in
            none_at (payload_key (seen ++ octets ∷ []) other) (length (seen ++ octets ∷ [])) (key ∙ sym longer) ∙ sym (none_at (payload_key seen other) (length seen) same.1)
        | inr differ ↦
            let key : payload_key (seen ++ octets ∷ []) other ≡ payload_key seen other = push ∙ ap (λ (b : Bool). cond b (length seen + cond (bytes_eq other octets) 0 1) (payload_key seen other)) differ.0 in
            let short : payload_key seen other < length seen = omega (arith, few, differ.1) in
            some_at (payload_key (seen ++ octets ∷ []) other) (length (seen ++ octets ∷ [])) (omega (arith, key, short, longer)) ∙ ap Some key ∙ sym (some_at (payload_key seen other) (length seen) short)
      ]

-- 3. The map

module _ {A : Type 0} where
  abbrev pub same_key : Vec ℕ A → Vec ℕ A → Bool
  same_key x y = bytes_eq x.items y.items

  abbrev pub has : List ℕ → Vec ℕ A → Bool
  has octets key = bytes_eq octets key.items

module _ {A S : Type 0} where
  module _ (m n : HashMap (Vec ℕ A) ℕ S) (key : Vec ℕ A) (number : ℕ) (updates : UpdatesBy same_key (same_key key) m n (Some number)) where
    found : get_by (has key.items) n ≡ Some number
    found = updates.1

    others_kept : (other : List ℕ) → (other ≡ key.items → ⊥) → get_by (has other) n ≡ get_by (has other) m
    unfolding KeepsOthers
    others_kept other apart =
        updates.3 (has other)
        (λ x y e. ap (λ (l : List ℕ). bytes_eq l y.items) ((bytes_eq-Decides other x.items).0 e))
        (λ k e. bytes_apart other k.items (λ same. apart (same ∙ sym ((bytes_eq-Decides key.items k.items).0 e))))

  -- new octets get the next number
  pub numbered_more : (seen : List (List ℕ)) (octets : List ℕ) (m n : HashMap (Vec ℕ A) ℕ S) (key : Vec ℕ A) (number : ℕ) (old : Option ℕ) → AreNumbered seen m → get_by (has octets) m ≡ None → number ≡ hash_map_len m
      → key.items ≡ octets → UpdatesBy same_key (same_key key) m n (Some number) → old ≡ get_by (same_key key) m → hash_map_len n ≡ hash_map_len m + cond (is_some old) 0 1
      → (number ≡ payload_key seen octets) × AreNumbered (seen_after seen octets) n
  numbered_more seen octets m n key number old are none is items updates was len =
      let new : eqb (payload_key seen octets) (length seen) ≡ true = absent_by (eqb (payload_key seen octets) (length seen)) (payload_key seen octets) (sym (are.each octets) ∙ none) in
      let place : payload_key seen octets ≡ length seen = eqb-true _ _ new in
      let after : seen_after seen octets ≡ seen ++ octets ∷ [] = ap (λ (b : Bool). cond b (seen ++ octets ∷ []) seen) new in
      let absent : old ≡ None = was ∙ ap (λ (l : List ℕ). get_by (has l) m) items ∙ none in
      let one : hash_map_len n ≡ hash_map_len m + 1 = len ∙ ap (λ (o : Option ℕ). hash_map_len m + cond (is_some o) 0 1) absent in
      let P : List (List ℕ) → Type 0 = λ all. AreNumbered all n in (
        is ∙ are.count ∙ sym place,
        subst P (sym after) (record {
          each = λ other. elim (bytes_tell other octets) [
            | inl same ↦
                ap (λ (l : List ℕ). get_by (has l) n) (same.1 ∙ sym items) ∙ found m n key number updates ∙ ap Some (is ∙ are.count) ∙ sym (new_number seen octets new)
                ∙ ap (number_of (seen ++ octets ∷ [])) (sym same.1)
            | inr apart ↦ others_kept m n key number updates other (λ e. apart.1 (e ∙ items)) ∙ are.each other ∙ sym (kept_number seen octets other apart.0)
          ];
          count = one ∙ ap (λ (k : ℕ). k + 1) are.count ∙ sym (longer seen octets);
        }),
      )
