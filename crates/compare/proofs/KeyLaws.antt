-- Octets keep the key that they got first, and no others get it.
use Rattle.std.proofs.Common.{◌≡◌, ℕ, ◌+◌, ◌≤◌, ◌<◌, Bool, true, false, cond, eqb, List, [], ◌∷◌, ◌++◌, length, get_or, inl, inr, refl, sym, ap, ◌∙◌, subst, arith}
use Rattle.std.specs.Prelude.{not}
use Rattle.std.specs.Str.{bytes_eq}
use Rattle.std.proofs.lemmas.Bool.Decides.{eqb_tells}
use Rattle.std.proofs.lemmas.List.{length-append}
use Rattle.std.proofs.lemmas.List.Folds.{position_or_len_push}
use Rattle.std.proofs.lemmas.List.Sums.{passes_at_first, prefix_len-le-length}
use Rattle.std.proofs.lemmas.Slice.Eq.{bytes_eq-Decides}
use Rattle.compare.specs.Frames.{payload_key, seen_after}
use Rattle.compare.specs.Law.{TellsApart, seen_behind}

-- octets have this key among those that came
abbrev Has : List (List ℕ) → List ℕ → ℕ → Type 0
Has seen octets key = (payload_key seen octets ≡ key) × (key < length seen)

-- by whether others are new
kept_by : (b : Bool) (seen : List (List ℕ)) (octets other : List ℕ) (key : ℕ) → Has seen octets key → Has (cond b (seen ++ other ∷ []) seen) octets key
kept_by false seen octets other key h = h
kept_by true seen octets other key h =
    let push = position_or_len_push (λ x. bytes_eq octets x) seen other in
    let place : eqb (payload_key seen octets) (length seen) ≡ false = elim (eqb_tells (payload_key seen octets) (length seen)) [ inl same ↦ absurd (omega (arith, same.1, h.0, h.1)) | inr apart ↦ apart.0 ] in
    (push ∙ ap (λ (t : Bool). cond t (length seen + cond (bytes_eq octets other) 0 1) (payload_key seen octets)) place ∙ h.0, omega (arith, h.1, length-append seen (other ∷ [])))

kept : (seen more : List (List ℕ)) (octets : List ℕ) (key : ℕ) → Has seen octets key → Has (seen_behind seen more) octets key
kept seen [] octets key h = h
kept seen (other ∷ more) octets key h = kept (seen_after seen other) more octets key (kept_by (eqb (payload_key seen other) (length seen)) seen octets other key h)

-- what comes has its key from then on
got : (seen : List (List ℕ)) (octets : List ℕ) → Has (seen_after seen octets) octets (payload_key seen octets)
got seen octets =
    let few : payload_key seen octets ≤ length seen = prefix_len-le-length (λ x. not (bytes_eq octets x)) seen in
    let P : Bool → Type 0 = λ b. Has (cond b (seen ++ octets ∷ []) seen) octets (payload_key seen octets) in
    elim (eqb_tells (payload_key seen octets) (length seen)) [
      | inl same ↦
          let key : payload_key (seen ++ octets ∷ []) octets ≡ length seen + 0 =
          position_or_len_push (λ x. bytes_eq octets x) seen octets ∙ (λ i. cond (same.0 i) (length seen + cond ((bytes_eq-Decides octets octets).1 refl i) 0 1) (payload_key seen octets)) in
          subst P (sym same.0) (omega (arith, key, same.1), omega (arith, same.1, length-append seen (octets ∷ [])))
      | inr apart ↦ subst P (sym apart.0) (refl, omega (arith, few, apart.1))
    ]

-- octets with a key stand at its place
stands : (seen : List (List ℕ)) (octets : List ℕ) (key : ℕ) → Has seen octets key → octets ≡ get_or seen key []
stands seen octets key h =
    let short : payload_key seen octets < length seen = omega (arith, h.0, h.1) in
    (bytes_eq-Decides octets (get_or seen (payload_key seen octets) [])).0 (passes_at_first (λ x. bytes_eq octets x) seen [] short) ∙ ap (λ (n : ℕ). get_or seen n []) h.0

pub tells_apart : TellsApart
tells_apart before between a b =
    let first = seen_behind [] before in
    let key = payload_key first a in
    let second = seen_behind (seen_after first a) between in
    let has : Has second a key = kept (seen_after first a) between a key (got first a) in
    (λ e. stands second a key has ∙ sym (stands second b key (sym e, has.1)), λ same. sym has.0 ∙ ap (payload_key second) same)
