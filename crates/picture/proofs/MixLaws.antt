-- Times at whose moments a class is open at all, at some or at none.
use Rattle.std.proofs.Common.{◌≡◌, ◌<◌, ◌≤◌, ℕ, zero, suc, ◌+◌, Bool, true, false, ◌&&◌, ◌||◌, not, List, Option, Some, None, IsSome, refl, sym, ap, ◌∙◌, subst, inl, inr, arith, le_refl}
use Rattle.std.specs.Prelude.{slice_index_or, slice_set}
use Rattle.std.proofs.lemmas.Bool.{cases_lt}
use Rattle.std.proofs.lemmas.List.{get_or-set_same, get_or-set_other}
use Rattle.std.proofs.Math.Bool.{or-true}
use Rattle.gates.specs.Choice.{first_choice, may_go, may_start}
use Rattle.gates.proofs.ChoiceLaws.{greatest_below-passes, greatest_below-some}
use Rattle.gates.proofs.OpenLaws.{same_while}
use Rattle.picture.specs.Words.{opens, Accepted, gates, ClassLane, stepped, drawn_mixed, drawn_whole, is_mixed, no_needs, open_while, opens_within}

-- ---- a moment at which a class is open

pub opens_there : (masks : ℕ → ℕ) (class m n k : ℕ) → m ≤ k → k < m + n → opens (masks k) class ≡ true → opens_within masks class m n ≡ true
unfolding opens_within
opens_there masks class m zero k from below is = absurd (omega arith)
opens_there masks class m (suc n) k from below is = elim (cases_lt m k) [
  | inl later ↦ (ap (λ b. opens (masks m) class || b) (opens_there masks class (m + 1) n k (omega arith) (omega arith) is) ∙ or-true (opens (masks m) class))
  | inr here ↦ (let same : k ≡ m = omega arith in ap (λ b. b || opens_within masks class (m + 1) n) (ap (λ t. opens (masks t) class) (sym same) ∙ is))
]

-- none
pub opens_nowhere : (masks : ℕ → ℕ) (class m n : ℕ) → ((k : ℕ) → m ≤ k → k < m + n → opens (masks k) class ≡ false) → opens_within masks class m n ≡ false
unfolding opens_within
opens_nowhere masks class m zero none = refl
opens_nowhere masks class m (suc n) none =
    ap (λ b. b || opens_within masks class (m + 1) n) (none m (le_refl m) (omega arith))
    ∙ opens_nowhere masks class (m + 1) n (λ k from below. none k (omega arith) (omega arith))

-- of masks that agree
pub same_within : (f g : ℕ → ℕ) (class m n : ℕ) → ((k : ℕ) → m ≤ k → k < m + n → f k ≡ g k) → opens_within f class m n ≡ opens_within g class m n
unfolding opens_within
same_within f g class m zero same = refl
same_within f g class m (suc n) same =
    ap (λ x. opens x class || opens_within f class (m + 1) n) (same m (le_refl m) (omega arith))
    ∙ ap (λ b. opens (g m) class || b) (same_within f g class (m + 1) n (λ k from below. same k (omega arith) (omega arith)))

-- ---- by the choice among classes of which one alone needs the wire, for a picosecond

none_needed : (k : ℕ) → slice_index_or no_needs k None ≡ None
none_needed zero = refl
none_needed (suc zero) = refl
none_needed (suc (suc zero)) = refl
none_needed (suc (suc (suc zero))) = refl
none_needed (suc (suc (suc (suc zero)))) = refl
none_needed (suc (suc (suc (suc (suc zero))))) = refl
none_needed (suc (suc (suc (suc (suc (suc zero)))))) = refl
none_needed (suc (suc (suc (suc (suc (suc (suc zero))))))) = refl
none_needed (suc (suc (suc (suc (suc (suc (suc (suc k)))))))) = refl

one_moment : (masks : ℕ → ℕ) (class m : ℕ) → open_while masks class m 1 ≡ opens (masks m) class
unfolding open_while
one_moment masks class m = by (opens (masks m) class)
  where
    by : (b : Bool) → (b && true) ≡ b
    by true = refl
    by false = refl

module _ (h : List Accepted) (class m : ℕ) (low : class < 8) where
  other_waits : (k : ℕ) → (k ≡ class → ⊥) → may_go h m (slice_set no_needs class (Some 1)) k ≡ false
  other_waits k other = ap (may_start h m k) (get_or-set_other no_needs class k (Some 1) None other ∙ none_needed k)

  it_goes : may_go h m (slice_set no_needs class (Some 1)) class ≡ opens (gates h m) class
  it_goes = ap (may_start h m class) (get_or-set_same no_needs class (Some 1) None low) ∙ one_moment (gates h) class m

  chosen_opens : (k : ℕ) → may_go h m (slice_set no_needs class (Some 1)) k ≡ true → opens (gates h m) class ≡ true
  chosen_opens k goes = elim (cases_lt k class) [
    | inl before ↦ (let no = sym (other_waits k (λ e. omega (arith, e, before))) ∙ goes in absurd (cc))
    | inr after ↦ elim (cases_lt class k) [
      | inl behind ↦ (let no = sym (other_waits k (λ e. omega (arith, e, behind))) ∙ goes in absurd (cc))
      | inr upto ↦ (let same : k ≡ class = omega arith in sym it_goes ∙ ap (may_go h m (slice_set no_needs class (Some 1))) (sym same) ∙ goes)
    ]
  ]

  pub choice_opens : IsSome (first_choice h m (slice_set no_needs class (Some 1))) → opens (gates h m) class ≡ true
  choice_opens some = by (first_choice h m (slice_set no_needs class (Some 1))) refl some
    where
      by : (o : Option ℕ) → first_choice h m (slice_set no_needs class (Some 1)) ≡ o → IsSome o → opens (gates h m) class ≡ true
      by None e s = let no : false ≡ true = s in absurd (cc)
      by (Some k) e s = chosen_opens k (greatest_below-passes 8 (may_go h m (slice_set no_needs class (Some 1))) k e)

  pub no_choice_shut : first_choice h m (slice_set no_needs class (Some 1)) ≡ None → opens (gates h m) class ≡ false
  no_choice_shut none = by (opens (gates h m) class) refl
    where
      by : (b : Bool) → opens (gates h m) class ≡ b → opens (gates h m) class ≡ false
      by true e = let no : false ≡ true = subst IsSome none (greatest_below-some 8 (may_go h m (slice_set no_needs class (Some 1))) class low (it_goes ∙ e)) in absurd (cc)
      by false e = e

-- ---- what is drawn

pub whole_some : (masks : ℕ → ℕ) (class m n : ℕ) (c : ClassLane) → 0 < n → drawn_whole masks class m n c ≡ stepped (open_while masks class m n) m c
whole_some masks class m zero c some = absurd (omega arith)
whole_some masks class m (suc n) c some = refl

pub mixed_some : (masks : ℕ → ℕ) (class m n : ℕ) (c : ClassLane) → 0 < n → drawn_mixed masks class m n c ≡ stepped (is_mixed masks class m n) m c
mixed_some masks class m zero c some = absurd (omega arith)
mixed_some masks class m (suc n) c some = refl

pub whole_same : (f g : ℕ → ℕ) (class m n : ℕ) (c : ClassLane) → ((k : ℕ) → m ≤ k → k < m + n → f k ≡ g k) → drawn_whole f class m n c ≡ drawn_whole g class m n c
whole_same f g class m zero c same = refl
whole_same f g class m (suc n) c same = ap (λ b. stepped b m c) (same_while f g class m (suc n) same)

pub mixed_same : (f g : ℕ → ℕ) (class m n : ℕ) (c : ClassLane) → ((k : ℕ) → m ≤ k → k < m + n → f k ≡ g k) → drawn_mixed f class m n c ≡ drawn_mixed g class m n c
mixed_same f g class m zero c same = refl
mixed_same f g class m (suc n) c same =
    ap (λ b. stepped (b && not (open_while f class m (suc n))) m c) (same_within f g class m (suc n) same)
    ∙ ap (λ b. stepped (opens_within g class m (suc n) && not b) m c) (same_while f g class m (suc n) same)
