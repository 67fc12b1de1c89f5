-- The bands of a class from gate event to gate event.
use Rattle.std.proofs.Common.{◌≡◌, ◌<◌, ◌≤◌, ℕ, ◌+◌, ◌-◌, List, Option, Some, None, MatchOption, unwrap_or, sym, ap, ◌∙◌, arith, le_refl}
use Rattle.std.specs.Prelude.{IfSome}
use Rattle.picture.specs.Words.{opens, Accepted, gates, kept, IsCurrent, IsSteady, ClassLane, Drawing, begun, with_bands, stepped, drawn, up_to, first_drawn, class_at}
use Rattle.gates.proofs.HistoryLaws.{kept_kept, kept_gates, past_later}
use Rattle.picture.proofs.BandLaws.{drawn_on, bands_same}

-- the moment up to which one mask shows: that of the next gate event, if there is one before
pub steady_to : (h : List Accepted) (t before : ℕ) (event : Option ℕ) → MatchOption event (IsSteady h t before) (λ u. IsSteady h t u) → IsSteady h t (unwrap_or event before)
steady_to h t before None same = same
steady_to h t before (Some u) same = same

pub later_to : (t before : ℕ) (event : Option ℕ) → t < before → IfSome event (λ u. (t < u) × (u < before)) → t < unwrap_or event before
later_to t before None l between = l
later_to t before (Some u) l between = between.0

pub within_to : (t before : ℕ) (event : Option ℕ) → IfSome event (λ u. (t < u) × (u < before)) → unwrap_or event before ≤ before
within_to t before None between = le_refl before
within_to t before (Some u) between = omega (arith, between.1)

module _ (h : List Accepted) (first : ℕ) (current : IsCurrent h first) where
  -- what is kept at a moment is kept of what was kept before
  pub kept_on : (m n : ℕ) (k : List Accepted) → first ≤ m → m ≤ n → k ≡ kept h m → kept k n ≡ kept h n
  kept_on m n k l r e = ap (λ x. kept x n) e ∙ kept_kept 0 m h current.rising (past_later first m h l current.past) n r

  -- and shows the same masks from then on
  pub gates_on : (m n : ℕ) (k : List Accepted) → first ≤ m → m ≤ n → k ≡ kept h m → gates k n ≡ gates h n
  gates_on m n k l r e = ap (λ x. gates x n) e ∙ kept_gates 0 m h current.rising (past_later first m h l current.past) n r

  -- a stretch more of one mask
  pub drawn_to : (now next : ℕ) (k : List Accepted) (class : ℕ) (c : ClassLane) → first ≤ now → now < next → k ≡ kept h now → IsSteady k now next
      → stepped (opens (gates k now) class) now (drawn (gates h) class first (now - first) c) ≡ drawn (gates h) class first (next - first) c
  drawn_to now next k class c l r e same =
      let at : first + (now - first) ≡ now = omega arith in
      let whole : (now - first) + (next - now) ≡ next - first = omega arith in
      let here : gates k now ≡ gates h now = gates_on now now k l (le_refl now) e in
      let flat : (i : ℕ) → first + (now - first) ≤ i → i < first + (now - first) + (next - now) → opens (gates h i) class ≡ opens (gates h (first + (now - first))) class =
      λ i from below.
      ap (λ m. opens m class) (sym (gates_on now i k l (omega (arith, from)) e) ∙ same i (omega (arith, from)) (omega (arith, below)) ∙ here ∙ ap (gates h) (sym at)) in
      ap (λ m. stepped (opens m class) now (drawn (gates h) class first (now - first) c)) here
      ∙ ap (λ t. stepped (opens (gates h t) class) t (drawn (gates h) class first (now - first) c)) (sym at)
      ∙ drawn_on (gates h) class first (now - first) (next - now) c (omega arith) flat
      ∙ ap (λ n. drawn (gates h) class first n c) whole

  -- of what is kept at a moment the same is drawn from then on
  pub drawn_kept : (m n class : ℕ) (k : List Accepted) (c : ClassLane) → first ≤ m → k ≡ kept h m → drawn (gates k) class m n c ≡ drawn (gates h) class m n c
  drawn_kept m n class k c l e = ap (with_bands c) (bands_same (gates k) (gates h) class m n (begun c) (λ i from below. gates_on m i k l from e))

-- what is drawn up to a moment, where the gates go on to `first` at once
pub drawn_gone : (d : Drawing) (m first seen class : ℕ) (k : List Accepted) → IsCurrent d.history d.moment → first ≡ first_drawn d m → d.moment ≤ m → k ≡ kept d.history first
    → drawn (gates k) class first (seen - first) (class_at d.classes class) ≡ drawn (gates d.history) class (first_drawn d m) (seen - first_drawn d m) (class_at d.classes class)
drawn_gone d m first seen class k current is later e =
    drawn_kept d.history d.moment current first (seen - first) class k (class_at d.classes class) (omega (arith, is, later)) e
    ∙ ap (λ f. drawn (gates d.history) class f (seen - f) (class_at d.classes class)) is

pub up_to_within : (to : Option ℕ) (m : ℕ) → up_to to m ≤ m
up_to_within None m = le_refl m
up_to_within (Some to) m = omega arith
