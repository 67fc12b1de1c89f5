-- The gates since the change moment are those of the plan alone, and repeat.
use Rattle.std.proofs.Common.{◌≡◌, ◌<◌, ◌≤◌, ℕ, zero, suc, ◌+◌, ◌-◌, ◌*◌, ◌%◌, Bool, leb, [], ◌∷◌, Some, None, inl, inr, refl, sym, ap, ◌∙◌, arith}
use Rattle.std.proofs.lemmas.Bool.{cases_Bool, le-ltb, le-leb}
use Rattle.std.proofs.Math.Nat.{add-mod_left}
use mathlib.Core.Path.{fun_ext}
use Rattle.gates.specs.Gate.{Plan, in_ps, mask_at, mask_since}
use Rattle.gates.specs.Open.{open_while}
use Rattle.gates.proofs.OpenLaws.{shift_while}
use Rattle.gates.specs.History.{Accepted, in_force, pending, gates, open_through, mask_under, mask_of_plan}
use Rattle.gates.proofs.StretchLaws.{unheld_is}
use Rattle.delay_bounds.specs.ForEver.{Repeats}
use Rattle.delay_bounds.specs.Walk.{may_by}

-- at which moments since its change moment a command lets a class have so much time
abbrev pub may_since : Accepted → ℕ → ℕ → ℕ → Bool
may_since a class m d = open_through (a ∷ []) class (a.change + m) d

-- one command alone, since its change moment
module _ (a : Accepted) (plan : Plan) (is : a.plan ≡ Some plan) (above : 0 < plan.cycle) where
  forced : (m : ℕ) → a.change ≤ m → in_force (a ∷ []) m ≡ Some a
  forced m le = rw (le-leb a.change m le) refl

  not_pending : (m : ℕ) → a.change ≤ m → pending (a ∷ []) m ≡ None
  not_pending m le = elim (cases_Bool (leb a.lead m)) [ inl t ↦ rw (t, le-ltb m a.change le) refl | inr f ↦ rw f refl ]

  shown : (m : ℕ) → a.change ≤ m → gates (a ∷ []) m ≡ mask_since (Some plan) a.change None m
  shown m le =
      ap (λ f. mask_under f (pending (a ∷ []) m) m) (forced m le)
      ∙ (ap (λ p. mask_under (Some a) p m) (not_pending m le)
      ∙ (ap (λ p. mask_of_plan p a.change None m) is
      ∙ unheld_is plan a.change m above le))

  shown_again : (k m : ℕ) → a.change ≤ m → gates (a ∷ []) (m + in_ps plan.cycle * k) ≡ gates (a ∷ []) m
  shown_again zero m le = let same : m + in_ps plan.cycle * 0 ≡ m = omega arith in ap (gates (a ∷ [])) same
  shown_again (suc k) m le =
      let at : m + in_ps plan.cycle * suc k ≡ m + in_ps plan.cycle * k + in_ps plan.cycle = grind arith in
      let later : a.change ≤ m + in_ps plan.cycle * k = omega arith in
      let e : m + in_ps plan.cycle * k + in_ps plan.cycle - a.change ≡ in_ps plan.cycle + (m + in_ps plan.cycle * k - a.change) = omega arith in
      ap (gates (a ∷ [])) at
      ∙ (shown (m + in_ps plan.cycle * k + in_ps plan.cycle) (omega arith)
      ∙ (ap (λ p. mask_at plan.entries (p % in_ps plan.cycle)) e
      ∙ (ap (mask_at plan.entries) (add-mod_left (in_ps plan.cycle) (m + in_ps plan.cycle * k - a.change))
      ∙ (sym (shown (m + in_ps plan.cycle * k) later)
      ∙ shown_again k m le))))

  pub may_repeats : (class k : ℕ) → Repeats (may_since a class) (in_ps plan.cycle * k)
  may_repeats class k m d =
      shift_while (gates (a ∷ [])) (gates (a ∷ [])) class (a.change + (m + in_ps plan.cycle * k)) (a.change + m) d
      (λ n less.
      let at : a.change + (m + in_ps plan.cycle * k) + n ≡ a.change + m + n + in_ps plan.cycle * k = omega arith in
      ap (gates (a ∷ [])) at ∙ shown_again k (a.change + m + n) (omega arith))

  -- since its change moment a command's gates are those of its plan alone: it doesn't matter when it was accepted
  pub may_alone : (class m d : ℕ) → may_since a class m d ≡ open_while (mask_since (Some plan) 0 None) class m d
  may_alone class m d =
      shift_while (gates (a ∷ [])) (mask_since (Some plan) 0 None) class (a.change + m) m d
      (λ n less.
      let since : a.change + m + n - a.change ≡ m + n - 0 = omega arith in
      shown (a.change + m + n) (omega arith) ∙ ap (λ p. mask_at plan.entries (p % in_ps plan.cycle)) since)

  pub same_gates : (class : ℕ) → may_since a class ≡ may_by plan class
  same_gates class = fun_ext (λ m. fun_ext (λ d. may_alone class m d))

-- the gates of a plan alone repeat
pub by_repeats : (plan : Plan) → 0 < plan.cycle → (class k : ℕ) → Repeats (may_by plan class) (in_ps plan.cycle * k)
by_repeats plan above class k m d =
    let a : Accepted = record { lead = 0; change = 0; plan = Some plan } in
    sym (may_alone a plan refl above class (m + in_ps plan.cycle * k) d) ∙ (may_repeats a plan refl above class k m d ∙ may_alone a plan refl above class m d)
