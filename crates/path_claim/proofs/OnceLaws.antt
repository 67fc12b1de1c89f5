-- Each class is judged once.
use Rattle.std.proofs.Common.{◌≡◌, ◌⊎◌, inl, inr, ℕ, List, [], ◌∷◌, ◌++◌, length, Some, None, slice_get, sym, ap, ◌∙◌, subst}
use Rattle.std.proofs.lemmas.Option.{none-some}
use Rattle.any_traffic.proofs.ListLaws.{none_here}
use Rattle.path_bounds.specs.Answers.{pair_of, verdict_at}
use Rattle.path_bounds.specs.Judged.{AreJudged, AreSteps, IsStep, Known, class_in, port_in, unjudged}
use Rattle.path_bounds.specs.declared.hop.Hop.{Hop}
use Rattle.path_bounds.specs.declared.hop.PathPort.{PathPort}
use Rattle.path_claim.proofs.AnsweredLaws as Answers
use Rattle.path_claim.proofs.AnsweredLaws.{last_at}

-- two places of one class are one
abbrev pub AreOnce : List ℕ → Type 0
AreOnce order =
    (i j r s : ℕ) → slice_get order i ≡ Some r → slice_get order j ≡ Some s → port_in r ≡ port_in s → class_in r ≡ class_in s → i ≡ j

module _ (ports : List PathPort) (clocks : ℕ) where
  record IsKept (known : Known) : Type 0 where
    answers : Answers.IsKept ports clocks known
    once : AreOnce known.order

  module _ (pair : ℕ) (old new : Known) (kept : IsKept old) (step : IsStep ports clocks pair old new) where
    -- one that was judged before isn't the one that is judged now
    not_now : (i r : ℕ) → slice_get old.order i ≡ Some r → port_in r ≡ port_in pair → class_in r ≡ class_in pair → ⊥
    not_now i r e port class =
        let a = (kept.answers).all i r e in
        let at : verdict_at old.verdicts (pair_of (port_in r) (class_in r)) ≡ None
        = ap (λ (n : ℕ). verdict_at old.verdicts (pair_of n (class_in r))) port
        ∙ (ap (λ (n : ℕ). verdict_at old.verdicts (pair_of (port_in pair) n)) class ∙ step.free) in
        none-some a.verdict (sym at ∙ a.told)

    once_on : AreOnce (old.order ++ pair ∷ [])
    once_on i j r s one two port class = by (last_at old.order pair i r one) (last_at old.order pair j s two)
      where
        by : (slice_get old.order i ≡ Some r) ⊎ ((pair ≡ r) × (i ≡ length old.order))
            → (slice_get old.order j ≡ Some s) ⊎ ((pair ≡ s) × (j ≡ length old.order)) → i ≡ j
        by (inl first) (inl second) = kept.once i j r s first second port class
        by (inl first) (inr second) = absurd (not_now i r first (port ∙ sym (ap port_in second.0)) (class ∙ sym (ap class_in second.0)))
        by (inr first) (inl second) =
            absurd (not_now j s second (sym port ∙ sym (ap port_in first.0)) (sym class ∙ sym (ap class_in first.0)))
        by (inr first) (inr second) = first.1 ∙ sym second.1

    step_kept : IsKept new
    step_kept = record {
      answers = Answers.step_kept ports clocks pair old new kept.answers step;
      once = subst (λ (xs : List ℕ). AreOnce xs) (sym step.order) once_on;
    }

  steps_kept : (pairs : List ℕ) (old new : Known) → IsKept old → AreSteps ports clocks pairs old new → IsKept new
  steps_kept [] old new kept steps = subst (λ (k : Known). IsKept k) steps kept
  steps_kept (pair ∷ pairs) old new kept steps = steps_kept pairs steps.0 new (step_kept pair old steps.0 kept steps.1) steps.2

pub once_law : (ports : List PathPort) (clocks : ℕ) (hops : List Hop) (known : Known) → AreJudged ports clocks (unjudged ports hops) known
    → AreOnce known.order
once_law ports clocks hops known judged =
    (steps_kept ports clocks known.order (unjudged ports hops) known (record {
      answers = Answers.begin_kept ports clocks hops;
      once = λ (i j r s : ℕ) one two port class. absurd (none_here i r one);
    }) judged.steps).once
