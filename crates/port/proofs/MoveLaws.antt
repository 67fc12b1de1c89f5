-- What a lookout finds is the choice of the port.
use Rattle.std.proofs.Common.{◌≡◌, ◌<◌, ◌≤◌, ℕ, inl, inr, List, Option, Some, None, sym, ap, ◌∙◌}
use Rattle.std.specs.Prelude.{OnSome, IfSome}
use Rattle.std.proofs.lemmas.Bool.{cases_lt}
use Rattle.gates.specs.Choice.{first_choice}
use Rattle.port.specs.Words.{AbstractPort}
use Rattle.abstract_port.specs.AbstractPort.{choice}
use Rattle.abstract_port.proofs.ScanLaws.{needs_of, choice-free, choice-busy}

module _ (p : AbstractPort) (needs : List (Option ℕ)) (same : needs ≡ needs_of p) where
  pub moved_idle : (t : ℕ) → ((m : ℕ) → p.now ≤ m → p.free ≤ m → m < t → first_choice p.history m needs ≡ None) → (m : ℕ) → p.now ≤ m → m < t → choice p m ≡ None
  moved_idle t none m from below = elim (cases_lt m p.free) [
    | inl busy ↦ choice-busy p m busy
    | inr free ↦ choice-free p m free ∙ (ap (λ x. first_choice p.history m x) (sym same) ∙ none m from free below)
  ]

  pub moved_choice : (t until : ℕ) (answer : Option ℕ) → OnSome answer ((p.free ≤ t) × (t < until)) → IfSome answer (λ class. first_choice p.history t needs ≡ Some class) → IfSome answer (λ class. choice p t ≡ Some class)
  moved_choice t until None before chosen = tt
  moved_choice t until (Some class) before chosen = choice-free p t before.0 ∙ (ap (λ x. first_choice p.history t x) (sym same) ∙ chosen)
