-- What the command in force shows.
use Rattle.std.proofs.Common.{◌≡◌, ◌<◌, ◌≤◌, ℕ, ltb, IsTrue, Option, Some, None, refl, sym, ap, ◌∙◌, subst, arith}
use Rattle.std.proofs.lemmas.Bool.{ltb-true, lt-ltb}
use Rattle.std.proofs.lemmas.Option.{same_Some}
use Rattle.std.specs.Option.{ForSome}
use Rattle.jumping.specs.CommandWords.{IsSchedule, last_mask, mask_since, Accepted, plan_of, start_of, hold_of, Position, IsPlaced, IsFlat, IsUsable, EndsSo, Stands, accepted_list, held_under, hold_for, shows_under}
use Rattle.jumping.specs.declared.accepted_commands.command.AcceptedList.{AcceptedList}

-- the list of a command
module _ (f : Option Accepted) (position : Option Position) (list : AcceptedList) (of : (f ≡ Some (accepted_list list)) × (position ≡ Some list.position)) where
  pub list_usable : ForSome f IsUsable → IsUsable (accepted_list list)
  list_usable u = u (accepted_list list) of.0

  pub list_sound : ForSome f IsUsable → IsSchedule list.schedule
  list_sound u = (list_usable u).planned list.schedule refl

  pub list_begun : (n : ℕ) → ForSome f (λ a. a.change ≤ n) → list.change ≤ n
  list_begun n begun = begun (accepted_list list) of.0

  pub list_ends : EndsSo f position → list.position.last_mask ≡ last_mask list.schedule.entries
  list_ends ends = subst (λ p. EndsSo (Some (accepted_list list)) p) of.1 (subst (λ g. EndsSo g position) of.0 ends)

  pub list_stands : (pending : Option Accepted) (n : ℕ) → Stands f pending n position → IsPlaced list.schedule list.change (hold_for (Some list.schedule) list.change pending) n list.position
  list_stands pending n stands = subst (λ p. Stands (Some (accepted_list list)) pending n p) of.1 (subst (λ g. Stands g pending n position) of.0 stands)

  pub list_flat : (pending : Option Accepted) (n : ℕ) (until : Option ℕ) → IsFlat (mask_since (Some list.schedule) list.change (hold_for (Some list.schedule) list.change pending)) n until → IsFlat (shows_under f pending) n until
  list_flat pending n until flat = subst (λ g. IsFlat (shows_under g pending) n until) (sym of.0) flat

-- where there is no list, nothing is held
pub unheld : (now next : Option Accepted) → plan_of now ≡ None → held_under now next ≡ None
unheld now None none = refl
unheld now (Some a) none = ap (λ p. hold_of p (start_of now) a) none

-- a moment of a command is later, if there is one
pub is_after : (of : Accepted → ℕ) (o : Option Accepted) (a : Accepted) (m n : ℕ) → o ≡ Some a → n ≡ of a → (IsTrue (ltb m n) → ForSome o (λ k. m < of k)) × (ForSome o (λ k. m < of k) → IsTrue (ltb m n))
is_after of o a m n is at = (
  λ before k same.
      (let here = ltb-true m n before in
      let one : of a ≡ of k = ap of (same_Some a k (sym is ∙ same)) in
      omega (arith, here, at, one)),
  λ after. lt-ltb m n (let here : m < of a = after a is in omega (arith, here, at)),
)
