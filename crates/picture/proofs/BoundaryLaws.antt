-- The boundaries that the gates pass, and how many are left.
use Rattle.std.proofs.Common.{◌≡◌, ◌<◌, ◌≤◌, ℕ, zero, suc, ◌+◌, ◌-◌, ◌⊎◌, Bool, true, false, cond, Any, List, [], ◌∷◌, Option, Some, None, MatchOption, is_some, unwrap_or, if◌then◌else◌, inl, inr, refl, sym, ◌∙◌, subst, arith, le_refl}
use Rattle.std.specs.Prelude.{IfSome, filter}
use Rattle.std.specs.Option.{option_or}
use Rattle.std.proofs.lemmas.Option.{same_Some}
use Rattle.gates.specs.Event.{BeginsEntry, ComesAt}
use Rattle.gates.specs.History.{announced, cons_some, in_force, last, only_if, pending, plan_of, start_of}
use Rattle.gates.proofs.EventLaws.{any_here, any_later}
use Rattle.gates.proofs.HistoryLaws.{kept_force, past_later}
use Rattle.picture.specs.Words.{Accepted, AreBoundaries, AreUsedUp, IsBoundary, IsCurrent, IsGateEvent, IsSteady, kept}
use Rattle.picture.proofs.DrawLaws.{gates_on}

-- ---- A command that is kept is one of the history.

module _ (P : Accepted → Type 0) where
  any_cons : (a : Accepted) (r : List Accepted) → Any P (a ∷ r) → P a ⊎ Any P r
  any_cons a r (zero, x, l, at, p) = inl (subst P (sym at) p)
  any_cons a r (suc k, x, l, at, p) = inr (k, x, omega (arith, l), at, p)

  any_none : Any P [] → ⊥
  any_none (k, x, l, at, p) = omega (arith, l)

  any_filter : (test : Accepted → Bool) (h : List Accepted) → Any P (filter test h) → Any P h
  any_filter test [] some = some
  any_filter test (a ∷ r) some = by (test a) some (any_filter test r)
    where
      by : (passes : Bool) → Any P (cond passes (a ∷ filter test r) (filter test r)) → (Any P (filter test r) → Any P r) → Any P (a ∷ r)
      by true some rest = elim (any_cons a (filter test r) some) [ inl here ↦ any_here P a r here | inr later ↦ any_later P a r (rest later) ]
      by false some rest = any_later P a r (rest some)

  -- of a list that is empty or begins with some command
  any_first : (f : Option Accepted) (r h : List Accepted) → ((a : Accepted) → f ≡ Some a → P a → Any P h) → (Any P r → Any P h) → Any P (cons_some f r) → Any P h
  any_first None r h first rest some = rest some
  any_first (Some a) r h first rest some = elim (any_cons a r some) [ inl here ↦ first a refl here | inr later ↦ rest later ]

  last_there : (h : List Accepted) (a : Accepted) → last h ≡ Some a → P a → Any P h
  last_there [] a e p = absurd (cc)
  last_there (b ∷ r) a e p = by (last r) e (λ is. last_there r a is p)
    where
      by : (x : Option Accepted) → option_or x (Some b) ≡ Some a → (x ≡ Some a → Any P r) → Any P (b ∷ r)
      by None e there = any_here P b r (subst P (sym (same_Some b a e)) p)
      by (Some c) e there = any_later P b r (there e)

  force_there : (h : List Accepted) (m : ℕ) (a : Accepted) → in_force h m ≡ Some a → P a → Any P h
  force_there [] m a e p = absurd (cc)
  force_there (b ∷ r) m a e p = by (in_force r m) _ e (λ is. force_there r m a is p)
    where
      by : (x : Option Accepted) (comes : Bool) → option_or x (if comes then Some b else None) ≡ Some a → (x ≡ Some a → Any P r) → Any P (b ∷ r)
      by None true e there = any_here P b r (subst P (sym (same_Some b a e)) p)
      by None false e there = absurd (cc)
      by (Some c) comes e there = any_later P b r (there e)

  only_there : (test : Accepted → Bool) (o : Option Accepted) (a : Accepted) → only_if test o ≡ Some a → o ≡ Some a
  only_there test None a e = e
  only_there test (Some b) a e = by (test b) e
    where
      by : (passes : Bool) → (if passes then Some b else None) ≡ Some a → Some b ≡ Some a
      by true e = e
      by false e = absurd (cc)

  kept_there : (h : List Accepted) (m : ℕ) → Any P (kept h m) → Any P h
  kept_there h m =
      any_first (in_force h m) _ h (force_there h m)
      (any_first (pending h m) _ h (λ a is p. any_filter _ h (last_there _ a (only_there _ _ a is) p))
      (any_first (announced h m) [] h (λ a is p. last_there h a (only_there _ _ a is) p) (λ none. absurd (any_none none))))

-- ---- What is a boundary of what is kept is one of the history.

module _ (h : List Accepted) (first : ℕ) (current : IsCurrent h first) (now : ℕ) (k : List Accepted) (onward : first ≤ now) (is : k ≡ kept h now) where
  event_of : (u : ℕ) → now ≤ u → IsGateEvent k u → IsGateEvent h u
  event_of u later event = by (subst (λ x. IsGateEvent x u) is event)
    where
      by : IsGateEvent (kept h now) u → IsGateEvent h u
      by (inl comes) = inl (kept_there (ComesAt u) h now comes)
      by (inr begins) = inr (subst (λ f. BeginsEntry (plan_of f) (start_of f) u) (kept_force 0 now h current.rising (past_later first now h onward current.past) u later) begins)

  steady_of : (m u : ℕ) → now ≤ m → IsSteady k m u → IsSteady h m u
  steady_of m u from steady = λ i least below. sym (gates_on h first current now i k onward (omega (arith, from, least)) is) ∙ steady i least below ∙ gates_on h first current now m k onward from is

  boundary_of : (m upto next : ℕ) → now ≤ m → IsBoundary k m upto next → IsBoundary h m upto next
  boundary_of m upto next from b = record { onward = b.onward; before = b.before; steady = steady_of m next from b.steady; event = event_of next (omega (arith, from, b.onward)) b.event }

  boundaries_of : (m upto seen : ℕ) (passed : List ℕ) → now ≤ m → AreBoundaries k m upto seen passed → AreBoundaries h m upto seen passed
  boundaries_of m upto seen [] from are = (are.0, steady_of m seen from are.1)
  boundaries_of m upto seen (next ∷ rest) from are = (boundary_of m upto next from are.0, boundaries_of next upto seen rest (omega (arith, from, are.0.onward)) are.1)

  pub used_same : (upto seen left new : ℕ) → AreUsedUp k now upto seen left new → AreUsedUp h now upto seen left new
  used_same upto seen left new used = record { passed = used.passed; boundaries = boundaries_of now upto seen used.passed (le_refl now) used.boundaries; counted = used.counted }

-- What boundaries to come use up is used up from the first moment on.
abbrev pub GoesByBoundaries : (history : List Accepted) (first upto now left now_left : ℕ) → Type 0
GoesByBoundaries history first upto now left now_left =
    (seen new_left : ℕ) → AreUsedUp history now upto seen now_left new_left → AreUsedUp history first upto seen left new_left

pub none_used : (h : List Accepted) (m upto left : ℕ) → AreUsedUp h m upto m left left
none_used h m upto left = record { passed = []; boundaries = (le_refl m, λ k from below. absurd (omega (arith, from, below))); counted = omega arith }

-- as far as the gates show one mask
steady_used : (h : List Accepted) (m upto next left : ℕ) → m ≤ next → IsSteady h m next → AreUsedUp h m upto next left left
steady_used h m upto next left onward steady = record { passed = []; boundaries = (onward, steady); counted = omega arith }

one_used : (h : List Accepted) (m upto next seen left next_left new_left : ℕ) → IsBoundary h m upto next → next_left + 1 ≡ left → AreUsedUp h next upto seen next_left new_left → AreUsedUp h m upto seen left new_left
one_used h m upto next seen left next_left new_left is one used = record { passed = next ∷ used.passed; boundaries = (is, used.boundaries); counted = omega (arith, used.counted, one) }

-- on to the next boundary, or to the end
pub next_used : (h : List Accepted) (first : ℕ) → IsCurrent h first → (now : ℕ) (k : List Accepted) → first ≤ now → k ≡ kept h now → (upto all left new next : ℕ) (boundary : Option ℕ) → now < upto
    → MatchOption boundary (IsSteady k now upto) (λ u. IsSteady k now u) → IfSome boundary (λ u. (now < u) × (u < upto)) → IfSome boundary (IsGateEvent k)
    → 0 < left → next ≡ unwrap_or boundary upto → new ≡ left - (if is_some boundary then 1 else 0)
    → GoesByBoundaries h first upto now all left → (next < upto → GoesByBoundaries h first upto next all new) × AreUsedUp h first upto next all new
next_used h first current now k onward is upto all left new next None before steady between event some at e goes =
    let ends : next ≡ upto = at in
    let same : new ≡ left = (let none : new ≡ left - 0 = e in omega (arith, none)) in (
      λ further. absurd (omega (arith, further, ends)),
      goes next new (subst (λ n. AreUsedUp h now upto n left new) (sym ends) (subst (λ n. AreUsedUp h now upto upto left n) (sym same) (steady_used h now upto upto left (omega (arith, before)) (steady_of h first current now k onward is now upto (le_refl now) steady)))),
    )
next_used h first current now k onward is upto all left new next (Some u) before steady between event some at e goes =
    let here : next ≡ u = at in
    let one : new + 1 ≡ left = (let less : new ≡ left - 1 = e in omega (arith, less, some)) in
    let boundary : IsBoundary h now upto next =
    boundary_of h first current now k onward is now upto next (le_refl now) (subst (IsBoundary k now upto) (sym here) (record { onward = between.0; before = between.1; steady = steady; event = event })) in
    let further : GoesByBoundaries h first upto next all new = λ seen new_left used. goes seen new_left (one_used h now upto next seen left new new_left boundary one used) in
    (λ l. further, further next new (none_used h next upto new))

-- no more are left than before
pub used_fewer : (h : List Accepted) (m upto seen left new : ℕ) → AreUsedUp h m upto seen left new → new ≤ left
used_fewer h m upto seen left new used = omega (arith, used.counted)
