-- How gates move while no class may start.
use Rattle.std.proofs.Common.{◌≡◌, ◌<◌, ◌≤◌, ℕ, zero, suc, ◌+◌, inl, inr, length, get_or, slice_get, List, Option, Some, None, refl, sym, ap, ◌∙◌, subst, arith, le_refl, le_trans, true, false, is_some}
use Rattle.std.proofs.lemmas.Bool.{cases_lt, false≢true, false_from_ne_true}
use Rattle.std.proofs.lemmas.Option.{slice_get-get_or}
use Rattle.gates.specs.Gate.{opens}
use Rattle.gates.specs.Open.{open_while}
use Rattle.gates.specs.Stay.{NoneFrom}
use Rattle.gates.proofs.OpenLaws.{open_at, open_from}
use Rattle.gates.specs.History.{Accepted, gates, kept, open_through}
use Rattle.gates.specs.Choice.{may_start, may_go, first_choice, MovesIdle}
use Rattle.gates.specs.Current.{IsCurrent, IsSteady, longest}
use Rattle.gates.proofs.LongestLaws.{longest-kept}
use Rattle.gates.proofs.HistoryLaws.{kept_kept, past_later}
use Rattle.gates.proofs.ChoiceLaws.{first_choice-kept, greatest_below-none, greatest_below-some}
use Rattle.std.specs.Prelude.{IsSome, IfSome}

module _ (needs : List (Option ℕ)) (h : List Accepted) (m : ℕ) (current : IsCurrent h m) where
  -- From a moment to itself nothing is passed over.
  pub idle_start : MovesIdle needs h m h m
  idle_start = record { onward = le_refl m; history = sym current.kept_whole; idle = λ k from below. absurd (omega arith) }

  module _ (k : List Accepted) (n : ℕ) (so_far : MovesIdle needs h m k n) where
    -- what is kept decides alike
    pub idle_choice : (i : ℕ) → n ≤ i → first_choice k i needs ≡ first_choice h i needs
    idle_choice i l =
        ap (λ x. first_choice x i needs) so_far.history
        ∙ first_choice-kept 0 n h current.rising (past_later m n h so_far.onward current.past) i needs l

    -- no list is longer than before
    pub idle_longest : longest k ≤ longest h
    idle_longest = subst (λ x. longest x ≤ longest h) (sym so_far.history) (longest-kept h n)

    -- Moments without a choice may be passed over, one after another.
    pub idle_more : (j : List Accepted) (t u : ℕ) → n ≤ u → ((i : ℕ) → n ≤ i → i < u → first_choice k i needs ≡ None) → t ≡ u → j ≡ kept k u → MovesIdle needs h m j t
    idle_more j t u l none there moved = subst (MovesIdle needs h m j) (sym there) (record {
      onward = le_trans so_far.onward l;
      history = moved ∙ (ap (λ x. kept x u) so_far.history ∙ kept_kept 0 n h current.rising (past_later m n h so_far.onward current.past) u l);
      idle = λ i from below. elim (cases_lt i n) [
        | inl before ↦ so_far.idle i from before
        | inr after ↦ sym (idle_choice i after) ∙ none i after below
      ];
    })

    -- one moment more
    pub idle_next : (j : List Accepted) (t u : ℕ) → n ≡ u → first_choice k n needs ≡ None → t ≡ u + 1 → j ≡ kept k (u + 1) → MovesIdle needs h m j t
    idle_next j t u here none there moved =
        idle_more j t (u + 1) (omega arith) (λ i from below. let e : n ≡ i = omega arith in subst (λ x. first_choice k x needs ≡ None) e none) there moved

pub choice_found : (choice answer : Option ℕ) → answer ≡ choice → IfSome answer (λ class. choice ≡ Some class)
choice_found choice None e = tt
choice_found choice (Some class) e = sym e

pub not_none : (choice answer : Option ℕ) → answer ≡ choice → IsSome choice → is_some answer ≡ false → ⊥
not_none choice answer e h f = let g : is_some answer ≡ true = ap is_some e ∙ h in absurd (cc)

pub is_none : (answer : Option ℕ) → is_some answer ≡ false → answer ≡ None
is_none None f = refl
is_none (Some class) f = absurd (cc)

-- ---- while one mask shows

-- where one mask shows, the first moment is the best
pub none_flat : (f : ℕ → ℕ) (class d t u : ℕ) → ((n : ℕ) → t ≤ n → n < u → f n ≡ f t) → open_while f class t d ≡ false → NoneFrom f class d t u
none_flat f class zero t u flat fails n from below = absurd (false≢true (sym fails ∙ open_from f class t zero (λ i a b. absurd (omega arith))))
none_flat f class (suc d) t u flat fails n from below =
    false_from_ne_true (open_while f class n (suc d)) (λ o.
    let here : opens (f t) class ≡ true = ap (λ m. opens m class) (sym (flat n from below)) ∙ open_at f class n (suc d) o n (omega arith) (omega arith) in
    false≢true (sym fails ∙ open_from f class t (suc d) (λ i after before.
    elim (cases_lt i n) [
      | inl early ↦ ap (λ m. opens m class) (flat i after (omega arith)) ∙ here
      | inr late ↦ open_at f class n (suc d) o i late (omega arith)
    ])))

-- where no class may start now, none may while the same mask shows
pub none_starts : (h : List Accepted) (t u : ℕ) (needs : List (Option ℕ)) → length needs ≡ 8 → IsSteady h t u → ((k d : ℕ) → k < 8 → slice_get needs k ≡ Some (Some d) → open_through h k t d ≡ false) → (m : ℕ) → t ≤ m → m < u → first_choice h m needs ≡ None
none_starts h t u needs eight flat none m from below =
    greatest_below-none 8 (may_go h m needs) (λ k low. by k low (get_or needs k None) (slice_get-get_or needs k None (omega arith)))
  where
    by : (k : ℕ) → k < 8 → (need : Option ℕ) → slice_get needs k ≡ Some need → may_start h m k need ≡ false
    by k low None there = refl
    by k low (Some d) there = none_flat (gates h) k d t u flat (none k d low there) m from below

-- where a class may start there is a choice
pub some_starts : (h : List Accepted) (t : ℕ) (needs : List (Option ℕ)) (k d : ℕ) → k < 8 → get_or needs k None ≡ Some d → open_through h k t d ≡ true → IsSome (first_choice h t needs)
some_starts h t needs k d low there opened = greatest_below-some 8 (may_go h t needs) k low (ap (may_start h t k) there ∙ opened)
