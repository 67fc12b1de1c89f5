-- Gates that stand before a moment, and what they show from it on.
use Rattle.std.proofs.Common.{◌≡◌, ◌≢◌, ◌<◌, ◌≤◌, ℕ, max, inl, inr, List, [], Option, Some, None, false, is_some, refl, sym, ap, ◌∙◌, subst, arith, le_refl, le_trans}
use Rattle.std.specs.Prelude.{IsSome}
use Rattle.std.proofs.lemmas.Bool.{cases_lt}
use Rattle.wire_time.specs.Moment.{greatest_moment}
use Rattle.gates.specs.History.{Accepted, kept, in_force, pending, announced, IsOld, IsSettled, three}
use Rattle.gates.specs.Choice.{first_choice, MovesIdle}
use Rattle.gates.specs.Current.{IsCurrent, longest}
use Rattle.gates.proofs.ChoiceLaws.{first_choice-kept}
use Rattle.gates.proofs.IdleLaws.{idle_choice}
use Rattle.gates.proofs.HistoryLaws.{kept_kept, kept_past, kept_rising, past_later, settled_at, settled_kept, settled_pending, settled_announced}
use Rattle.gates.proofs.LongestLaws.{longest-kept}
use Rattle.gates.specs.Watched.{IsIdle, IsStill}

-- a command in force stays so, where none is to come
old_later : (m t : ℕ) (f : Option Accepted) → IsOld m f [] → m ≤ t → IsOld t f []
old_later m t None o l = tt
old_later m t (Some a) o l = (le_trans o.0 l, le_trans o.1 l, o.2)

-- a history that can be at m
module _ (h : List Accepted) (m : ℕ) (current : IsCurrent h m) where
  pub current_at : (t : ℕ) → m ≤ t → t ≤ greatest_moment → IsCurrent (kept h t) t
  current_at t l within =
      let past = past_later m t h l current.past in
      record { within = within; rising = kept_rising 0 t h current.rising past; past = kept_past 0 t h current.rising past; kept_whole = kept_kept 0 t h current.rising past t (le_refl t) }

  pub kept_on : (t u : ℕ) → m ≤ t → t ≤ u → kept (kept h t) u ≡ kept h u
  kept_on t u l on = kept_kept 0 t h current.rising (past_later m t h l current.past) u on

  pub choice_at : (t i : ℕ) (needs : List (Option ℕ)) → m ≤ t → t ≤ i → first_choice (kept h t) i needs ≡ first_choice h i needs
  choice_at t i needs l on = first_choice-kept 0 t h current.rising (past_later m t h l current.past) i needs on

  -- what is remembered of the history holds of what is kept of it
  pub idle_at : (t now upto : ℕ) (needs : List (Option ℕ)) → IsIdle h needs now upto → m ≤ t → now ≤ t → IsIdle (kept h t) needs t upto
  idle_at t now upto needs idle l later i from below = choice_at t i needs l from ∙ idle i (le_trans later from) below

  module _ (still : IsStill h m) where
    settled_on : (t : ℕ) → m ≤ t → IsSettled t (in_force h m) None None
    settled_on t l =
        let s = settled_at 0 m h current.rising current.past in
        let old : IsOld m (in_force h m) [] = subst (λ x. IsOld m (in_force h m) (three None None x)) still.1 (subst (λ p. IsOld m (in_force h m) (three None p (announced h m))) still.0 s.old) in
        record { old = old_later m t (in_force h m) old l; waiting = tt; ahead = tt }

    is_one : h ≡ three (in_force h m) None None
    is_one = sym current.kept_whole ∙ (ap (λ p. three (in_force h m) p (announced h m)) still.0 ∙ ap (λ x. three (in_force h m) None x) still.1)

    -- where no command is to come, a history stays
    pub still_kept : (t : ℕ) → m ≤ t → kept h t ≡ h
    still_kept t l = ap (λ x. kept x t) is_one ∙ (settled_kept t _ _ _ (settled_on t l) ∙ sym is_one)

    pub still_later : (t : ℕ) → m ≤ t → IsStill h t
    still_later t l =
        (ap (λ x. pending x t) is_one ∙ settled_pending t _ _ _ (settled_on t l), ap (λ x. announced x t) is_one ∙ settled_announced t _ _ _ (settled_on t l))

    pub still_current : (t : ℕ) → m ≤ t → t ≤ greatest_moment → IsCurrent h t
    still_current t l within = subst (λ x. IsCurrent x t) (still_kept t l) (current_at t l within)

-- gates that have moved on where no command was to come
pub still_moved : (h : List Accepted) (m : ℕ) → IsCurrent h m → IsStill h m → (k : List Accepted) (u : ℕ) → m ≤ u → k ≡ kept h u → IsStill k u
still_moved h m current still k u l is_k = subst (λ x. IsStill x u) (sym (is_k ∙ still_kept h m current still u l)) (still_later h m current still u l)

-- what is known where gates whose history was h at `now` went to `from`, where it is j, and then idly to u, where it is k
pub record HaveLooked (h : List Accepted) (m now free upto from : ℕ) (needs : List (Option ℕ)) (j k : List Accepted) (n u : ℕ) : Type 0 where
  pub after : from ≤ u
  pub beyond : upto ≤ from
  pub onward : m ≤ u
  pub history : k ≡ kept h u
  pub choice : (i : ℕ) → from ≤ i → first_choice j i needs ≡ first_choice h i needs
  pub idle : (t : ℕ) → ((i : ℕ) → n ≤ i → i < t → first_choice j i needs ≡ None) → (i : ℕ) → now ≤ i → free ≤ i → i < t → first_choice h i needs ≡ None
  pub later : (t last : ℕ) (r : List Accepted) → u ≤ t → r ≡ kept k t → ((i : ℕ) → n ≤ i → i < last → first_choice j i needs ≡ None) → IsIdle r needs t last
  pub last_history : (t : ℕ) (r : List Accepted) → u ≤ t → r ≡ kept k t → r ≡ kept h t
  pub longest_from : longest j ≤ longest h
  pub longest_there : longest k ≤ longest h

-- The gates stand at m and have moved to `from` and then idly to u, where the history k is kept; the moment was `now`.
module _ (h : List Accepted) (m now : ℕ) (current : IsCurrent h m) (late : m ≤ now) (needs : List (Option ℕ)) (upto : ℕ) (known : IsIdle h needs now upto)
    (free from : ℕ) (is_from : from ≡ max (max free now) upto) (j k : List Accepted) (n u : ℕ) (is_n : n ≡ from) (is_j : j ≡ kept h from) (moves : MovesIdle needs j n k u) where
  on : now ≤ from
  on = omega (arith, is_from)

  there : from ≤ u
  there = subst (λ x. x ≤ u) is_n moves.onward

  kept_there : k ≡ kept h u
  kept_there = moves.history ∙ (ap (λ x. kept x u) is_j ∙ kept_on h m current from u (le_trans late on) there)

  -- from where the search began, what was found of it holds of the history before
  choice_there : (i : ℕ) → from ≤ i → first_choice j i needs ≡ first_choice h i needs
  choice_there i l = ap (λ x. first_choice x i needs) is_j ∙ choice_at h m current from i needs (le_trans late on) l

  -- no class may start before, where none may from `from` on
  idle_there : (t : ℕ) → ((i : ℕ) → n ≤ i → i < t → first_choice j i needs ≡ None) → (i : ℕ) → now ≤ i → free ≤ i → i < t → first_choice h i needs ≡ None
  idle_there t none i a b below = elim (cases_lt i upto) [
    | inl before ↦ known i a before
    | inr after ↦
        let l : from ≤ i = omega (arith, is_from) in
        sym (choice_there i l) ∙ none i (subst (λ x. x ≤ i) (sym is_n) l) below
  ]

  -- what is found of the moments to come
  idle_on : (t last : ℕ) (r : List Accepted) → u ≤ t → r ≡ kept k t → ((i : ℕ) → n ≤ i → i < last → first_choice j i needs ≡ None) → IsIdle r needs t last
  idle_on t last r l is_r none i a below =
      let w : from ≤ i = le_trans there (le_trans l a) in
      let is : r ≡ kept h t = is_r ∙ (ap (λ x. kept x t) kept_there ∙ kept_on h m current u t (le_trans late (le_trans on there)) l) in
      ap (λ x. first_choice x i needs) is
      ∙ (choice_at h m current t i needs (le_trans late (le_trans on (le_trans there l))) a
      ∙ (sym (choice_there i w) ∙ none i (subst (λ x. x ≤ i) (sym is_n) w) below))

  kept_end : (t : ℕ) (r : List Accepted) → u ≤ t → r ≡ kept k t → r ≡ kept h t
  kept_end t r l is_r = is_r ∙ (ap (λ x. kept x t) kept_there ∙ kept_on h m current u t (le_trans late (le_trans on there)) l)

  from_longest : longest j ≤ longest h
  from_longest = subst (λ x. longest x ≤ longest h) (sym is_j) (longest-kept h from)

  pub have_looked : HaveLooked h m now free upto from needs j k n u
  have_looked = record {
    after = there;
    beyond = omega (arith, is_from);
    onward = le_trans late (le_trans on there);
    history = kept_there;
    choice = choice_there;
    idle = idle_there;
    later = idle_on;
    last_history = kept_end;
    longest_from = from_longest;
    longest_there = subst (λ x. longest x ≤ longest h) (sym kept_there) (longest-kept h u);
  }

-- ---- a search that has come to n

module _ (needs : List (Option ℕ)) (h : List Accepted) (m : ℕ) (current : IsCurrent h m) (k : List Accepted) (n : ℕ) (so_far : MovesIdle needs h m k n) where
  -- up to a later moment no class may start
  pub idle_before : (last : ℕ) → ((i : ℕ) → n ≤ i → i < last → first_choice k i needs ≡ None) → IsIdle h needs m last
  idle_before last none i from below = elim (cases_lt i n) [
    | inl before ↦ so_far.idle i from before
    | inr after ↦ sym (idle_choice needs h m current k n so_far i after) ∙ none i after below
  ]

-- what is chosen later in what was kept is chosen in what is kept then
pub chosen_at : (needs : List (Option ℕ)) (h : List Accepted) (m : ℕ) (current : IsCurrent h m) (k : List Accepted) (n : ℕ) (j : List Accepted) (u : ℕ) → MovesIdle needs h m k n → MovesIdle needs h m j u
    → (t : ℕ) → n ≤ t → u ≡ t → IsSome (first_choice k t needs) → IsSome (first_choice j u needs)
chosen_at needs h m current k n j u before after t later is_t some =
    subst IsSome (idle_choice needs h m current k n before t later ∙ (ap (λ i. first_choice h i needs) (sym is_t) ∙ sym (idle_choice needs h m current j u after u (le_refl u)))) some

pub not_chosen : (choice answer : Option ℕ) → answer ≡ choice → ((x : ℕ) → answer ≢ Some x) → IsSome choice → ⊥
not_chosen choice None e none some = let f : is_some choice ≡ false = ap is_some (sym e) in absurd (cc)
not_chosen choice (Some x) e none some = absurd (none x refl)
