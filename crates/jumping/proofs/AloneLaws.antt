-- A list that goes on for ever.
use Rattle.std.proofs.Common.{Bool, ◌≡◌, ◌<◌, ◌≤◌, ℕ, zero, suc, ◌+◌, min, List, [], ◌∷◌, get_or, slice_get, length, Option, Some, None, inl, inr, sym, ap, ◌∙◌, subst, arith}
use Rattle.std.proofs.lemmas.Bool.{cases_lt}
use Rattle.std.proofs.lemmas.Option.{slice_get_cases}
use Rattle.jumping.specs.Words.{Plan, in_ps, mask_since, open_while, Accepted, cons_some, mask_in, stretches_from, NoneFits, Searched, IsLoneList, shows_alone}
use Rattle.jumping.specs.declared.accepted_commands.command.AcceptedList.{AcceptedList}
use Rattle.jumping.specs.InForce.{Standing, accepted_list}
use Rattle.jumping.proofs.RepeatLaws.{plan_repeats}
use Rattle.jumping.proofs.SearchLaws.{none_jump, searched_more}

-- where there is none in a cycle, there is none
pub searched_round : (plan : Plan) (start : ℕ) (needs : List (Option ℕ)) (from cycle before : ℕ) (r : Option ℕ) → cycle ≡ in_ps plan.cycle → 0 < cycle → start ≤ from → Searched (mask_since (Some plan) start None) needs from (min before (from + cycle)) r → Searched (mask_since (Some plan) start None) needs from before r
searched_round plan start needs from cycle before None is above begun none =
    elim (cases_lt (from + cycle) before) [
      | inl past ↦ none_jump (mask_since (Some plan) start None) needs cycle from (before + cycle) before above
          (λ m later below. ap (λ c. mask_since (Some plan) start None (m + c)) is ∙ plan_repeats plan start m (omega arith))
          (subst (NoneFits (mask_since (Some plan) start None) needs from) (omega arith) none) (omega arith)
      | inr within ↦ subst (NoneFits (mask_since (Some plan) start None) needs from) (omega arith) none
    ]
searched_round plan start needs from cycle before (Some u) is above begun found =
    searched_more (mask_since (Some plan) start None) needs from (min before (from + cycle)) before u (omega arith) found

-- a class with a need is one of the list
pub need_inside : (needs : List (Option ℕ)) (class : ℕ) (need : Option ℕ) → slice_get needs class ≡ Some need → class < length needs
need_inside needs class need there = elim (slice_get_cases needs class).1 [
  | inl inside ↦ inside.1
  | inr past ↦ absurd (by (sym there ∙ past.1))
]
  where
    by : {o : Option ℕ} → Some o ≡ None → ⊥
    by e = cc

-- a need that is read is there
pub need_read : (needs : List (Option ℕ)) (class d : ℕ) → get_or needs class None ≡ Some d → slice_get needs class ≡ Some (Some d)
need_read [] class d is = absurd (by is)
  where
    by : None ≡ Some d → ⊥
    by e = cc
need_read (need ∷ needs) zero d is = ap Some is
need_read (need ∷ needs) (suc class) d is = need_read needs class d is

-- where no other command is to come, the list in force shows it all
pub searched_lone : (slots : Standing) (list : AcceptedList) → IsLoneList slots list → (needs : List (Option ℕ)) (from before : ℕ) (r : Option ℕ) → Searched (shows_alone list) needs from before r → Searched (mask_in (stretches_from slots.commands.in_force (cons_some slots.commands.pending (cons_some slots.commands.announced [])))) needs from before r
searched_lone slots list lone needs from before r found =
    subst (λ (f : Option Accepted). Searched (mask_in (stretches_from f (cons_some slots.commands.pending (cons_some slots.commands.announced [])))) needs from before r) (sym lone.in_force)
    (subst (λ (p : Option Accepted). Searched (mask_in (stretches_from (Some (accepted_list list)) (cons_some p (cons_some slots.commands.announced [])))) needs from before r) (sym lone.pending)
    (subst (λ (x : Option Accepted). Searched (mask_in (stretches_from (Some (accepted_list list)) (cons_some None (cons_some x [])))) needs from before r) (sym lone.announced) found))

-- and so it says whether a class stays open
pub open_lone : (slots : Standing) (list : AcceptedList) → IsLoneList slots list → (class from d : ℕ) (a : Bool) → a ≡ open_while (shows_alone list) class from d → a ≡ open_while (mask_in (stretches_from slots.commands.in_force (cons_some slots.commands.pending (cons_some slots.commands.announced [])))) class from d
open_lone slots list lone class from d a is =
    subst (λ (f : Option Accepted). a ≡ open_while (mask_in (stretches_from f (cons_some slots.commands.pending (cons_some slots.commands.announced [])))) class from d) (sym lone.in_force)
    (subst (λ (p : Option Accepted). a ≡ open_while (mask_in (stretches_from (Some (accepted_list list)) (cons_some p (cons_some slots.commands.announced [])))) class from d) (sym lone.pending)
    (subst (λ (x : Option Accepted). a ≡ open_while (mask_in (stretches_from (Some (accepted_list list)) (cons_some None (cons_some x [])))) class from d) (sym lone.announced) is))
