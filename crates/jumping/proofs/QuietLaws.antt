-- From a search of legs to the choice of the gates.
use Rattle.std.proofs.Common.{◌≡◌, ◌<◌, ◌≤◌, ℕ, ◌+◌, ◌*◌, length, get_or, slice_get, false, List, [], Option, Some, None, IsSome, refl, sym, ap, ◌∙◌, subst, arith, le_trans}
use Rattle.std.proofs.lemmas.Option.{slice_get-get_or, slice_get_within, get_or_from_slice_get}
use Rattle.gates.proofs.OpenLaws.{same_while}
use Rattle.gates.proofs.FirstLaws.{none_same}
use Rattle.gates.specs.Choice.{may_start, may_go, first_choice}
use Rattle.jumping.specs.Words.{Clocked, entry_count, longest, Accepted, gates, cons_some, three, plan_of, mask_in, stretches_from, Commands, AreCommands, history_of, mask_ahead, settled_at, NoneFits, Fits, Searched, IsLoneList, shows_alone}
use Rattle.gates.specs.History.{pending, announced}
use Rattle.gates.proofs.ChoiceLaws.{greatest_below-none, greatest_below-some}
use Rattle.gates.proofs.HistoryLaws.{settled_force, settled_pending, settled_announced, past_three}
use Rattle.gates.proofs.StretchLaws.{stretches_gates}
use Rattle.gates.proofs.LongestLaws.{longest-kept}
use Rattle.jumping.specs.declared.accepted_commands.command.AcceptedList.{AcceptedList}
use Rattle.jumping.specs.InForce.{Standing}
use Rattle.jumping.proofs.CommandLaws.{settled_history}
use Rattle.jumping.proofs.AloneLaws.{searched_lone}

-- masks that agree from a moment on
pub searched_same : (f g : ℕ → ℕ) (needs : List (Option ℕ)) (t stop : ℕ) (r : Option ℕ) → ((n : ℕ) → t ≤ n → f n ≡ g n) → Searched g needs t stop r → Searched f needs t stop r
searched_same f g needs t stop None e none = λ class d there. none_same f g class d t stop (λ n from before. e n from) (none class d there)
searched_same f g needs t stop (Some u) e found =
    let from : t ≤ u = found.0 in
    let at : Fits g needs u = found.3 in (
      found.0,
      found.1,
      λ class d there. none_same f g class d t u (λ n after before. e n after) (found.2 class d there),
      record {
        class = at.class;
        need = at.need;
        there = at.there;
        through = same_while f g at.class u at.need (λ n after before. e n (le_trans from after)) ∙ at.through;
      },
    )

-- the gates of commands from now on
pub gates_ahead : (c : Commands) → AreCommands c → (n : ℕ) → c.moment ≤ n → gates (history_of c) n ≡ mask_in (stretches_from c.in_force (cons_some c.pending (cons_some c.announced []))) n
gates_ahead c s n l =
    stretches_gates 0 c.moment (history_of c) s.rising (past_three c.moment c.in_force c.pending c.announced s.settled) n l
    ∙ (ap (λ f. mask_in (stretches_from f (cons_some (pending (history_of c) c.moment) (cons_some (announced (history_of c) c.moment) []))) n) (settled_force c.moment c.in_force c.pending c.announced s.settled)
    ∙ (ap (λ q. mask_in (stretches_from c.in_force (cons_some q (cons_some (announced (history_of c) c.moment) []))) n) (settled_pending c.moment c.in_force c.pending c.announced s.settled)
    ∙ ap (λ x. mask_in (stretches_from c.in_force (cons_some c.pending (cons_some x []))) n) (settled_announced c.moment c.in_force c.pending c.announced s.settled)))

-- where no class with a need stays open through it, there is no choice
pub no_choice : (h : List Accepted) (needs : List (Option ℕ)) (t u : ℕ) → length needs ≡ 8 → NoneFits (gates h) needs t u → (m : ℕ) → t ≤ m → m < u → first_choice h m needs ≡ None
no_choice h needs t u eight none m from below =
    greatest_below-none 8 (may_go h m needs) (λ k low. by k (get_or needs k None) (slice_get-get_or needs k None (omega arith)))
  where
    by : (k : ℕ) → (need : Option ℕ) → slice_get needs k ≡ Some need → may_start h m k need ≡ false
    by k None there = refl
    by k (Some d) there = none k d there m from below

-- where some class with a need stays open through it, there is a choice
pub some_choice : (h : List Accepted) (needs : List (Option ℕ)) (u : ℕ) → length needs ≡ 8 → Fits (gates h) needs u → IsSome (first_choice h u needs)
some_choice h needs u eight at =
    greatest_below-some 8 (may_go h u needs) at.class (let l = slice_get_within needs at.class (Some at.need) at.there in omega arith)
    (ap (may_start h u at.class) (get_or_from_slice_get needs at.class (Some at.need) None at.there) ∙ at.through)

-- the list in force is at most so long
pub most_in_force : (f p x : Option Accepted) → entry_count (plan_of f) ≤ longest (three f p x)
most_in_force None p x = omega arith
most_in_force (Some f) p x = omega arith

-- the commands seen as a history and a moment, with where the list in force stands
module _ (slots : Standing) (s : AreCommands slots.commands) (v : Clocked) (view : record { history = history_of slots.commands; moment = slots.commands.moment } ≡ v) (needs : List (Option ℕ)) (before : ℕ) where
  -- a search of what they show is one of the gates
  pub searched_all : (found r : Option ℕ) → found ≡ r → Searched (mask_ahead slots.commands) needs slots.commands.moment before r → Searched (gates v.history) needs v.moment before found
  searched_all found r is all =
      let c = slots.commands in
      subst (λ (w : Clocked). Searched (gates w.history) needs w.moment before found) view
      (searched_same (gates (history_of c)) (mask_ahead c) needs c.moment before found (λ n l. gates_ahead c s n l)
      (subst (Searched (mask_ahead c) needs c.moment before) (sym is) all))

  -- and so is one of the list in force, where no other command is to come
  pub searched_one : (found r : Option ℕ) → found ≡ r → (list : AcceptedList) → IsLoneList slots list → (from : ℕ) → from ≡ slots.commands.moment → Searched (shows_alone list) needs from before r → Searched (gates v.history) needs v.moment before found
  searched_one found r is list lone from now alone =
      searched_all found r is
      (searched_lone slots list lone needs slots.commands.moment before r
      (subst (λ n. Searched (shows_alone list) needs n before r) now alone))

-- the visits of placing the list that is in force later are few
pub few_placed : (c : Commands) → AreCommands c → (v : Clocked) → record { history = history_of c; moment = c.moment } ≡ v → (t : ℕ) → c.moment ≤ t → (old new : ℕ) → new ≤ old + (entry_count (plan_of (settled_at c t).in_force) + 1) → new ≤ old + 2 * (longest v.history + 1)
few_placed c s v view t l old new few =
    let later = settled_at c t in
    let most = most_in_force later.in_force later.pending later.announced in
    let same = ap longest (settled_history c s t l) in
    let less = longest-kept (history_of c) t in
    let seen = ap (λ (w : Clocked). longest w.history) view in
    omega (arith, few, most, same, less, seen)
