-- The gates by the commands that count, and by where the list in force stands.
use Rattle.std.proofs.Common.{◌≡◌, ◌<◌, ◌≤◌, ℕ, ◌+◌, min, Bool, false, cond, ◌&&◌, leb, ltb, List, [], ◌∷◌, ◌++◌, Option, Some, None, MatchOption, option_map, inl, inr, refl, sym, ap, ◌∙◌, subst, arith, le_refl, lt_of_lt_of_le, le_of_lt, ◌⊎◌, Any, IfSome}
use Rattle.std.proofs.lemmas.Bool.{lt-leb, lt-ltb, le-ltb, cases_lt}
use Rattle.std.proofs.lemmas.Option.{same_Some}
use Rattle.std.specs.Option.{ForSome, option_or}
use Rattle.jumping.specs.CommandWords.{Plan, IsSchedule, mask_since, opens, open_while, Accepted, gates, cons_some, is_in_time, plan_of, start_of, mask_in, stretches_from, IsGateEvent, Position, IsFlat, Commands, AreCommands, IsUsable, NoneBy, history_of, settled_at, Stands, StandsUnder, earlier, hold_for, shown_by, shows_under, boundary_in_force, edge_at}
use Rattle.gates.proofs.OpenLaws.{same_while}
use Rattle.gates.specs.History.{pending, announced, kept, mask_under, open_through, three, only_if, mask_of_plan, IsWaiting, IsAhead}
use Rattle.gates.specs.Current.{IsCurrent, with_command, with_command_by}
use Rattle.gates.specs.Event.{BeginsEntry, ComesAt}
use Rattle.gates.proofs.EventLaws.{any_after, any_here}
use Rattle.gates.proofs.HistoryLaws.{cons_some_push, push_gates, three_force, three_pending, three_announced, settled_force, settled_pending, settled_announced, settled_kept, past_three}
use Rattle.gates.proofs.StretchLaws.{HasBegun, begun_from, begun_later, has_cycle, start_before, planned_stretch, unheld_stretch, stretches_open_through}
use Rattle.jumping.specs.Commands.{in_force_by, pending_by, announced_by}
use Rattle.jumping.specs.InForce.{boundary_under}
use Rattle.jumping.proofs.PositionLaws.{boundary_begins, placed_mask, shut_now}

-- ---- what shows now and up to the next command

-- what is at or before the earlier of two moments is so before both
upto_parts : (m : ℕ) (a b : Option ℕ) → ForSome (earlier a b) (λ u. m ≤ u) → ForSome a (λ u. m ≤ u) × ForSome b (λ u. m ≤ u)
upto_parts m None b h = (λ u is. cc, h)
upto_parts m (Some t) None h = (h, λ u is. cc)
upto_parts m (Some t) (Some v) h =
    let low : m ≤ min t v = h (min t v) refl in
    (λ u is. (let same : t ≡ u = same_Some t u is in omega arith), λ u is. (let same : v ≡ u = same_Some v u is in omega arith))

-- the earlier of two moments is one of them
which_earlier : (a b : Option ℕ) (u : ℕ) → earlier a b ≡ Some u → ((a ≡ Some u) × ForSome b (λ v. u ≤ v)) ⊎ (b ≡ Some u)
which_earlier None b u at = inr at
which_earlier (Some s) None u at = inl (at, λ v is. cc)
which_earlier (Some s) (Some t) u at = by (same_Some (min s t) u at)
  where
    by : min s t ≡ u → ((Some s ≡ Some u) × ForSome (Some t) (λ v. u ≤ v)) ⊎ (Some t ≡ Some u)
    by least = elim (cases_lt t s) [
      | inl second ↦ (let same : t ≡ u = omega arith in inr (ap Some same))
      | inr first ↦ (let same : s ≡ u = omega arith in inl (ap Some same, λ v is. (let at : t ≡ v = same_Some t v is in omega arith)))
    ]

module _ (c : Commands) (s : AreCommands c) where
  pub current_of : IsCurrent (history_of c) c.moment
  current_of = record { within = s.within; rising = s.rising; past = past_three c.moment c.in_force c.pending c.announced s.settled; kept_whole = settled_kept c.moment c.in_force c.pending c.announced s.settled }

  pub begun_now : HasBegun c.in_force c.moment
  begun_now = begun_from 0 c.moment c.in_force (cons_some c.pending (cons_some c.announced [])) s.rising (s.settled).old

  -- the command in force shows its list with its hold
  pub under_is : (m : ℕ) → c.moment ≤ m → mask_under c.in_force c.pending m ≡ shows_under c.in_force c.pending m
  under_is m l =
      let begun = begun_later c.in_force c.moment m l begun_now in
      by c.pending (has_cycle c.in_force m begun) (start_before c.in_force m begun)
    where
      by : (q : Option Accepted) → MatchOption (plan_of c.in_force) (Unit {0}) (λ plan. 0 < plan.cycle) → start_of c.in_force ≤ m → mask_of_plan (plan_of c.in_force) (start_of c.in_force) q m ≡ shows_under c.in_force q m
      by None cycle from = unheld_stretch (plan_of c.in_force) (start_of c.in_force) m cycle from
      by (Some a) cycle from = planned_stretch (plan_of c.in_force) (start_of c.in_force) m a cycle from

  -- up to the next command the same are in force and pending
  module _ (m : ℕ) (l : c.moment ≤ m) (none : NoneBy c.pending c.announced m) where
    pub force_still : in_force_by c.in_force c.pending c.announced m ≡ c.in_force
    force_still =
        ap (λ y. option_or y (option_or (only_if (λ a. leb a.change m && is_in_time a (cons_some c.announced [])) c.pending) c.in_force)) (not_yet c.announced (change_after c.announced none.1 s.announced_usable))
        ∙ ap (λ y. option_or y c.in_force) (not_in_time c.pending c.announced none.0)
      where
        not_yet : (x : Option Accepted) → ForSome x (λ a. m < a.change) → only_if (λ a. leb a.change m) x ≡ None
        not_yet None h = refl
        not_yet (Some a) h = ap (λ b. cond b (Some a) None) (lt-leb a.change m (h a refl))

        not_in_time : (p x : Option Accepted) → ForSome p (λ a. m < a.change) → only_if (λ a. leb a.change m && is_in_time a (cons_some x [])) p ≡ None
        not_in_time None x h = refl
        not_in_time (Some a) x h = ap (λ b. cond (b && is_in_time a (cons_some x [])) (Some a) None) (lt-leb a.change m (h a refl))

        change_after : (x : Option Accepted) → ForSome x (λ a. m < a.lead) → ForSome x IsUsable → ForSome x (λ a. m < a.change)
        change_after x h u a is = lt_of_lt_of_le (h a is) (u a is).timely

    pub pending_still : pending_by c.in_force c.pending c.announced m ≡ c.pending
    pending_still = ap (λ y. only_if (λ a. ltb m a.change) (option_or y (option_or c.pending c.in_force))) (not_led c.announced none.1) ∙ by c.pending none.0
      where
        not_led : (x : Option Accepted) → ForSome x (λ a. m < a.lead) → only_if (λ a. leb a.lead m) x ≡ None
        not_led None h = refl
        not_led (Some a) h = ap (λ b. cond b (Some a) None) (lt-leb a.lead m (h a refl))

        old_now : only_if (λ a. ltb m a.change) c.in_force ≡ None
        old_now = by c.in_force (begun_later c.in_force c.moment m l begun_now)
          where
            by : (f : Option Accepted) → HasBegun f m → only_if (λ a. ltb m a.change) f ≡ None
            by None b = refl
            by (Some a) b = ap (λ t. cond t (Some a) None) (le-ltb m a.change b.1)

        by : (p : Option Accepted) → ForSome p (λ a. m < a.change) → only_if (λ a. ltb m a.change) (option_or p c.in_force) ≡ p
        by None h = old_now
        by (Some a) h = ap (λ b. cond b (Some a) None) (lt-ltb m a.change (h a refl))

    pub same_commands : settled_at c m ≡ record c { moment = m }
    same_commands =
        ap (λ f. record { moment = m; in_force = f; pending = (settled_at c m).pending; announced = (settled_at c m).announced }) force_still
        ∙ (ap (λ p. record { moment = m; in_force = c.in_force; pending = p; announced = (settled_at c m).announced }) pending_still
        ∙ ap (λ x. record { moment = m; in_force = c.in_force; pending = c.pending; announced = x }) (by c.announced none.1))
      where
        by : (x : Option Accepted) → ForSome x (λ a. m < a.lead) → announced_by x m ≡ x
        by None h = refl
        by (Some a) h = ap (λ b. cond b (Some a) None) (lt-ltb m a.lead (h a refl))

    pub gates_ahead : gates (history_of c) m ≡ shows_under c.in_force c.pending m
    gates_ahead =
        ap (λ f. mask_under f (pending (history_of c) m) m) (three_force c.moment c.in_force c.pending c.announced s.settled m l ∙ force_still)
        ∙ (ap (λ q. mask_under c.in_force q m) (three_pending c.moment c.in_force c.pending c.announced s.settled m l ∙ pending_still)
        ∙ under_is m l)

  pub none_now : NoneBy c.pending c.announced c.moment
  none_now = (waits c.pending (s.settled).waiting, leads c.announced (s.settled).ahead)
    where
      waits : (p : Option Accepted) → IsWaiting c.moment p → ForSome p (λ a. c.moment < a.change)
      waits None w a is = cc
      waits (Some b) w a is = subst (λ (k : Accepted). c.moment < k.change) (same_Some b a is) w.1

      leads : (x : Option Accepted) → IsAhead c.moment x → ForSome x (λ a. c.moment < a.lead)
      leads None w a is = cc
      leads (Some b) w a is = subst (λ (k : Accepted). c.moment < k.lead) (same_Some b a is) w.0

  pub gates_now : gates (history_of c) c.moment ≡ shows_under c.in_force c.pending c.moment
  gates_now = gates_ahead c.moment (le_refl c.moment) none_now

  -- the list in force can be walked
  plan_usable : (plan : Plan) → plan_of c.in_force ≡ Some plan → IsSchedule plan
  plan_usable plan is = by c.in_force s.in_force_usable is
    where
      by : (f : Option Accepted) → ForSome f IsUsable → plan_of f ≡ Some plan → IsSchedule plan
      by None u is = cc
      by (Some a) u is = (u a refl).planned plan is

  -- a position shows the mask of the moment at which the list stands there
  pub shows_at : (m : ℕ) (position : Option Position) → Stands c.in_force c.pending m position → shown_by position ≡ shows_under c.in_force c.pending m
  shows_at m position stands = by (plan_of c.in_force) refl position stands
    where
      by : (p : Option Plan) → plan_of c.in_force ≡ p → (position : Option Position) → StandsUnder p (start_of c.in_force) c.pending m position → shown_by position ≡ mask_since p (start_of c.in_force) (hold_for p (start_of c.in_force) c.pending) m
      by None is position stands = ap shown_by stands
      by (Some plan) is None stands = absurd stands
      by (Some plan) is (Some position) stands = placed_mask plan (plan_usable plan is) (start_of c.in_force) (hold_for (Some plan) (start_of c.in_force) c.pending) m position stands

  -- the position shows the mask of now
  pub position_shows : (position : Option Position) → Stands c.in_force c.pending c.moment position → shown_by position ≡ gates (history_of c) c.moment
  position_shows position stands = shows_at c.moment position stands ∙ sym gates_now

  -- one mask shows up to a boundary of the list or the next command
  pub flat_now : (until : Option ℕ) → IsFlat (shows_under c.in_force c.pending) c.moment until → IsFlat (gates (history_of c)) c.moment (earlier until (earlier (option_map (λ a. a.change) c.pending) (option_map (λ a. a.lead) c.announced)))
  flat_now until flat = record {
    same = λ m l soon.
        (let near = soon_parts until _ m soon in
        let commands = soon_parts (option_map (λ a. a.change) c.pending) (option_map (λ a. a.lead) c.announced) m near.1 in
        gates_ahead m l (changes c.pending m commands.0, leads c.announced m commands.1) ∙ (flat.same m l near.0 ∙ sym gates_now));
    later = both_later until _ flat.later (both_later (option_map (λ a. a.change) c.pending) (option_map (λ a. a.lead) c.announced) (changes_back c.pending none_now.0) (leads_back c.announced none_now.1));
  }
    where
      soon_parts : (a b : Option ℕ) (m : ℕ) → ForSome (earlier a b) (λ u. m < u) → ForSome a (λ u. m < u) × ForSome b (λ u. m < u)
      soon_parts None b m soon = (λ u is. cc, soon)
      soon_parts (Some t) None m soon = (soon, λ u is. cc)
      soon_parts (Some t) (Some v) m soon =
          let low : m < min t v = soon (min t v) refl in
          (λ u is. (let same : t ≡ u = same_Some t u is in omega arith), λ u is. (let same : v ≡ u = same_Some v u is in omega arith))

      both_later : (a b : Option ℕ) → ForSome a (λ u. c.moment < u) → ForSome b (λ u. c.moment < u) → ForSome (earlier a b) (λ u. c.moment < u)
      both_later None b x y = y
      both_later (Some t) None x y = x
      both_later (Some t) (Some v) x y = λ u is.
          let first : c.moment < t = x t refl in
          let then : c.moment < v = y v refl in
          let same : min t v ≡ u = same_Some (min t v) u is in
          omega arith

      changes : (p : Option Accepted) (m : ℕ) → ForSome (option_map (λ a. a.change) p) (λ u. m < u) → ForSome p (λ a. m < a.change)
      changes None m h a is = cc
      changes (Some b) m h a is = subst (λ (k : Accepted). m < k.change) (same_Some b a is) (h b.change refl)

      leads : (p : Option Accepted) (m : ℕ) → ForSome (option_map (λ a. a.lead) p) (λ u. m < u) → ForSome p (λ a. m < a.lead)
      leads None m h a is = cc
      leads (Some b) m h a is = subst (λ (k : Accepted). m < k.lead) (same_Some b a is) (h b.lead refl)

      changes_back : (p : Option Accepted) → ForSome p (λ a. c.moment < a.change) → ForSome (option_map (λ a. a.change) p) (λ u. c.moment < u)
      changes_back None h u is = cc
      changes_back (Some b) h u is = subst (λ k. c.moment < k) (same_Some b.change u is) (h b refl)

      leads_back : (p : Option Accepted) → ForSome p (λ a. c.moment < a.lead) → ForSome (option_map (λ a. a.lead) p) (λ u. c.moment < u)
      leads_back None h u is = cc
      leads_back (Some b) h u is = subst (λ k. c.moment < k) (same_Some b.lead u is) (h b refl)

  -- at the next edge there is a gate event
  pub edge_event : (position : Option Position) → Stands c.in_force c.pending c.moment position → (u : ℕ) → c.moment ≤ u → edge_at c position ≡ Some u → IsGateEvent (history_of c) u
  edge_event position stands u l at =
      elim (which_earlier (boundary_in_force c.in_force c.pending position) (earlier (option_map (λ a. a.change) c.pending) (option_map (λ a. a.lead) c.announced)) u at) [
        | inl (listed, later) ↦
            (let parts = upto_parts u (option_map (λ a. a.change) c.pending) (option_map (λ a. a.lead) c.announced) later in
            elim (at_or_later (λ a. a.change) c.pending parts.0) [
              | inl changes ↦ inl (pending_comes c.pending changes)
              | inr waits ↦ elim (at_or_later (λ a. a.lead) c.announced parts.1) [
                | inl leads ↦ inl (announced_comes c.announced leads)
                | inr ahead ↦
                    (let force = three_force c.moment c.in_force c.pending c.announced s.settled u l ∙ force_still u l (waits, ahead) in
                    inr (subst (λ f. BeginsEntry (plan_of f) (start_of f) u) (sym force) (begins (plan_of c.in_force) refl position stands listed)))
              ]
            ])
        | inr commands ↦ elim (which_earlier (option_map (λ a. a.change) c.pending) (option_map (λ a. a.lead) c.announced) u commands) [
          | inl changes ↦ inl (pending_comes c.pending changes.0)
          | inr leads ↦ inl (announced_comes c.announced leads)
        ]
      ]
    where
      none : None ≡ Some u → ⊥
      none e = cc

      at_or_later : (t : Accepted → ℕ) (o : Option Accepted) → ForSome (option_map t o) (λ v. u ≤ v) → (option_map t o ≡ Some u) ⊎ ForSome o (λ a. u < t a)
      at_or_later t None h = inr (λ a is. cc)
      at_or_later t (Some b) h =
          elim (cases_lt u (t b)) [
            | inl later ↦ inr (λ a is. subst (λ (k : Accepted). u < t k) (same_Some b a is) later)
            | inr now ↦ inl (ap Some (let upto : u ≤ t b = h (t b) refl in let same : t b ≡ u = omega arith in same))
          ]

      pending_comes : (p : Option Accepted) → option_map (λ a. a.change) p ≡ Some u → Any (ComesAt u) (three c.in_force p c.announced)
      pending_comes None e = absurd (none e)
      pending_comes (Some a) e = any_after (ComesAt u) c.in_force _ (any_here (ComesAt u) a (cons_some c.announced []) (inr (sym (same_Some a.change u e))))

      announced_comes : (x : Option Accepted) → option_map (λ a. a.lead) x ≡ Some u → Any (ComesAt u) (three c.in_force c.pending x)
      announced_comes None e = absurd (none e)
      announced_comes (Some a) e = any_after (ComesAt u) c.in_force _ (any_after (ComesAt u) c.pending _ (any_here (ComesAt u) a [] (inl (sym (same_Some a.lead u e)))))

      begins : (q : Option Plan) → plan_of c.in_force ≡ q → (position : Option Position) → StandsUnder q (start_of c.in_force) c.pending c.moment position → boundary_under q (start_of c.in_force) c.pending position ≡ Some u → BeginsEntry q (start_of c.in_force) u
      begins None is position stands at = absurd (none at)
      begins (Some plan) is None stands at = absurd stands
      begins (Some plan) is (Some position) stands at = boundary_begins plan (plan_usable plan is) (start_of c.in_force) (hold_for (Some plan) (start_of c.in_force) c.pending) c.moment position stands u at

  pub edge_events : (position : Option Position) → Stands c.in_force c.pending c.moment position → (edge : Option ℕ) → edge ≡ edge_at c position → ForSome edge (λ u. c.moment < u) → IfSome edge (IsGateEvent (history_of c))
  edge_events position stands None is later = tt
  edge_events position stands (Some u) is later = edge_event position stands u (le_of_lt (later u refl)) (sym is)

  -- what is kept at a later moment
  pub settled_history : (t : ℕ) → c.moment ≤ t → history_of (settled_at c t) ≡ kept (history_of c) t
  settled_history t l =
      let f = three_force c.moment c.in_force c.pending c.announced s.settled t l in
      let p = three_pending c.moment c.in_force c.pending c.announced s.settled t l in
      let x = three_announced c.moment c.in_force c.pending c.announced s.settled t l in
      sym (ap (λ y. three y (pending (history_of c) t) (announced (history_of c) t)) f
      ∙ (ap (λ y. three (in_force_by c.in_force c.pending c.announced t) y (announced (history_of c) t)) p
      ∙ ap (λ y. three (in_force_by c.in_force c.pending c.announced t) (pending_by c.in_force c.pending c.announced t) y) x))

  -- the while from now on, in the stretches to come
  pub open_now : (class d : ℕ) → open_through (history_of c) class c.moment d ≡ open_while (mask_in (stretches_from c.in_force (cons_some c.pending (cons_some c.announced [])))) class c.moment d
  open_now class d =
      stretches_open_through 0 c.moment (history_of c) s.rising (past_three c.moment c.in_force c.pending c.announced s.settled) class c.moment d (le_refl c.moment)
      ∙ (ap (λ f. open_while (mask_in (stretches_from f (cons_some (pending (history_of c) c.moment) (cons_some (announced (history_of c) c.moment) [])))) class c.moment d) (settled_force c.moment c.in_force c.pending c.announced s.settled)
      ∙ (ap (λ q. open_while (mask_in (stretches_from c.in_force (cons_some q (cons_some (announced (history_of c) c.moment) [])))) class c.moment d) (settled_pending c.moment c.in_force c.pending c.announced s.settled)
      ∙ ap (λ x. open_while (mask_in (stretches_from c.in_force (cons_some c.pending (cons_some x [])))) class c.moment d) (settled_announced c.moment c.in_force c.pending c.announced s.settled)))

  -- where no command comes up to the end of a while, the one in force decides
  pub alone_while : (class d : ℕ) → NoneBy c.pending c.announced (c.moment + d) → open_while (shows_under c.in_force c.pending) class c.moment d ≡ open_while (mask_in (stretches_from c.in_force (cons_some c.pending (cons_some c.announced [])))) class c.moment d
  alone_while class d none =
      same_while (shows_under c.in_force c.pending) (gates (history_of c)) class c.moment d
      (λ m l below. sym (gates_ahead m l (λ a is. (let far = none.0 a is in omega arith), λ a is. (let far = none.1 a is in omega arith))))
      ∙ open_now class d

  -- a class that the mask of now shuts does not stay open
  pub shut_ahead : (position : Option Position) → Stands c.in_force c.pending c.moment position → (class d : ℕ) → 0 < d → opens (shown_by position) class ≡ false → open_while (mask_in (stretches_from c.in_force (cons_some c.pending (cons_some c.announced [])))) class c.moment d ≡ false
  shut_ahead position stands class d some shut =
      sym (open_now class d)
      ∙ shut_now (gates (history_of c)) class c.moment d some (ap (λ m. opens m class) (sym (position_shows position stands)) ∙ shut)

  -- an answer of the stretches to come is that of the history
  pub open_answer : (f : Option Accepted) (rest : List Accepted) → f ≡ c.in_force → cons_some c.pending (cons_some c.announced []) ≡ rest → (class n d : ℕ) → n ≡ c.moment → (answer : Bool) → answer ≡ open_while (mask_in (stretches_from f rest)) class n d → answer ≡ open_through (history_of c) class c.moment d
  open_answer f rest now then class n d at answer is =
      is
      ∙ (ap (λ k. open_while (mask_in (stretches_from f rest)) class k d) at
      ∙ (ap (λ g. open_while (mask_in (stretches_from g rest)) class c.moment d) now
      ∙ (ap (λ r. open_while (mask_in (stretches_from c.in_force r)) class c.moment d) (sym then)
      ∙ sym (open_now class d))))

-- a command that is announced changes no gate before its lead moment
pub announced_later : (c new : Commands) (x : Accepted) → new ≡ record c { announced = Some x } → c.announced ≡ None → x.lead ≤ x.change → (n : ℕ) → n < x.lead → gates (history_of new) n ≡ gates (history_of c) n
announced_later c new x is free timely n ahead =
    ap (λ (k : Commands). gates (history_of k) n) is
    ∙ (ap (λ h. gates h n) (cons_some_push c.in_force c.pending x)
    ∙ (push_gates x n ahead timely (cons_some c.in_force (cons_some c.pending []))
    ∙ ap (λ y. gates (three c.in_force c.pending y) n) (sym free)))

-- a command that is announced is the last of the history
pub announced_history : (c new : Commands) (x : Accepted) → AreCommands c → new ≡ record c { announced = Some x } → c.announced ≡ None → history_of new ≡ with_command (history_of c) c.moment x
announced_history c new x s is free =
    ap history_of is
    ∙ (cons_some_push c.in_force c.pending x
    ∙ (ap (λ y. three c.in_force c.pending y ++ (x ∷ [])) (sym free)
    ∙ ap (λ y. with_command_by y (history_of c) x) (sym (settled_announced c.moment c.in_force c.pending c.announced s.settled ∙ free))))

pub lead_none : (o : Option Accepted) → option_map (λ a. a.lead) o ≡ None → o ≡ None
lead_none None e = refl
lead_none (Some a) e = cc
