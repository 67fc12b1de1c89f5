-- What stays the same up to the next edge.
use Rattle.std.proofs.Common.{◌≡◌, ◌<◌, ◌≤◌, ◌+◌, ℕ, min, cond, ltb, Bool, true, IsTrue, ◌⊎◌, inl, inr, [], Any, Option, Some, None, option_map, refl, sym, ap, ◌∙◌, subst, arith}
use Rattle.std.proofs.lemmas.Bool.{cases_lt, lt-leb, le-ltb}
use Rattle.std.proofs.lemmas.Option.{same_Some}
use Rattle.std.specs.Option.{ForSome, option_or}
use Rattle.jumping.specs.Words.{Plan, IsSchedule, opens, Accepted, cons_some, gates, open_through, plan_of, start_of, three, Position, BeginsAtMost, Commands, AreCommands, NoneBy, history_of, settled_at, Stands, edge_at, shown_by, Resumes, IsEdge, NothingComes, OneEntryComes}
use Rattle.gates.proofs.OpenLaws.{open_from}
use Rattle.gates.specs.History.{only_if}
use Rattle.gates.specs.Event.{BeginsEntry, ComesAt}
use Rattle.gates.proofs.EventLaws.{any_after, any_here}
use Rattle.gates.proofs.HistoryLaws.{three_force}
use Rattle.jumping.proofs.PositionLaws.{placed_later}
use Rattle.jumping.specs.Commands.{IsUsable, announced_by, pending_by}
use Rattle.jumping.specs.InForce.{StandsUnder, boundary_in_force, boundary_under, earlier, hold_for}
use Rattle.jumping.specs.Resume.{ResumesBy}
use Rattle.jumping.proofs.CommandLaws.{edge_events, force_still, gates_ahead, none_now, same_commands, shows_at}

-- what is before the earlier of two moments is before both
parts : (m : ℕ) (a b : Option ℕ) → ForSome (earlier a b) (λ u. m < u) → ForSome a (λ u. m < u) × ForSome b (λ u. m < u)
parts m None b h = (λ u is. cc, h)
parts m (Some t) None h = (h, λ u is. cc)
parts m (Some t) (Some v) h =
    let low : m < min t v = h (min t v) refl in
    (λ u is. (let same : t ≡ u = same_Some t u is in omega arith), λ u is. (let same : v ≡ u = same_Some v u is in omega arith))

-- a list stands the same up to its next boundary
pub stands_later : (f p : Option Accepted) (n m : ℕ) (position : Option Position) → ForSome f IsUsable → Stands f p n position → n ≤ m → ForSome (boundary_in_force f p position) (λ u. m < u) → Stands f p m position
stands_later f p n m position usable stands l soon = by (plan_of f) planned position stands soon
  where
    planned : ForSome (plan_of f) IsSchedule
    planned = go f usable
      where
        go : (f : Option Accepted) → ForSome f IsUsable → ForSome (plan_of f) IsSchedule
        go None u plan is = cc
        go (Some a) u plan is = (u a refl).planned plan is

    by : (q : Option Plan) → ForSome q IsSchedule → (position : Option Position) → StandsUnder q (start_of f) p n position → ForSome (boundary_under q (start_of f) p position) (λ u. m < u) → StandsUnder q (start_of f) p m position
    by None ok position stands soon = stands
    by (Some plan) ok None stands soon = stands
    by (Some plan) ok (Some position) stands soon = placed_later plan (ok plan refl) (start_of f) (hold_for (Some plan) (start_of f) p) n position stands m l soon

module _ (c : Commands) (s : AreCommands c) (position : Option Position) (m : ℕ) (l : c.moment ≤ m) (soon : ForSome (edge_at c position) (λ u. m < u)) where
  both : ForSome (boundary_in_force c.in_force c.pending position) (λ u. m < u) × ForSome (earlier (option_map (λ a. a.change) c.pending) (option_map (λ a. a.lead) c.announced)) (λ u. m < u)
  both = parts m (boundary_in_force c.in_force c.pending position) (earlier (option_map (λ a. a.change) c.pending) (option_map (λ a. a.lead) c.announced)) soon

  commands : ForSome (option_map (λ a. a.change) c.pending) (λ u. m < u) × ForSome (option_map (λ a. a.lead) c.announced) (λ u. m < u)
  commands = parts m (option_map (λ a. a.change) c.pending) (option_map (λ a. a.lead) c.announced) both.1

  -- no command comes by then
  pub none_by : NoneBy c.pending c.announced m
  none_by = (changes c.pending commands.0, leads c.announced commands.1)
    where
      changes : (p : Option Accepted) → ForSome (option_map (λ a. a.change) p) (λ u. m < u) → ForSome p (λ a. m < a.change)
      changes None h a is = cc
      changes (Some b) h a is = subst (λ (k : Accepted). m < k.change) (same_Some b a is) (h b.change refl)

      leads : (x : Option Accepted) → ForSome (option_map (λ a. a.lead) x) (λ u. m < u) → ForSome x (λ a. m < a.lead)
      leads None h a is = cc
      leads (Some b) h a is = subst (λ (k : Accepted). m < k.lead) (same_Some b a is) (h b.lead refl)

  -- and the list in force stands as it stood
  pub still_stands : Stands c.in_force c.pending c.moment position → Stands c.in_force c.pending m position
  still_stands stands = stands_later c.in_force c.pending c.moment m position s.in_force_usable stands l both.0

  -- and shows the mask that it showed
  pub still_shows : Stands c.in_force c.pending c.moment position → gates (history_of c) m ≡ shown_by position
  still_shows stands = gates_ahead c s m l none_by ∙ sym (shows_at c s m position (still_stands stands))

-- a class that the mask of now opens stays open up to the edge
pub open_still : (c : Commands) → AreCommands c → (position : Option Position) → Stands c.in_force c.pending c.moment position → (class d : ℕ) → ForSome (edge_at c position) (λ u. c.moment + d ≤ u) → (0 < d → opens (shown_by position) class ≡ true) → open_through (history_of c) class c.moment d ≡ true
open_still c s position stands class d far shows =
    open_from (gates (history_of c)) class c.moment d (λ m from below.
    ap (λ mask. opens mask class) (still_shows c s position m from (λ u is. (let past = far u is in omega arith)) stands) ∙ shows (omega arith))

-- ---- where the list in force goes on, after any move

none_announced : (f p : Option Accepted) (r : Option Position) → ResumesBy f p None r
none_announced f None r = tt
none_announced f (Some a) r = tt

-- by a moment no command has come, or none is announced any more, or none is pending
decide : (p x : Option Accepted) (t : ℕ) → NoneBy p x t ⊎ ((announced_by x t ≡ None) ⊎ ((f : Option Accepted) → pending_by f p x t ≡ None))
decide p None t = inr (inl refl)
decide None (Some b) t =
    elim (cases_lt t b.lead) [
      | inl before ↦ inl (λ a is. cc, λ a is. subst (λ (k : Accepted). t < k.lead) (same_Some b a is) before)
      | inr come ↦ inr (inl (ap (λ y. cond y (Some b) None) (le-ltb t b.lead come)))
    ]
decide (Some a) (Some b) t =
    elim (cases_lt t b.lead) [
      | inr come ↦ inr (inl (ap (λ y. cond y (Some b) None) (le-ltb t b.lead come)))
      | inl before ↦ elim (cases_lt t a.change) [
        | inl still ↦ inl (λ k is. subst (λ (j : Accepted). t < j.change) (same_Some a k is) still, λ k is. subst (λ (j : Accepted). t < j.lead) (same_Some b k is) before)
        | inr over ↦ inr (inr (λ f.
            ap (λ y. only_if (λ k. ltb t k.change) (option_or (cond y (Some b) None) (Some a))) (lt-leb b.lead t before)
            ∙ ap (λ y. cond y (Some a) None) (le-ltb t a.change over)))
      ]
    ]

pub resumes_settled : (c : Commands) → AreCommands c → (r : Option Position) (t : ℕ) → c.moment ≤ t → Resumes c r → Resumes (settled_at c t) r
resumes_settled c s r t l h =
    elim (decide c.pending c.announced t) [
      | inl none ↦ subst (λ k. Resumes k r) (sym (same_commands c s t l none)) h
      | inr gone ↦ elim gone [
        | inl led ↦ subst (λ x. ResumesBy (settled_at c t).in_force (settled_at c t).pending x r) (sym led) (none_announced (settled_at c t).in_force (settled_at c t).pending r)
        | inr over ↦ subst (λ p. ResumesBy (settled_at c t).in_force p (settled_at c t).announced r) (sym (over c.in_force)) tt
      ]
    ]

-- ---- what comes next

-- where nothing comes by t, the edge is later
pub edge_ahead : (c : Commands) (position : Option Position) (edge : Option ℕ) (t : ℕ) → IsEdge c position edge → NothingComes (history_of c) c.moment t → (near : Bool) → (ForSome edge (λ u. t < u) → IsTrue near) → near ≡ true
edge_ahead c position None t is nothing near soon = soon (λ u none. cc)
edge_ahead c position (Some e) t is nothing near soon =
    elim (cases_lt t e) [
      | inl before ↦ soon (λ u same. subst (λ k. t < k) (same_Some e u same) before)
      | inr come ↦ absurd (nothing e (is.later e refl) come is.event)
    ]

-- where no command comes by t, and at most one entry of the list in force begins
module _ (c : Commands) (s : AreCommands c) (t e : ℕ) (one : OneEntryComes (history_of c) c.moment t e) where
  pub alone_by : NoneBy c.pending c.announced t
  alone_by = (
    λ a is. elim (cases_lt t a.change) [
      | inl after ↦ after
      | inr come ↦ absurd ((one a.change ((none_now c s).0 a is) come (inl (changes c.pending a is))).1 (changes c.pending a is))
    ],
    λ a is. elim (cases_lt t a.lead) [
      | inl after ↦ after
      | inr come ↦ absurd ((one a.lead ((none_now c s).1 a is) come (inl (leads c.announced a is))).1 (leads c.announced a is))
    ],
  )
    where
      changes : (p : Option Accepted) (a : Accepted) → p ≡ Some a → Any (ComesAt a.change) (three c.in_force p c.announced)
      changes None a is = cc
      changes (Some b) a is = any_after (ComesAt a.change) c.in_force _ (any_here (ComesAt a.change) b (cons_some c.announced []) (inr (ap (λ (k : Accepted). k.change) (sym (same_Some b a is)))))

      leads : (x : Option Accepted) (a : Accepted) → x ≡ Some a → Any (ComesAt a.lead) (three c.in_force c.pending x)
      leads None a is = cc
      leads (Some b) a is = any_after (ComesAt a.lead) c.in_force _ (any_after (ComesAt a.lead) c.pending _ (any_here (ComesAt a.lead) b [] (inl (ap (λ (k : Accepted). k.lead) (sym (same_Some b a is))))))

  pub begins_at_most : BeginsAtMost (plan_of c.in_force) (start_of c.in_force) c.moment t e
  begins_at_most m after upto begins =
      let before : NoneBy c.pending c.announced m = (λ a is. (let far : t < a.change = alone_by.0 a is in omega arith), λ a is. (let far : t < a.lead = alone_by.1 a is in omega arith)) in
      let same = three_force c.moment c.in_force c.pending c.announced s.settled m (omega arith) ∙ force_still c s m (omega arith) before in
      (one m after upto (inr (subst (λ f. BeginsEntry (plan_of f) (start_of f) m) (sym same) begins))).0

-- ---- where no command is to come

earlier_none : (b : Option ℕ) → earlier b None ≡ b
earlier_none None = refl
earlier_none (Some t) = refl

module _ (c new : Commands) (t : ℕ) (unpending : c.pending ≡ None) (unannounced : c.announced ≡ None) (is : new ≡ record c { moment = t }) (position : Option Position) (sound : AreCommands new) (stands : Stands c.in_force None t position) where
  stands_alone : Stands new.in_force new.pending new.moment position
  stands_alone = subst (λ (k : Commands). Stands k.in_force k.pending k.moment position) (sym is) (subst (λ q. Stands c.in_force q t position) (sym unpending) stands)

  -- the next edge is the next boundary of the list in force
  edge_alone : edge_at new position ≡ boundary_in_force c.in_force None position
  edge_alone =
      ap (λ k. edge_at k position) is
      ∙ (ap (λ q. earlier (boundary_in_force c.in_force q position) (earlier (option_map (λ a. a.change) q) (option_map (λ a. a.lead) c.announced))) unpending
      ∙ (ap (λ x. earlier (boundary_in_force c.in_force None position) (option_map (λ (a : Accepted). a.lead) x)) unannounced
      ∙ earlier_none (boundary_in_force c.in_force None position)))

  pub alone_edge : (edge : Option ℕ) → edge ≡ boundary_in_force c.in_force None position → ForSome edge (λ u. t < u) → IsEdge new position edge
  alone_edge edge at later =
      let here = at ∙ sym edge_alone in
      let ahead = subst (λ (k : Commands). ForSome edge (λ u. k.moment < u)) (sym is) later in
      record { is = here; later = ahead; event = edge_events new sound position stands_alone edge here ahead }
