-- What a list shows by where it stands.
use Rattle.std.proofs.Common.{◌≡◌, ◌<◌, ◌≤◌, ℕ, zero, suc, ◌+◌, ◌-◌, ◌*◌, ◌%◌, min, Bool, true, false, cond, ◌&&◌, ◌||◌, ◌⊎◌, nat_le, All, List, length, get_or, slice_get, Option, Some, None, inl, inr, refl, sym, ap, ◌∙◌, subst, arith, le_refl, mul_comm}
use Rattle.std.proofs.lemmas.Bool.{leb-false, lt-leb, le-leb, cases_lt, false≢true, false_from_ne_true}
use Rattle.std.proofs.Math.Nat.{mul-le-mul_left}
use Rattle.std.proofs.lemmas.Option.{same_Some, slice_get-get_or}
use Rattle.std.specs.Option.{ForSome}
use Rattle.gates.specs.declared.gate_list.Entry.{Entry}
use Rattle.gates.specs.declared.gate_list.Stay.{Stay}
use Rattle.gates.specs.Gate.{Plan, IsSchedule, IsShownAt, in_ps, prefix, mask_at, last_mask, has_come, mask_since, opens}
use Rattle.gates.specs.Open.{open_while}
use Rattle.gates.specs.Stay.{TellsOpenTime, stay_lasts}
use Rattle.gates.proofs.PhaseLaws.{prefix_rises}
use Rattle.gates.proofs.RowLaws.{prefix_next}
use Rattle.gates.proofs.OpenLaws.{open_at, open_from}
use Rattle.gates.specs.Event.{BeginsEntry}
use Rattle.gates.specs.History.{cycle_start}
use Rattle.gates.proofs.StretchLaws.{come_later, held_while, hold_parts, same_mask_while}
use Rattle.gates.proofs.StepLaws.{boundary_is, mask_of_cycle}
use Rattle.gates.specs.Walk.{Walk, ShowsEntry, ShowsHold, IsOf, until_of, walk_mask, end_of, more}
use Rattle.gates.proofs.WalkLaws.{until_of_more, until_of_last, shown_mask, mask_of_entry}
use Rattle.jumping.specs.declared.list_position.Position.{Position}
use Rattle.jumping.specs.Position.{BeginsAtMost, IsPlaced, IsFlat, IsCycleStart, Shows, ShowsList, boundary_in, boundary_of}

-- the mask of a walk in a hold
pub mask_of_held : (walk : Walk) (mask : ℕ) → walk.held ≡ Some mask → walk_mask walk ≡ mask
mask_of_held walk mask e = by walk.held e
  where
    by : (held : Option ℕ) → held ≡ Some mask → (elim held [ Some m ↦ m | None ↦ walk.entry.mask ]) ≡ mask
    by None e = cc
    by (Some m) e = same_Some m mask e

-- a walk in an entry ends with it
pub end_of_entry : (plan : Plan) (began i : ℕ) (walk : Walk) → ShowsEntry plan began i walk → end_of walk ≡ walk.until
end_of_entry plan began i walk shows = by walk.held shows.unheld
  where
    by : (held : Option ℕ) → held ≡ None → (elim held [ Some mask ↦ None | None ↦ walk.until ]) ≡ walk.until
    by None e = refl
    by (Some mask) e = cc

-- the end of the entry that is shown is to come
pub before_end : (plan : Plan) (n : ℕ) (position : Position) → position.timer.started ≤ n → ShowsList plan n position → (u : ℕ) → end_of position.walk ≡ Some u → n < u
before_end plan n position begun shows u is =
    let walk : Walk = position.walk in
    let ends : until_of plan.entries position.timer.started walk.index ≡ Some u = sym (shows.shows).until_is ∙ (sym (end_of_entry plan position.timer.started walk.index walk shows.shows) ∙ is) in
    elim (cases_lt (walk.index + 1) (length plan.entries)) [
      | inl more ↦
          (let at : position.timer.started + prefix plan.entries (walk.index + 1) ≡ u = same_Some _ u (sym (until_of_more plan.entries position.timer.started walk.index more) ∙ ends) in
          let soon = (shows.shown).before_next more in
          omega arith)
      | inr last ↦ absurd (none (sym (until_of_last plan.entries position.timer.started walk.index last) ∙ ends))
    ]
  where
    none : None ≡ Some u → ⊥
    none e = cc

-- the entry is shown up to its end
pub still_shown : (plan : Plan) (n : ℕ) (position : Position) → position.timer.started ≤ n → ShowsList plan n position → (m : ℕ) → n ≤ m → ForSome (end_of position.walk) (λ u. m < u) → IsShownAt plan.entries (m - position.timer.started) position.walk.index
still_shown plan n position begun shows m l soon = record {
  within = (shows.shown).within;
  begun = (let b = (shows.shown).begun in omega arith);
  before_next = λ more. (let u = soon (position.timer.started + prefix plan.entries (position.walk.index + 1)) (at_end more) in omega arith);
}
  where
    at_end : position.walk.index + 1 < length plan.entries → end_of position.walk ≡ Some (position.timer.started + prefix plan.entries (position.walk.index + 1))
    at_end more =
        end_of_entry plan position.timer.started position.walk.index position.walk shows.shows
        ∙ ((shows.shows).until_is ∙ until_of_more plan.entries position.timer.started position.walk.index more)

-- an entry takes time
pub prefix_grows : (es : List Entry) → All (λ e. 0 < e.interval) es → (i : ℕ) → i < length es → prefix es i < prefix es (i + 1)
prefix_grows es ok i within =
    let e : Entry = get_or es i (record { mask = 0; interval = 0 }) in
    let there = slice_get-get_or es i (record { mask = 0; interval = 0 }) within in
    let ends = prefix_next es i e there in
    let some : 0 < e.interval = ok i (record { mask = 0; interval = 0 }) within in
    omega arith

-- a class that is shut now stays open for no time
pub shut_now : (mask : ℕ → ℕ) (class n d : ℕ) → 0 < d → opens (mask n) class ≡ false → open_while mask class n d ≡ false
shut_now mask class n d some shut = false_from_ne_true (open_while mask class n d) (λ o. false≢true (sym shut ∙ open_at mask class n d o n (le_refl n) (omega arith)))

-- a later entry begins later
prefix_apart : (es : List Entry) → All (λ e. 0 < e.interval) es → (i j : ℕ) → i < j → j < length es → prefix es i < prefix es j
prefix_apart es ok i j less within =
    let grows = prefix_grows es ok i (omega arith) in
    let rises = prefix_rises es (i + 1) j (omega arith) in
    omega arith

module _ (plan : Plan) (ok : IsSchedule plan) (start : ℕ) (held : Option ℕ) where
  -- in one cycle the hold is decided at its start
  pub hold_in : IsCycleStart plan start held → (k m : ℕ) → start + in_ps plan.cycle * k ≤ m → m < start + in_ps plan.cycle * k + in_ps plan.cycle → has_come held m ≡ has_come held (start + in_ps plan.cycle * k)
  hold_in begins k m from to = by held begins
    where
      cycle : ℕ
      cycle = in_ps plan.cycle

      by : (h : Option ℕ) → IsCycleStart plan start h → has_come h m ≡ has_come h (start + in_ps plan.cycle * k)
      by None b = refl
      by (Some h) (j, at) = elim (cases_lt k j) [
        | inl after ↦
            (let far : in_ps plan.cycle * (k + 1) ≤ in_ps plan.cycle * j = mul-le-mul_left (in_ps plan.cycle) (let l : k + 1 ≤ j = omega arith in l) in
            let one : in_ps plan.cycle * (k + 1) ≡ in_ps plan.cycle * k + in_ps plan.cycle = (let e = mul_comm (in_ps plan.cycle) k in let f = mul_comm (in_ps plan.cycle) (k + 1) in omega arith) in
            lt-leb h m (omega arith) ∙ sym (lt-leb h (start + in_ps plan.cycle * k) (omega arith)))
        | inr before ↦
            (let near : in_ps plan.cycle * j ≤ in_ps plan.cycle * k = mul-le-mul_left (in_ps plan.cycle) before in
            le-leb h m (omega arith) ∙ sym (le-leb h (start + in_ps plan.cycle * k) (omega arith)))
      ]

  -- in one cycle the list's mask is that of the entry that is shown
  pub list_mask : (k m i : ℕ) (e : Entry) → start + in_ps plan.cycle * k ≤ m → m < start + in_ps plan.cycle * k + in_ps plan.cycle → slice_get plan.entries i ≡ Some e → IsShownAt plan.entries (m - (start + in_ps plan.cycle * k)) i → mask_since (Some plan) start None m ≡ e.mask
  list_mask k m i e from to there shown =
      mask_of_cycle plan start k m (ok.plan_is).cycle from to None ∙ shown_mask plan.entries (m - (start + in_ps plan.cycle * k)) i e there shown

  -- an entry of a cycle begins within it
  entry_in : (k s i u : ℕ) → s ≡ start + in_ps plan.cycle * k → i < length plan.entries → u ≡ s + prefix plan.entries i → u < s + in_ps plan.cycle → BeginsEntry (Some plan) start u
  entry_in k s i u at listed is before =
      let above : 0 < in_ps plan.cycle = (let l = (ok.plan_is).cycle in omega arith) in
      let here = boundary_is start (in_ps plan.cycle) k u above (omega arith) (omega arith) ∙ sym at in
      (i, listed, is ∙ ap (λ m. m + prefix plan.entries i) (sym here))

  -- where at most one entry begins after n, the one that is shown at t is none after j, if j begins after n
  few_begun : (n t e k s i j : ℕ) → BeginsAtMost (Some plan) start n t e → s ≡ start + in_ps plan.cycle * k → s ≤ t → t < s + in_ps plan.cycle → IsShownAt plan.entries (t - s) i → (j < i → n < s + prefix plan.entries j) → i ≤ j
  few_begun n t e k s i j only at from to shown after = elim (cases_lt j i) [
    | inr upto ↦ upto
    | inl less ↦
        (let within = shown.within in
        let begun = shown.begun in
        let apart = prefix_apart plan.entries (ok.plan_is).intervals j i less within in
        let ahead = after less in
        let first : s + prefix plan.entries j ≡ e = only (s + prefix plan.entries j) ahead (omega arith) (entry_in k s j (s + prefix plan.entries j) at (omega arith) refl (omega arith)) in
        let second : s + prefix plan.entries i ≡ e = only (s + prefix plan.entries i) (omega arith) (omega arith) (entry_in k s i (s + prefix plan.entries i) at within refl (omega arith)) in
        absurd (omega arith))
  ]

  module _ (n : ℕ) (position : Position) (p : IsPlaced plan start held n position) where
    cycle_above : 0 < in_ps plan.cycle
    cycle_above = let l = (ok.plan_is).cycle in omega arith

    -- the hold at n is that of the cycle
    pub placed_hold : has_come held n ≡ has_come held position.timer.started
    placed_hold = by (has_come held position.timer.started) refl p.showing
      where
        at_start : has_come held (start + in_ps plan.cycle * p.cycles) ≡ has_come held position.timer.started
        at_start =
            let l = cycle_above in
            hold_in p.held_at p.cycles (start + in_ps plan.cycle * p.cycles) (le_refl _) (omega arith) ∙ ap (λ s. has_come held s) (sym p.started_is)

        by : (b : Bool) → has_come held position.timer.started ≡ b → Shows b plan n position → has_come held n ≡ b
        by true e shows = come_later held (start + in_ps plan.cycle * p.cycles) n (subst (λ s. s ≤ n) p.started_is p.begun) (at_start ∙ e)
        by false e shows =
            let s = p.started_is in
            let before = shows.before_next in
            let next_is = p.next_is in
            let begun = p.begun in
            hold_in p.held_at p.cycles n (omega arith) (omega arith) ∙ (ap (λ k. has_come held k) (sym p.started_is) ∙ e)

    abbrev pub shown_mask_since : ℕ → ℕ
    shown_mask_since m = mask_since (Some plan) start held m

    -- in a hold
    pub held_mask : (m : ℕ) → n ≤ m → has_come held position.timer.started ≡ true → shown_mask_since m ≡ last_mask plan.entries
    held_mask m l e =
        ap (λ b. cond b (last_mask plan.entries) (mask_at plan.entries ((m - start) % in_ps plan.cycle))) (come_later held n m l (placed_hold ∙ e))

    -- and in the entry that is shown
    pub entry_mask : (m : ℕ) → n ≤ m → has_come held position.timer.started ≡ false → (shows : ShowsList plan n position) → m < position.timer.next_start → ForSome (end_of position.walk) (λ u. m < u) → shown_mask_since m ≡ (position.walk.entry).mask
    entry_mask m l e shows before soon =
        let s = p.started_is in
        let begun = p.begun in
        let next_is = p.next_is in
        let from : start + in_ps plan.cycle * p.cycles ≤ m = omega arith in
        let to : m < start + in_ps plan.cycle * p.cycles + in_ps plan.cycle = omega arith in
        let unheld : has_come held m ≡ false = hold_in p.held_at p.cycles m from to ∙ (ap (λ k. has_come held k) (sym s) ∙ e) in
        ap (λ b. cond b (last_mask plan.entries) (mask_at plan.entries ((m - start) % in_ps plan.cycle))) unheld
        ∙ list_mask p.cycles m position.walk.index position.walk.entry from to (shows.shows).entry_is (subst (λ k. IsShownAt plan.entries (m - k) position.walk.index) s (still_shown plan n position p.begun shows m l soon))

    -- what is shown now
    pub placed_mask : walk_mask position.walk ≡ shown_mask_since n
    placed_mask = by (has_come held position.timer.started) refl p.showing
      where
        by : (b : Bool) → has_come held position.timer.started ≡ b → Shows b plan n position → walk_mask position.walk ≡ shown_mask_since n
        by true e shows = mask_of_held position.walk (last_mask plan.entries) shows.held_is ∙ sym (held_mask n (le_refl n) e)
        by false e shows =
            mask_of_entry plan position.timer.started position.walk.index position.walk shows.shows
            ∙ (let s = p.started_is in let begun = p.begun in let next_is = p.next_is in let before = shows.before_next in
            let from : start + in_ps plan.cycle * p.cycles ≤ n = omega arith in
            let to : n < start + in_ps plan.cycle * p.cycles + in_ps plan.cycle = omega arith in
            sym (ap (λ b. cond b (last_mask plan.entries) (mask_at plan.entries ((n - start) % in_ps plan.cycle))) (placed_hold ∙ e)
            ∙ list_mask p.cycles n position.walk.index position.walk.entry from to (shows.shows).entry_is (subst (λ k. IsShownAt plan.entries (n - k) position.walk.index) s shows.shown)))

    -- by its stay, a class is open from now on in the list
    pub entry_open : has_come held position.timer.started ≡ false → (class d : ℕ) (told : Stay) → 0 < d → TellsOpenTime plan position.walk.index class told → open_while (mask_since (Some plan) start None) class n d ≡ stay_lasts told (n - position.walk.start + d)
    entry_open e class d told some tells =
        let shows = subst (λ b. Shows b plan n position) e p.showing in
        let s = p.started_is in
        let begun = p.begun in
        let next_is = p.next_is in
        let before = shows.before_next in
        let start_is = (shows.shows).start_is in
        let first = (shows.shown).begun in
        let x : ℕ = n - position.walk.start in
        let at : start + in_ps plan.cycle * p.cycles + (prefix plan.entries position.walk.index + x) ≡ n = omega arith in
        let phase : n - position.timer.started ≡ prefix plan.entries position.walk.index + x = omega arith in
        subst (λ m. open_while (mask_since (Some plan) start None) class m d ≡ stay_lasts told (x + d)) at
        (tells start p.cycles x d (omega arith) (subst (λ q. IsShownAt plan.entries q position.walk.index) phase shows.shown) some)

    -- which entry is shown, where it started, and that it is in no hold
    pub entry_there : has_come held position.timer.started ≡ false → (position.walk.held ≡ None) × (position.walk.start ≤ n) × (position.walk.index < length plan.entries)
    entry_there e =
        let shows = subst (λ b. Shows b plan n position) e p.showing in
        let begun = p.begun in
        let start_is = (shows.shows).start_is in
        let first = (shows.shown).begun in
        ((shows.shows).unheld, omega arith, (shows.shows).listed)

    -- the walk is one of the plan
    pub placed_of : IsOf plan position.walk
    placed_of = by (has_come held position.timer.started) p.showing
      where
        by : (b : Bool) → Shows b plan n position → IsOf plan position.walk
        by true shows = inr (subst (λ began. ShowsHold plan began position.walk) (sym shows.began_then) shows)
        by false shows = inl (subst (λ began. ShowsEntry plan began position.walk.index position.walk) (sym (shows.shows).began_then) shows.shows)

    -- ---- how long one mask shows

    pub flat_held : has_come held position.timer.started ≡ true → IsFlat (mask_since (Some plan) start held) n None
    flat_held e = record { same = λ m l soon. held_mask m l e ∙ sym (held_mask n (le_refl n) e); later = λ u none. cc }

    pub flat_entry : has_come held position.timer.started ≡ false → (u : ℕ) → u ≤ position.timer.next_start → ForSome (end_of position.walk) (λ e. u ≤ e) → u ≡ position.timer.next_start ⊎ (end_of position.walk ≡ Some u) → IsFlat (mask_since (Some plan) start held) n (Some u)
    flat_entry e u to_next to_end is = by (has_come held position.timer.started) e p.showing
      where
        by : (b : Bool) → b ≡ false → Shows b plan n position → IsFlat (mask_since (Some plan) start held) n (Some u)
        by true f shows = absurd (false≢true (sym f))
        by false f shows =
            let ahead : n < u = go is in
            record {
              same = λ m l soon. (let below : m < u = soon u refl in upto shows m l below ∙ sym (upto shows n (le_refl n) ahead));
              later = λ v same. subst (λ k. n < k) (same_Some u v same) ahead;
            }
          where
            go : u ≡ position.timer.next_start ⊎ (end_of position.walk ≡ Some u) → n < u
            go (inl at_next) = let before = shows.before_next in omega arith
            go (inr at_end) = before_end plan n position p.begun shows u at_end

            upto : (shows : ShowsList plan n position) (m : ℕ) → n ≤ m → m < u → mask_since (Some plan) start held m ≡ (position.walk.entry).mask
            upto shows m l below = entry_mask m l e shows (omega arith) (λ k is. (let far : u ≤ k = to_end k is in omega arith))

    flat_end : has_come held position.timer.started ≡ false → (e : ℕ) → end_of position.walk ≡ Some e → (u : ℕ) → u ≡ min e position.timer.next_start → IsFlat (mask_since (Some plan) start held) n (Some u)
    flat_end off e is u at =
        flat_entry off u (omega arith) (λ k same. let here : e ≡ k = same_Some e k (sym is ∙ same) in omega arith)
        (elim (cases_lt e position.timer.next_start) [
          | inl first ↦ inr (is ∙ ap Some (let here : e ≡ u = omega arith in here))
          | inr after ↦ inl (omega arith)
        ])

    -- up to the end of the entry or of the cycle
    pub flat_min : has_come held position.timer.started ≡ false → (ends : Option ℕ) → ends ≡ end_of position.walk → (e u : ℕ) → ends ≡ Some e → (c : ℕ) → c ≡ position.timer.next_start → u ≡ min e c → IsFlat (mask_since (Some plan) start held) n (Some u)
    flat_min off ends of e u is c at min_is = flat_end off e (sym of ∙ is) u (omega arith)

    -- the last entry, up to the end of the cycle
    pub flat_cycle : has_come held position.timer.started ≡ false → (ends : Option ℕ) → ends ≡ end_of position.walk → ends ≡ None → (c : ℕ) → c ≡ position.timer.next_start → IsFlat (mask_since (Some plan) start held) n (Some c)
    flat_cycle off ends of none c at =
        flat_entry off c (omega arith) (λ k same. absurd (no_end k (sym none ∙ (of ∙ same)))) (inl at)
      where
        no_end : (k : ℕ) → None ≡ Some k → ⊥
        no_end k e = cc

    -- ---- what begins at a boundary

    -- at the end of a cycle its first entry begins again
    next_begins : (u : ℕ) → u ≡ position.timer.next_start → BeginsEntry (Some plan) start u
    next_begins u at = (0, (ok.plan_is).entries, (let none : prefix plan.entries 0 ≡ 0 = refl in omega (arith, whole, none)))
      where
        one : in_ps plan.cycle * (p.cycles + 1) ≡ in_ps plan.cycle * p.cycles + in_ps plan.cycle
        one = let e = mul_comm (in_ps plan.cycle) p.cycles in let f = mul_comm (in_ps plan.cycle) (p.cycles + 1) in omega arith

        here : start + in_ps plan.cycle * (p.cycles + 1) ≡ u
        here = let s = p.started_is in let n = p.next_is in let e = one in omega arith

        whole : cycle_start start (in_ps plan.cycle) u ≡ u
        whole = let l = cycle_above in let e = here in boundary_is start (in_ps plan.cycle) (p.cycles + 1) u cycle_above (omega arith) (omega arith) ∙ here

    -- at the end of an entry within a cycle the next begins
    entry_begins : (u : ℕ) → ShowsList plan n position → end_of position.walk ≡ Some u → u < position.timer.next_start → BeginsEntry (Some plan) start u
    entry_begins u shows is before =
        elim (cases_lt (position.walk.index + 1) (length plan.entries)) [
          | inl more ↦ (position.walk.index + 1, more, sym (ap (λ s. s + prefix plan.entries (position.walk.index + 1)) same_cycle ∙ there more))
          | inr last ↦ absurd (none (sym (until_of_last plan.entries position.timer.started position.walk.index last) ∙ ends))
        ]
      where
        none : None ≡ Some u → ⊥
        none e = cc

        ends : until_of plan.entries position.timer.started position.walk.index ≡ Some u
        ends = sym (shows.shows).until_is ∙ (sym (end_of_entry plan position.timer.started position.walk.index position.walk shows.shows) ∙ is)

        there : position.walk.index + 1 < length plan.entries → position.timer.started + prefix plan.entries (position.walk.index + 1) ≡ u
        there more = same_Some _ u (sym (until_of_more plan.entries position.timer.started position.walk.index more) ∙ ends)

        same_cycle : cycle_start start (in_ps plan.cycle) u ≡ position.timer.started
        same_cycle =
            let s = p.started_is in
            let begun = p.begun in
            let next_is = p.next_is in
            let after = before_end plan n position p.begun shows u is in
            boundary_is start (in_ps plan.cycle) p.cycles u cycle_above (omega arith) (omega arith) ∙ sym p.started_is

    -- where the list's next boundary is, an entry begins
    pub boundary_begins : (u : ℕ) → boundary_of held position ≡ Some u → BeginsEntry (Some plan) start u
    boundary_begins u = by (has_come held position.timer.started) p.showing
      where
        none : None ≡ Some u → ⊥
        none e = cc

        first : ShowsList plan n position → (ends : Option ℕ) → end_of position.walk ≡ ends → Some (boundary_in position.timer.next_start ends) ≡ Some u → BeginsEntry (Some plan) start u
        first shows None is at = next_begins u (sym (same_Some position.timer.next_start u at))
        first shows (Some e) is at = within (same_Some (min e position.timer.next_start) u at)
          where
            within : min e position.timer.next_start ≡ u → BeginsEntry (Some plan) start u
            within least = elim (cases_lt e position.timer.next_start) [
              | inl early ↦ (let same : e ≡ u = omega arith in entry_begins u shows (is ∙ ap Some same) (omega arith))
              | inr late ↦ next_begins u (omega arith)
            ]

        by : (b : Bool) → Shows b plan n position → cond b None (Some (boundary_in position.timer.next_start (end_of position.walk))) ≡ Some u → BeginsEntry (Some plan) start u
        by true shows at = absurd (none at)
        by false shows at = first shows (end_of position.walk) refl at

    -- ---- open time

    pub open_held : has_come held position.timer.started ≡ true → (class d : ℕ) → 0 < d → open_while (mask_since (Some plan) start held) class n d ≡ opens (last_mask plan.entries) class
    open_held e class zero some = absurd (omega arith)
    open_held e class (suc d) some =
        held_while plan start held class n (suc d) (placed_hold ∙ e) ∙ same_mask_while (last_mask plan.entries) class n d

    pub hold_ahead : has_come held position.timer.started ≡ false → (h : ℕ) → held ≡ Some h → n < h
    hold_ahead e h is = leb-false h n (ap (λ t. has_come t n) (sym is) ∙ (placed_hold ∙ e))

    pub open_to_hold : has_come held position.timer.started ≡ false → (h : ℕ) → held ≡ Some h → (class d : ℕ) → open_while (mask_since (Some plan) start held) class n d ≡ (open_while (mask_since (Some plan) start None) class n (min d (h - n)) && (nat_le d (h - n) || opens (last_mask plan.entries) class))
    open_to_hold e h is class d =
        let ahead = hold_ahead e h is in
        ap (λ t. open_while (mask_since (Some plan) start t) class n d) is
        ∙ (hold_parts plan start class n h d (omega arith)
        ∙ ap (λ b. open_while (mask_since (Some plan) start None) class n (min d (h - n)) && b) (after ahead))
      where
        after : n < h → open_while (λ i. last_mask plan.entries) class h (n + d - h) ≡ (nat_le d (h - n) || opens (last_mask plan.entries) class)
        after ahead =
            elim (cases_lt (h - n) d) [
              | inl past ↦
                  (let more : n + d - h ≡ suc (n + d - h - 1) = omega arith in
                  ap (open_while (λ i. last_mask plan.entries) class h) more ∙ (same_mask_while (last_mask plan.entries) class h (n + d - h - 1) ∙ ap (λ b. b || opens (last_mask plan.entries) class) (sym (lt-leb d (h - n) past))))
              | inr within ↦
                  (let none : n + d - h ≡ 0 = omega arith in
                  ap (open_while (λ i. last_mask plan.entries) class h) none ∙ (open_from (λ i. last_mask plan.entries) class h 0 (λ i from below. absurd (omega arith)) ∙ ap (λ b. b || opens (last_mask plan.entries) class) (sym (le-leb d (h - n) within))))
            ]

    -- the open time of a class across the hold, by what is known of the list up to the hold
    pub open_both : has_come held position.timer.started ≡ false → (h : ℕ) → held ≡ Some h → (class d e : ℕ) (listed : Bool) → e ≡ min d (h - n) → listed ≡ open_while (mask_since (Some plan) start None) class n e → open_while (mask_since (Some plan) start held) class n d ≡ (listed && (nat_le d (h - n) || opens (last_mask plan.entries) class))
    open_both off h is class d e listed at first =
        open_to_hold off h is class d
        ∙ ap (λ b. b && (nat_le d (h - n) || opens (last_mask plan.entries) class)) (ap (open_while (mask_since (Some plan) start None) class n) (sym at) ∙ sym first)

    -- the walk in a hold
    pub held_walk : has_come held position.timer.started ≡ true → walk_mask position.walk ≡ last_mask plan.entries
    held_walk on = by (has_come held position.timer.started) on p.showing
      where
        by : (b : Bool) → b ≡ true → Shows b plan n position → walk_mask position.walk ≡ last_mask plan.entries
        by true f shows = mask_of_held position.walk (last_mask plan.entries) shows.held_is
        by false f shows = absurd (false≢true f)

    -- ---- going on

    -- later in the same cycle, where the walk has come to
    goes_on : (m : ℕ) → n ≤ m → (walk : Walk) → Shows (has_come held position.timer.started) plan m (record position { walk = walk }) → IsPlaced plan start held m (record position { walk = walk })
    goes_on m l walk showing = record {
      cycles = p.cycles;
      held_at = p.held_at;
      last_is = p.last_is;
      length_is = p.length_is;
      started_is = p.started_is;
      next_is = p.next_is;
      begun = (let b = p.begun in omega arith);
      showing = showing;
    }

    -- in no hold the list shows an entry
    pub shows_list : has_come held position.timer.started ≡ false → ShowsList plan n position
    shows_list off = subst (λ b. Shows b plan n position) off p.showing

    -- in the entry of that moment
    pub entry_at : has_come held position.timer.started ≡ false → (m : ℕ) → n ≤ m → m < position.timer.next_start → (walk : Walk) → ShowsEntry plan position.walk.began walk.index walk → IsShownAt plan.entries (m - position.timer.started) walk.index → IsPlaced plan start held m (record position { walk = walk })
    entry_at off m l before walk shows shown =
        goes_on m l walk (subst (λ b. Shows b plan m (record position { walk = walk })) (sym off) (record {
          before_next = before;
          shows = subst (λ k. ShowsEntry plan k walk.index walk) ((shows_list off).shows).began_then shows;
          shown = shown;
        }))

    -- in the same entry
    pub same_entry : has_come held position.timer.started ≡ false → (m : ℕ) → n ≤ m → m < position.timer.next_start → ForSome (end_of position.walk) (λ u. m < u) → IsPlaced plan start held m position
    same_entry off m l before soon =
        goes_on m l position.walk (subst (λ b. Shows b plan m position) (sym off) (record {
          before_next = before;
          shows = (shows_list off).shows;
          shown = still_shown plan n position p.begun (shows_list off) m l soon;
        }))

    -- in the entry after
    pub next_entry : has_come held position.timer.started ≡ false → (m : ℕ) → n ≤ m → m < position.timer.next_start → end_of position.walk ≡ Some m → (walk : Walk) → ShowsEntry plan position.walk.began (position.walk.index + 1) walk → IsPlaced plan start held m (record position { walk = walk })
    next_entry off m l before ends walk after =
        let shows = shows_list off in
        let at : until_of plan.entries position.timer.started position.walk.index ≡ Some m = sym (shows.shows).until_is ∙ (sym (end_of_entry plan position.timer.started position.walk.index position.walk shows.shows) ∙ ends) in
        let more : position.walk.index + 1 < length plan.entries = after.listed in
        let phase : position.timer.started + prefix plan.entries (position.walk.index + 1) ≡ m = same_Some _ m (sym (until_of_more plan.entries position.timer.started position.walk.index more) ∙ at) in
        let grows = prefix_grows plan.entries (ok.plan_is).intervals (position.walk.index + 1) more in
        let index : walk.index ≡ position.walk.index + 1 = after.index_is in
        entry_at off m l before walk
        (subst (λ i. ShowsEntry plan position.walk.began i walk) (sym index) after)
        (subst (λ i. IsShownAt plan.entries (m - position.timer.started) i) (sym index) (record { within = more; begun = omega arith; before_next = λ next_more. omega arith }))

    -- what the next boundary is where the list is in no hold
    pub boundary_ahead : has_come held position.timer.started ≡ false → (m : ℕ) → ForSome (boundary_of held position) (λ u. m ≤ u) → (m ≤ position.timer.next_start) × ForSome (end_of position.walk) (λ u. m ≤ u)
    boundary_ahead off m upto = by (end_of position.walk) (upto (boundary_in position.timer.next_start (end_of position.walk)) (ap (λ b. cond b None (Some (boundary_in position.timer.next_start (end_of position.walk)))) off))
      where
        by : (ends : Option ℕ) → m ≤ boundary_in position.timer.next_start ends → (m ≤ position.timer.next_start) × ForSome ends (λ u. m ≤ u)
        by None l = (l, λ u is. cc)
        by (Some e) l = (omega arith, λ u is. (let same : e ≡ u = same_Some e u is in omega arith))

    -- in a hold
    pub held_still : has_come held position.timer.started ≡ true → (m : ℕ) → n ≤ m → IsPlaced plan start held m position
    held_still on m l = goes_on m l position.walk (subst (λ b. Shows b plan m position) (sym on) (subst (λ b. Shows b plan n position) on p.showing))

    -- later, before the next boundary
    pub placed_later : (m : ℕ) → n ≤ m → ForSome (boundary_of held position) (λ u. m < u) → IsPlaced plan start held m position
    placed_later m l soon = by (has_come held position.timer.started) refl
      where
        by : (b : Bool) → has_come held position.timer.started ≡ b → IsPlaced plan start held m position
        by true on = held_still on m l
        by false off = let ahead = boundary_ahead off (suc m) soon in same_entry off m l ahead.0 ahead.1

    -- ---- how many entries a list goes on by where at most one begins

    -- in the same cycle by one
    pub next_on : has_come held position.timer.started ≡ false → (t e : ℕ) → position.timer.started ≤ t → t < position.timer.next_start → BeginsAtMost (Some plan) start n t e → (i : ℕ) → IsShownAt plan.entries (t - position.timer.started) i → i ≤ position.walk.index + 1
    next_on off t e begun before only i shown =
        let next_is = p.next_is in
        let shows = shows_list off in
        few_begun n t e p.cycles position.timer.started i (position.walk.index + 1) only p.started_is begun (omega arith) shown
        (λ less. (let within = shown.within in let soon = (shows.shown).before_next (omega arith) in omega arith))

  -- and in another to its first
  module _ (n t e : ℕ) (position later : Position) (p : IsPlaced plan start held n position) (q : IsPlaced plan start held t later) (off : has_come held position.timer.started ≡ false) (past : position.timer.next_start ≤ t) (only : BeginsAtMost (Some plan) start n t e) where
    -- another cycle has begun since
    begun_since : t < later.timer.next_start → n < later.timer.started
    begun_since soon =
        let shows = shows_list n position p off in
        let before = shows.before_next in
        let here = p.started_is in
        let next_is = p.next_is in
        let there = q.started_is in
        let later_next = q.next_is in
        elim (cases_lt p.cycles q.cycles) [
          | inl after ↦
              (let far : in_ps plan.cycle * (p.cycles + 1) ≤ in_ps plan.cycle * q.cycles = mul-le-mul_left (in_ps plan.cycle) (omega arith) in
              let one : in_ps plan.cycle * (p.cycles + 1) ≡ in_ps plan.cycle * p.cycles + in_ps plan.cycle = (let a = mul_comm (in_ps plan.cycle) p.cycles in let b = mul_comm (in_ps plan.cycle) (p.cycles + 1) in omega arith) in
              omega arith)
          | inr same ↦
              (let near : in_ps plan.cycle * q.cycles ≤ in_ps plan.cycle * p.cycles = mul-le-mul_left (in_ps plan.cycle) same in
              absurd (omega arith))
        ]

    pub next_cycle : (old new : ℕ) → (has_come held t ≡ true → new ≤ old + 2) → (has_come held t ≡ false → new ≡ more old (later.walk.index + 1)) → new ≤ old + 2
    next_cycle old new held_few listed_few = by (has_come held t) refl
      where
        by : (b : Bool) → has_come held t ≡ b → new ≤ old + 2
        by true on = held_few on
        by false on =
            let shows = shows_list t later q (sym (placed_hold t later q) ∙ on) in
            let next_is = q.next_is in
            let before = shows.before_next in
            let since = begun_since before in
            let first = few_begun n t e q.cycles later.timer.started later.walk.index 0 only q.started_is q.begun (omega arith) shows.shown (λ some. omega arith) in
            let few = listed_few on in
            omega arith
