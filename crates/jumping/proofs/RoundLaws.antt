-- The places of a cycle that is repeated for ever.
use Rattle.std.proofs.Common.{◌≡◌, ◌<◌, ◌≤◌, ℕ, ◌+◌, ◌-◌, ◌*◌, ◌%◌, ◌⊎◌, Bool, ◌&&◌, true, false, List, length, slice_get, Option, Some, None, is_some, inl, inr, refl, sym, ap, ◌∙◌, subst, arith, le_refl}
use Rattle.std.specs.Prelude.{slice_index_or}
use Rattle.std.specs.Int.Bits.{bit_and}
use Rattle.std.proofs.Math.Nat.{mod-eq_of_lt, mul-add-mod_self_left}
use Rattle.std.proofs.lemmas.Bool.{cases_Bool, cases_eq, false≢true}
use Rattle.std.proofs.lemmas.Option.{get_or_from_slice_get}
use Rattle.gates.specs.declared.gate_list.Entry.{Entry}
use Rattle.gates.specs.Gate.{mask_at}
use Rattle.gates.proofs.OpenLaws.{shift_while}
use Rattle.gates.proofs.PhaseLaws.{phase_is}
use Rattle.gates.proofs.TableLaws.{opens_both, opens_none}
use Rattle.jumping.proofs.PositionLaws.{prefix_grows, shut_now}
use Rattle.jumping.specs.Words.{IsSchedule, IsShownAt, Plan, in_ps, mask_since, opens, open_while, prefix, Position, IsPlaced, NoneFits, Fits, Searched, AreAsked, IsPlace, repeated}
use Rattle.jumping.specs.declared.alone.Place.{Place}
use Rattle.jumping.proofs.AloneLaws.{need_inside, need_read}
use Rattle.jumping.proofs.SearchLaws.{fits_flat, fits_join, searched_join}

-- ---- what is shown a while later

module _ (f g : ℕ → ℕ) (later : ℕ) (same : (m : ℕ) → g (later + m) ≡ f m) where
  while_later : (class k d : ℕ) → open_while g class (later + k) d ≡ open_while f class k d
  while_later class k d = shift_while g f class (later + k) k d (λ i below. let at : later + k + i ≡ later + (k + i) = omega arith in ap g at ∙ same (k + i))

  pub none_later : (needs : List (Option ℕ)) (t u : ℕ) → NoneFits f needs t u → NoneFits g needs (later + t) (later + u)
  none_later needs t u none class d there n from below =
      let at : later + (n - later) ≡ n = omega (arith, from) in
      subst (λ k. open_while g class k d ≡ false) at (while_later class (n - later) d ∙ none class d there (n - later) (omega (arith, from)) (omega (arith, from, below)))

  pub fits_later : (needs : List (Option ℕ)) (u : ℕ) → Fits f needs u → Fits g needs (later + u)
  fits_later needs u fits = record {
    class = fits.class;
    need = fits.need;
    there = fits.there;
    through = while_later fits.class u fits.need ∙ fits.through;
  }

  pub found_later : (needs : List (Option ℕ)) (t stop u : ℕ) → Searched f needs t stop (Some u) → Searched g needs (later + t) (later + stop) (Some (later + u))
  found_later needs t stop u found = (
    let from : t ≤ u = found.0 in omega (arith, from),
    let below : u < stop = found.1 in omega (arith, below),
    none_later needs t u found.2,
    fits_later needs u found.3,
  )

-- from the start of a cycle on
pub round_later : (plan : Plan) (start k m : ℕ) → mask_since (Some plan) start None (start + in_ps plan.cycle * k + m) ≡ repeated plan m
round_later plan start k m =
    let at : start + in_ps plan.cycle * k + m - start ≡ in_ps plan.cycle * k + m = omega arith in
    let first : m ≡ m - 0 = omega arith in
    ap (λ p. mask_at plan.entries (p % in_ps plan.cycle)) at
    ∙ (ap (mask_at plan.entries) (mul-add-mod_self_left (in_ps plan.cycle) k m) ∙ ap (λ p. mask_at plan.entries (p % in_ps plan.cycle)) first)

-- and of the next one
pub next_later : (plan : Plan) (m : ℕ) → repeated plan (in_ps plan.cycle + m) ≡ repeated plan m
next_later plan m =
    let at : in_ps plan.cycle + m ≡ 0 + in_ps plan.cycle * 1 + m = omega arith in
    ap (repeated plan) at ∙ round_later plan 0 1 m

-- ---- an entry of a cycle

module _ (plan : Plan) (place : Place) (here : IsPlace plan place) (e : Entry) (entry : slice_get plan.entries place.index ≡ Some e) where
  -- it is shown up to the next one, and before the end of the cycle
  pub place_mask : (m : ℕ) → place.at ≤ m → m < in_ps plan.cycle → (place.index + 1 < length plan.entries → m < prefix plan.entries (place.index + 1)) → repeated plan m ≡ e.mask
  place_mask m from inside before =
      let first : m - 0 ≡ m = omega arith in
      ap (λ p. mask_at plan.entries (p % in_ps plan.cycle)) first
      ∙ (ap (mask_at plan.entries) (mod-eq_of_lt inside)
      ∙ (phase_is plan.entries).mask m place.index e (record { within = here.shown.within; begun = let begun = here.shown.begun in omega (arith, begun, from); before_next = before }) entry)

  -- where the test fails there is none up to there
  pub place_none : (needs : List (Option ℕ)) (u : ℕ) → u ≤ in_ps plan.cycle → (place.index + 1 < length plan.entries → u ≤ prefix plan.entries (place.index + 1)) → ((class d : ℕ) → slice_get needs class ≡ Some (Some d) → open_while (repeated plan) class place.at d ≡ false) → NoneFits (repeated plan) needs place.at u
  place_none needs u inside upto fails =
      fits_flat (repeated plan) needs place.at u
      (λ n from below. place_mask n from (omega (arith, below, inside)) (λ next. let l = upto next in omega (arith, l, below))
      ∙ sym (place_mask place.at (le_refl place.at) (omega (arith, from, below, inside)) here.shown.before_next))
      fails

-- ---- the classes that are left to be asked

-- what is asked, by what shows and in which a frame waits
pub asked_here : (plan : Plan) (needs : List (Option ℕ)) (at mask waits : ℕ) → repeated plan at ≡ mask → length needs ≡ 8 → ((class d : ℕ) → slice_index_or needs class None ≡ Some d → 0 < d)
    → ((class : ℕ) → class < 8 → opens waits class ≡ is_some (slice_index_or needs class None)) → AreAsked plan needs at (bit_and mask waits)
asked_here plan needs at mask waits shows count timed marks = record {
  count = count;
  timed = λ class d there. timed class d (get_or_from_slice_get needs class (Some d) None there);
  opened = λ class d there on.
      opens_both mask waits class
      ∙ both (opens mask class) (opens waits class) (ap (λ m. opens m class) (sym shows) ∙ on)
      (marks class (let inside = need_inside needs class (Some d) there in omega (arith, inside, count)) ∙ ap is_some (get_or_from_slice_get needs class (Some d) None there));
  waits = λ class low on. sym (marks class low) ∙ second (opens mask class) (opens waits class) (sym (opens_both mask waits class) ∙ on);
}
  where
    both : (a b : Bool) → a ≡ true → b ≡ true → (a && b) ≡ true
    both a b p q = rw (p, q) refl

    second : (a b : Bool) → (a && b) ≡ true → b ≡ true
    second true b on = on
    second false b on = absurd (false≢true on)

module _ (plan : Plan) (needs : List (Option ℕ)) (at : ℕ) where
  -- those that are left wait, and of the others none stays open
  pub record AreLeft (left : ℕ) : Type 0 where
    pub asked : (class d : ℕ) → slice_get needs class ≡ Some (Some d) → opens left class ≡ true ⊎ (open_while (repeated plan) class at d ≡ false)
    pub waits : (class : ℕ) → class < 8 → opens left class ≡ true → is_some (slice_index_or needs class None) ≡ true

  pub left_first : (asked : ℕ) → AreAsked plan needs at asked → AreLeft asked
  left_first asked among = record {
    asked = λ class d there. elim (cases_Bool (opens (repeated plan at) class)) [
      | inl on ↦ inl (among.opened class d there on)
      | inr shut ↦ inr (shut_now (repeated plan) class at d (among.timed class d there) shut)
    ];
    waits = among.waits;
  }

  -- a class that waits has a need
  pub waits_for : (class : ℕ) → is_some (slice_index_or needs class None) ≡ true → (d : ℕ) × (slice_index_or needs class None ≡ Some d)
  waits_for class waits = by (slice_index_or needs class None) refl waits
    where
      by : (o : Option ℕ) → slice_index_or needs class None ≡ o → is_some o ≡ true → (d : ℕ) × (slice_index_or needs class None ≡ Some d)
      by None is some = absurd (false≢true some)
      by (Some d) is some = (d, is)

  module _ (left : ℕ) (among : AreLeft left) (class need : ℕ) (low : class < 8) (on : opens left class ≡ true) (is : (d : ℕ) → slice_index_or needs class None ≡ Some d → need ≡ d) where
    -- it needs some time
    pub left_timed : (asked : ℕ) → AreAsked plan needs at asked → 0 < need
    left_timed asked all =
        let (d, there) = waits_for class (among.waits class low on) in
        subst (λ n. 0 < n) (sym (is d there)) (all.timed class d (need_read needs class d there))

    -- it stays open
    pub left_fits : open_while (repeated plan) class at need ≡ true → Fits (repeated plan) needs at
    left_fits through =
        let (d, there) = waits_for class (among.waits class low on) in
        record {
          class = class;
          need = d;
          there = need_read needs class d there;
          through = subst (λ n. open_while (repeated plan) class at n ≡ true) (is d there) through;
        }

    -- it does not
    pub left_fewer : (fewer : ℕ) → length needs ≡ 8 → open_while (repeated plan) class at need ≡ false → opens fewer class ≡ false
        → ((other : ℕ) → other < 8 → (other ≡ class → ⊥) → opens fewer other ≡ opens left other) → AreLeft fewer
    left_fewer fewer count fails gone others = record {
      asked = λ k d there. elim (cases_eq k class) [
        | inl same ↦ inr (subst (λ j. open_while (repeated plan) j at d ≡ false) (sym same)
            (subst (λ n. open_while (repeated plan) class at n ≡ false) (is d (subst (λ j. slice_index_or needs j None ≡ Some d) same (get_or_from_slice_get needs k (Some d) None there))) fails))
        | inr apart ↦ elim (among.asked k d there) [
          | inl still ↦ inl (others k (let inside = need_inside needs k (Some d) there in omega (arith, inside, count)) apart ∙ still)
          | inr shut ↦ inr shut
        ]
      ];
      waits = λ k below still. among.waits k below (sym (others k below (λ same. false≢true (sym gone ∙ subst (λ j. opens fewer j ≡ true) same still))) ∙ still);
    }

  pub left_none : (left : ℕ) → AreLeft left → left ≡ 0 → (class d : ℕ) → slice_get needs class ≡ Some (Some d) → open_while (repeated plan) class at d ≡ false
  left_none left among none class d there = elim (among.asked class d there) [
    | inl on ↦ absurd (false≢true (sym (opens_none class) ∙ (ap (λ m. opens m class) (sym none) ∙ on)))
    | inr shut ↦ shut
  ]

-- a place in an entry, by how long after its start it is
pub open_place : (plan : Plan) (place : Place) → IsPlace plan place → (class d past : ℕ) (a : Bool) → past ≡ place.at - place.start
    → ((start k : ℕ) → a ≡ open_while (mask_since (Some plan) start None) class (start + in_ps plan.cycle * k + (prefix plan.entries place.index + past)) d) → a ≡ open_while (repeated plan) class place.at d
open_place plan place here class d past a is stays =
    let begun = here.shown.begun in
    let start = here.start_is in
    let at : 0 + in_ps plan.cycle * 0 + (prefix plan.entries place.index + past) ≡ place.at = omega (arith, begun, start, is) in
    stays 0 0 ∙ ap (λ n. open_while (repeated plan) class n d) at

-- ---- one entry after another

-- where an entry begins
pub place_begins : (plan : Plan) → IsSchedule plan → (place : Place) → place.index < length plan.entries → place.start ≡ prefix plan.entries place.index → place.at ≡ place.start → IsPlace plan place
place_begins plan ok place listed start at = record {
  shown = record {
    within = listed;
    begun = omega (arith, start, at);
    before_next = λ more. let grows = prefix_grows plan.entries (ok.plan_is).intervals place.index listed in omega (arith, start, at, grows);
  };
  start_is = start;
}

-- a search that begins past its end finds nothing, so that none before it is none at all
pub searched_late : (mask : ℕ → ℕ) (needs : List (Option ℕ)) (from at stop : ℕ) (result : Option ℕ) → stop < at → NoneFits mask needs from stop → Searched mask needs at stop result → Searched mask needs from stop result
searched_late mask needs from at stop None past none found = none
searched_late mask needs from at stop (Some u) past none found = absurd (let after = found.0 in let below = found.1 in omega (arith, past, after, below))

-- ---- the cycle after, and the moments of a list

module _ (plan : Plan) (needs : List (Option ℕ)) (at cycle stop : ℕ) (is : cycle ≡ in_ps plan.cycle) (from : at ≤ cycle) (past : cycle ≤ stop) (none : NoneFits (repeated plan) needs at cycle) where
  shifted : (m : ℕ) → repeated plan (cycle + m) ≡ repeated plan m
  shifted m = ap (λ c. repeated plan (c + m)) is ∙ next_later plan m

  start_is : cycle + 0 ≡ cycle
  start_is = omega arith

  stop_is : cycle + (stop - cycle) ≡ stop
  stop_is = omega (arith, past)

  pub two_none : NoneFits (repeated plan) needs 0 (stop - cycle) → NoneFits (repeated plan) needs at stop
  two_none next =
      fits_join (repeated plan) needs at cycle stop none
      (subst (λ t. NoneFits (repeated plan) needs t stop) start_is (subst (NoneFits (repeated plan) needs (cycle + 0)) stop_is (none_later (repeated plan) (repeated plan) cycle shifted needs 0 (stop - cycle) next)))

  pub two_found : (u : ℕ) → Searched (repeated plan) needs 0 (stop - cycle) (Some u) → Searched (repeated plan) needs at stop (Some (cycle + u))
  two_found u next =
      searched_join (repeated plan) needs at cycle stop (Some (cycle + u)) from none
      (subst (λ t. Searched (repeated plan) needs t stop (Some (cycle + u))) start_is
      (subst (λ s. Searched (repeated plan) needs (cycle + 0) s (Some (cycle + u))) stop_is (found_later (repeated plan) (repeated plan) cycle shifted needs 0 (stop - cycle) u next)))

module _ (plan : Plan) (start k began at from ahead : ℕ) (needs : List (Option ℕ)) (is : began ≡ start + in_ps plan.cycle * k) (there : began + at ≡ from) where
  since : (m : ℕ) → mask_since (Some plan) start None (began + m) ≡ repeated plan m
  since m = ap (λ b. mask_since (Some plan) start None (b + m)) is ∙ round_later plan start k m

  end_is : began + (at + ahead) ≡ from + ahead
  end_is = omega (arith, there)

  pub list_none : NoneFits (repeated plan) needs at (at + ahead) → NoneFits (mask_since (Some plan) start None) needs from (from + ahead)
  list_none none =
      subst (λ t. NoneFits (mask_since (Some plan) start None) needs t (from + ahead)) there
      (subst (NoneFits (mask_since (Some plan) start None) needs (began + at)) end_is (none_later (repeated plan) (mask_since (Some plan) start None) began since needs at (at + ahead) none))

  pub list_found : (u : ℕ) → Searched (repeated plan) needs at (at + ahead) (Some u) → Searched (mask_since (Some plan) start None) needs from (from + ahead) (Some (from + (u - at)))
  list_found u found =
      let found_is : began + u ≡ from + (u - at) = let after = found.0 in omega (arith, there, after) in
      subst (λ v. Searched (mask_since (Some plan) start None) needs from (from + ahead) (Some v)) found_is
      (subst (λ t. Searched (mask_since (Some plan) start None) needs t (from + ahead) (Some (began + u))) there
      (subst (λ s. Searched (mask_since (Some plan) start None) needs (began + at) s (Some (began + u))) end_is (found_later (repeated plan) (mask_since (Some plan) start None) began since needs at (at + ahead) u found)))

-- where a list stands in its cycle
pub place_listed : (plan : Plan) (start n : ℕ) (position : Position) → IsPlaced plan start None n position → (place : Place) → place.index ≡ position.walk.index → place.start ≡ position.walk.start - position.timer.started → place.at ≡ n - position.timer.started → IsPlace plan place
place_listed plan start n position stands place index first at =
    let shows = stands.showing.shows in
    let start_is = shows.start_is in
    let index_is = shows.index_is in
    record {
      shown = subst (λ i. IsShownAt plan.entries place.at i) (sym index) (subst (λ p. IsShownAt plan.entries p position.walk.index) (sym at) stands.showing.shown);
      start_is = first ∙ (let same : position.walk.start - position.timer.started ≡ prefix plan.entries position.walk.index = omega (arith, start_is) in same) ∙ ap (prefix plan.entries) (sym index);
    }
