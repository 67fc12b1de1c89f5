-- A list before its hold and its end.
use Rattle.std.proofs.Common.{◌≡◌, ◌<◌, ◌≤◌, ℕ, ◌+◌, ◌*◌, min, Bool, true, false, List, slice_get, length, Option, Some, None, refl, sym, ap, ◌∙◌, subst, arith, le_trans}
use Rattle.std.proofs.lemmas.Bool.{false≢true}
use denote.Bor.{Bor}
use Rattle.std.specs.Option.{ForSome}
use Rattle.jumping.specs.Words.{greatest_moment, Plan, has_come, in_ps, mask_since, opens, open_while, mask_in, end_of, Position, IsPlaced, IsFlat, boundary_in, Listed, ListedLeg, Following, AreReady, DoFollow, lent_rest, stretch_of, stretches_in, stretches_ahead, Fits, IsSearch, NoneFits}
use Rattle.gates.specs.Walk.{walk_mask}
use Rattle.jumping.specs.Position.{Shows}
use Rattle.jumping.proofs.PositionLaws.{placed_hold, placed_mask, flat_min, flat_cycle, shut_now}
use Rattle.jumping.proofs.LegLaws.{endless_while, ready_later}
use Rattle.jumping.specs.declared.search.ListSearch.{ListSearch}
use Rattle.jumping.proofs.RepeatLaws.{not_yet, shows_own, stretch_repeats}
use Rattle.jumping.proofs.SearchLaws.{fits_flat}

-- an entry that ends before its cycle has an end
pub end_there : (c : ℕ) (ends : Option ℕ) → boundary_in c ends < c → ends ≡ Some (boundary_in c ends)
end_there c None l = absurd (omega arith)
end_there c (Some e) l = ap Some (omega arith)

module _ (leg : ListedLeg) (rest : Following) (ready : AreReady (Listed leg) rest) (stop : ℕ) (some : leg.from < stop) (unheld : ForSome leg.held_from (λ h. stop ≤ h)) (unended : ForSome leg.until (λ u. stop ≤ u)) where
  abbrev plan : Plan
  plan = leg.schedule.now

  abbrev pub boundary : ℕ
  boundary = boundary_in leg.position.now.timer.next_start (end_of leg.position.now.walk)

  pub off : has_come leg.held_from leg.position.now.timer.started ≡ false
  off = sym (placed_hold plan ((ready.first).stands).0 leg.start leg.held_from leg.from leg.position.now ((ready.first).stands).1) ∙ not_yet leg.held_from leg.from stop some unheld

  pub flat_to : IsFlat (mask_since (Some plan) leg.start leg.held_from) leg.from (Some boundary)
  flat_to = by (end_of leg.position.now.walk) refl
    where
      by : (ends : Option ℕ) → ends ≡ end_of leg.position.now.walk → IsFlat (mask_since (Some plan) leg.start leg.held_from) leg.from (Some (boundary_in leg.position.now.timer.next_start ends))
      by None is = flat_cycle plan ((ready.first).stands).0 leg.start leg.held_from leg.from leg.position.now ((ready.first).stands).1 off None is refl leg.position.now.timer.next_start refl
      by (Some e) is = flat_min plan ((ready.first).stands).0 leg.start leg.held_from leg.from leg.position.now ((ready.first).stands).1 off (Some e) is e (min e leg.position.now.timer.next_start) refl leg.position.now.timer.next_start refl refl

  -- the boundary is to come
  pub ahead : leg.from < boundary
  ahead = flat_to.later boundary refl

  -- up to the boundary one mask shows
  pub flat_ahead : (n : ℕ) → leg.from ≤ n → n < boundary → n < stop → mask_in (stretches_ahead (Listed leg) rest) n ≡ mask_in (stretches_ahead (Listed leg) rest) leg.from
  flat_ahead n from below early =
      shows_own (stretch_of (Listed leg)) (stretches_in rest.next rest.last) n (not_yet leg.until n stop early unended)
      ∙ (flat_to.same n from (λ u is. subst (λ k. n < k) (same boundary u is) below)
      ∙ sym (shows_own (stretch_of (Listed leg)) (stretches_in rest.next rest.last) leg.from (not_yet leg.until leg.from stop some unended)))
    where
      same : (a b : ℕ) → Some a ≡ Some b → a ≡ b
      same a b e = cc

  -- where the test fails there is none up to the boundary
  pub none_on : (needs : List (Option ℕ)) (u : ℕ) → u ≤ boundary → u ≤ stop → ((class d : ℕ) → slice_get needs class ≡ Some (Some d) → open_while (mask_in (stretches_ahead (Listed leg) rest)) class leg.from d ≡ false) → NoneFits (mask_in (stretches_ahead (Listed leg) rest)) needs leg.from u
  none_on needs u l m fails =
      fits_flat (mask_in (stretches_ahead (Listed leg) rest)) needs leg.from u (λ n from below. flat_ahead n from (omega arith) (omega arith)) fails

-- a class that the mask of a list shuts does not stay open from there on
pub shut_here : (leg : ListedLeg) (rest : Following) → AreReady (Listed leg) rest → ForSome leg.until (λ u. leg.from < u) → (class d : ℕ) → 0 < d → opens (walk_mask leg.position.now.walk) class ≡ false → open_while (mask_in (stretches_ahead (Listed leg) rest)) class leg.from d ≡ false
shut_here leg rest ready unended class d some shut =
    shut_now (mask_in (stretches_ahead (Listed leg) rest)) class leg.from d some
    (ap (λ mask. opens mask class) (shows_own (stretch_of (Listed leg)) (stretches_in rest.next rest.last) leg.from (not_yet leg.until leg.from (leg.from + 1) (omega arith) (λ u is. (let late = unended u is in omega arith)))
    ∙ sym (placed_mask leg.schedule.now ((ready.first).stands).0 leg.start leg.held_from leg.from leg.position.now ((ready.first).stands).1))
    ∙ shut)

-- an entry that is shown is one of the list
pub entry_listed : (plan : Plan) (start : ℕ) (held : Option ℕ) (n : ℕ) (position : Position) → IsPlaced plan start held n position → has_come held position.timer.started ≡ false → position.walk.index < length plan.entries
entry_listed plan start held n position p unheld = by (has_come held position.timer.started) unheld p.showing
  where
    by : (b : Bool) → b ≡ false → Shows b plan n position → position.walk.index < length plan.entries
    by true e shows = absurd (false≢true (sym e))
    by false e shows = (shows.shows).listed

-- where a list stands later, before a stop
module _ (leg : ListedLeg) (rest : Following) (ready : AreReady (Listed leg) rest) (stop : ℕ) (within : stop ≤ 2 * greatest_moment) (unheld : ForSome leg.held_from (λ h. stop ≤ h)) (unended : ForSome leg.until (λ u. stop ≤ u)) (m : ℕ) (position : Bor Position) (placed : IsPlaced leg.schedule.now leg.start leg.held_from m position.now) (some : m < stop) where
  pub ready_here : AreReady (Listed (record leg { from = m; position = position })) rest
  ready_here = ready_later leg rest m position ready placed (omega arith) (λ u is. let far : stop ≤ u = unended u is in omega arith)

  pub off_here : has_come leg.held_from position.now.timer.started ≡ false
  off_here = off (record leg { from = m; position = position }) rest ready_here stop some unheld unended

  pub ahead_here : m < boundary_in position.now.timer.next_start (end_of position.now.walk)
  ahead_here = ahead (record leg { from = m; position = position }) rest ready_here stop some unheld unended

  pub none_here : (needs : List (Option ℕ)) (at : ListedLeg) → at ≡ record leg { from = m; position = position } → (u : ℕ) → u ≤ boundary_in position.now.timer.next_start (end_of position.now.walk) → u ≤ stop → ((class d : ℕ) → slice_get needs class ≡ Some (Some d) → open_while (mask_in (stretches_ahead (Listed at) rest)) class at.from d ≡ false) → NoneFits (mask_in (stretches_ahead (Listed leg) rest)) needs m u
  none_here needs at is u l k fails =
      none_on (record leg { from = m; position = position }) rest ready_here stop some unheld unended needs u l k
      (λ class d there. ap (λ (g : ListedLeg). open_while (mask_in (stretches_ahead (Listed g) rest)) class g.from d) (sym is) ∙ fails class d there)

-- a list stands at or after its start
pub placed_after : (plan : Plan) (start : ℕ) (held : Option ℕ) (n : ℕ) (position : Position) → IsPlaced plan start held n position → start ≤ n
placed_after plan start held n position p = let at = p.started_is in let begun = p.begun in omega arith

-- what a list shows repeats, up to a stop
pub leg_repeats : (leg : ListedLeg) (rest : Following) → AreReady (Listed leg) rest → (stop : ℕ) → ForSome leg.held_from (λ h. stop ≤ h) → ForSome leg.until (λ u. stop ≤ u) → (m : ℕ) → leg.from ≤ m → m + in_ps leg.schedule.now.cycle < stop → mask_in (stretches_ahead (Listed leg) rest) (m + in_ps leg.schedule.now.cycle) ≡ mask_in (stretches_ahead (Listed leg) rest) m
leg_repeats leg rest ready stop unheld unended m from below =
    stretch_repeats (stretch_of (Listed leg)) (stretches_in rest.next rest.last) leg.schedule.now m refl
    (le_trans (placed_after leg.schedule.now leg.start leg.held_from leg.from leg.position.now ((ready.first).stands).1) from)
    (not_yet leg.until (m + in_ps leg.schedule.now.cycle) stop below unended)
    (not_yet leg.held_from (m + in_ps leg.schedule.now.cycle) stop below unheld)

-- a search goes on where the same list stands elsewhere
pub search_at : (search : ListSearch) (leg next : ListedLeg) (m : ℕ) (position : Bor Position) → IsSearch search leg → next ≡ record leg { from = m; position = position } → AreReady (Listed (record leg { from = m; position = position })) (lent_rest search.rest.now) → m < search.stop → IsSearch search next
search_at search leg next m position is same ready some = subst (IsSearch search) (sym same) (record {
  ready = ready;
  some = some;
  within = is.within;
  unended = is.unended;
})

-- a list that nothing follows shows what it shows by itself
pub alone_while : (leg : ListedLeg) (rest : Following) → AreReady (Listed leg) rest → rest.next ≡ None → (class n d : ℕ) → open_while (mask_in (stretches_ahead (Listed leg) rest)) class n d ≡ open_while (mask_since (Some leg.schedule.now) leg.start leg.held_from) class n d
alone_while leg rest ready none class n d =
    endless_while (stretch_of (Listed leg)) (stretches_in rest.next rest.last) class n d (subst (DoFollow (Listed leg)) none ready.follows)

pub alone_fits : (leg : ListedLeg) (rest : Following) → AreReady (Listed leg) rest → rest.next ≡ None → (needs : List (Option ℕ)) (u : ℕ) → Fits (mask_since (Some leg.schedule.now) leg.start leg.held_from) needs u → Fits (mask_in (stretches_ahead (Listed leg) rest)) needs u
alone_fits leg rest ready none needs u at = record {
  class = at.class;
  need = at.need;
  there = at.there;
  through = alone_while leg rest ready none at.class u at.need ∙ at.through;
}
