-- What an answer says of a plan alone: the walk by its definition.
use Rattle.std.proofs.Common.{◌≡◌, ◌<◌, ◌≤◌, ◌^◌, ℕ, zero, suc, ◌+◌, ◌-◌, max, Bool, true, false, cond, leb, ltb, List, [], ◌∷◌, ◌++◌, length, map, All, Option, Some, None, IsSome, is_some, Result, refl, sym, ap, ◌∙◌, subst, arith, set}
use Rattle.std.proofs.lemmas.List.{length-map}
use Rattle.std.specs.Option.{option_map_or}
use Rattle.std.proofs.lemmas.Bool.{leb-true, leb-false, ltb-true, ltb-false, false≢true}
use Rattle.std.proofs.lemmas.Option.{same_Some}
use Rattle.wire_time.specs.Moment.{greatest_moment}
use Rattle.gates.specs.Gate.{IsSchedule, Plan, in_ps}
use Rattle.delay_bounds.specs.declared.Flow.{Flow}
use Rattle.delay_bounds.specs.declared.Told.{Told}
use Rattle.delay_bounds.specs.declared.Unbound.{Unbound}
use Rattle.delay_bounds.specs.declared.Unbound.TheVariants.{Overloaded, Long}
use Rattle.delay_bounds.specs.declared.look.Backlog.{Backlog}
use Rattle.delay_bounds.specs.declared.look.Look.{Look}
use Rattle.delay_bounds.specs.declared.look.Look.TheVariants as Looks
use Rattle.delay_bounds.specs.declared.line.Stop.{Stop}
use Rattle.delay_bounds.specs.declared.line.Stop.TheVariants as Stops
use Rattle.delay_bounds.specs.Backlog.{followed, taken_at}
use Rattle.delay_bounds.specs.Bounded.{Answer, IsByPlan, IsUnbound, unbound_by}
use Rattle.delay_bounds.specs.Bounds.{Track, arrives, first_fit}
use Rattle.delay_bounds.specs.Claim.{IsFlow, earliest, flow_at, offsets_of}
use Rattle.delay_bounds.specs.ForEver.{counting}
use Rattle.delay_bounds.specs.Line.{Standing, before_any}
use Rattle.delay_bounds.specs.Noted.{noted, unseen}
use Rattle.delay_bounds.specs.Overloaded.{IsOverloaded}
use Rattle.delay_bounds.specs.Stuck.{first_refused}
use Rattle.delay_bounds.specs.Walk.{after, begun, may_by}
use Rattle.delay_bounds.specs.Walked.{PlanLaw, Walking, answer_of, by_look, by_next, by_stop, frame_of, goes_on, last_offset, look, starting, stop_of, walked, with_told}
use Rattle.delay_bounds.proofs.BacklogLaws.{IsKept, kept_none, kept_on}
use Rattle.delay_bounds.proofs.CourseLaws.{IsGoing, IsMarked, comes_at, goes_on as one_on, is_back, is_long, is_marked, line_long, starts_out, stops}
use Rattle.delay_bounds.proofs.MomentLaws.{some_least}
use Rattle.delay_bounds.proofs.SeenLaws.{back_bounds, back_most, back_recurs}
use Rattle.delay_bounds.proofs.StepLaws.{first_of}
use Rattle.delay_bounds.proofs.WalkedLaws.{frame_is, is_again}
use Rattle.delay_bounds.proofs.Words.{starts_at}

-- a first fit is less than so much later
fit_soon : (may : ℕ → ℕ → Bool) (d t n s : ℕ) → first_fit may d t n ≡ Some s → s < t + n
unfolding first_fit
fit_soon may d t zero s e = absurd (let no : None ≡ Some s = e in cc)
fit_soon may d t (suc n) s e = go (may t d) e (fit_soon may d (t + 1) n s)
  where
    go : (b : Bool) → cond b (Some t) (first_fit may d (t + 1) n) ≡ Some s → (first_fit may d (t + 1) n ≡ Some s → s < t + 1 + n) → s < t + suc n
    go true h rest = (let same : t ≡ s = same_Some t s h in omega (arith, same))
    go false h rest = (let less = rest h in omega (arith, less))

-- ---- why a walk stops

record Says (may : ℕ → ℕ → Bool) (cycle room t : ℕ) (f : Flow) (free : ℕ) (waiting : List ℕ) (stop : Stop) : Type 0 where
  full : stop ≡ Stops.Full → room ≤ length waiting
  not_full : room ≤ length waiting → stop ≡ Stops.Full
  late : stop ≡ Stops.Late → greatest_moment < max t free
  never : stop ≡ Stops.Never → first_fit may f.need (max t free) cycle ≡ None

-- where it doesn't
record Fits (may : ℕ → ℕ → Bool) (cycle room t : ℕ) (f : Flow) (free : ℕ) (waiting : List ℕ) : Type 0 where
  at : ℕ
  fit : first_fit may f.need (max t free) cycle ≡ Some at
  room_is : leb room (length waiting) ≡ false
  soon : max t free ≤ greatest_moment

module _ (may : ℕ → ℕ → Bool) (cycle room t : ℕ) (f : Flow) (free : ℕ) (waiting : List ℕ) where
  -- by whether it is full, whether it is late, and the first fit
  abbrev stop_by : Bool → Bool → Option ℕ → Option Stop
  stop_by full late fit = cond full (Some Stops.Full) (cond late (Some Stops.Late) (cond (is_some fit) None (Some Stops.Never)))

  stop_says : (stop : Stop) → stop_of may cycle room t f free waiting ≡ Some stop → Says may cycle room t f free waiting stop
  stop_says stop is = by (leb room (length waiting)) refl (ltb greatest_moment (max t free)) refl (first_fit may f.need (max t free) cycle) refl is
    where
      by : (b : Bool) → leb room (length waiting) ≡ b → (c : Bool) → ltb greatest_moment (max t free) ≡ c → (o : Option ℕ) → first_fit may f.need (max t free) cycle ≡ o
          → stop_by b c o ≡ Some stop → Says may cycle room t f free waiting stop
      by true b c d o e is =
          let same : Stops.Full ≡ stop = same_Some Stops.Full stop is in
          record { full = λ s. leb-true _ _ b; not_full = λ le. sym same; late = λ s. absurd (cc); never = λ s. absurd (cc) }
      by false b true d o e is =
          let same : Stops.Late ≡ stop = same_Some Stops.Late stop is in
          let few = leb-false _ _ b in
          record { full = λ s. absurd (cc); not_full = λ le. absurd (omega (arith, few, le)); late = λ s. ltb-true _ _ d; never = λ s. absurd (cc) }
      by false b false d (Some at) e is = absurd (let no : None ≡ Some stop = is in cc)
      by false b false d None e is =
          let same : Stops.Never ≡ stop = same_Some Stops.Never stop is in
          let few = leb-false _ _ b in
          record { full = λ s. absurd (cc); not_full = λ le. absurd (omega (arith, few, le)); late = λ s. absurd (cc); never = λ s. e }

  none_fits : stop_of may cycle room t f free waiting ≡ None → Fits may cycle room t f free waiting
  none_fits is = by (leb room (length waiting)) refl (ltb greatest_moment (max t free)) refl (first_fit may f.need (max t free) cycle) refl is
    where
      by : (b : Bool) → leb room (length waiting) ≡ b → (c : Bool) → ltb greatest_moment (max t free) ≡ c → (o : Option ℕ) → first_fit may f.need (max t free) cycle ≡ o
          → stop_by b c o ≡ None → Fits may cycle room t f free waiting
      by true b c d o e is = absurd (let no : Some Stops.Full ≡ None = is in cc)
      by false b true d o e is = absurd (let no : Some Stops.Late ≡ None = is in cc)
      by false b false d None e is = absurd (let no : Some Stops.Never ≡ None = is in cc)
      by false b false d (Some at) e is = record { at = at; fit = e; room_is = b; soon = ltb-false _ _ d }

-- ---- the walk

module _ (plan : Plan) (class room limit : ℕ) (flows : List Flow) (above : 0 < plan.cycle) (short : in_ps plan.cycle < 2 ^ 64) (some : 0 < length flows) (fit : All IsFlow flows) where
  -- in the words of a walk in code
  abbrev standing : Track → Standing
  standing track = record { track = track; room = room }

  abbrev Goes : Walking → Type 0
  Goes w = IsGoing plan class room flows limit w.earlier w.frames w.since (standing w.track) (standing w.base) w.bounds w.most

  abbrev Keeps : Walking → Type 0
  Keeps w = IsKept plan class room flows w.frames w.since w.base w.backlog

  abbrev Meets : Result Answer Unbound → Type 0
  Meets answer = IsByPlan plan class room flows limit answer

  -- so many frames were walked as may be
  unended_is : (grows : Bool) → (grows ≡ true → IsOverloaded plan class flows) → IsSome (after (may_by plan class) (in_ps plan.cycle) room flows limit (begun (offsets_of flows)))
      → IsUnbound plan class room flows limit (cond grows Overloaded Long)
  unended_is true growing long = (growing refl, long)
  unended_is false growing long = long

  module _ (n : ℕ) (w : Walking) (e : ℕ × ℕ) (first : earliest w.track.nexts ≡ Some e) (count : w.frames + suc n ≡ limit) (h : Goes w) (kept : Keeps w) (on : (v : Walking) → v.frames + n ≡ limit → Goes v → Keeps v → Meets (walked plan class room flows n v)) where
    abbrev new : Track
    new = counting w.track

    -- the place is one of a flow
    within : e.1 < length flows
    within =
        let long = line_long plan class room flows limit w.earlier w.frames w.since (standing w.track) (standing w.base) w.bounds w.most h in
        let inside = (first_of w.track.nexts e first).0 in
        omega (arith, long, inside)

    -- it stops there
    stopped : (stop : Stop) → Says (may_by plan class) (in_ps plan.cycle) room e.0 (flow_at flows e.1) new.free new.starts stop
        → IsUnbound plan class room flows limit (unbound_by stop (frame_of flows e w.frames) (first_refused room flows new))
    stopped stop says =
        let turn = comes_at plan class room flows limit w.earlier w.frames w.since (standing w.track) (standing w.base) w.bounds w.most h e.0 e.1 (flow_at flows e.1) first refl in
        let flow : IsFlow (flow_at flows e.1) = fit e.1 (record { need = 0; period = 0; offset = 0 }) within in
        subst (λ f. IsUnbound plan class room flows limit (unbound_by stop f (first_refused room flows new))) (sym (frame_is flows e.0 e.1 w.frames turn.0 flow.above turn.1))
        (stops plan class room flows limit w.earlier w.frames w.since (standing w.track) (standing w.base) w.bounds w.most h e.0 e.1 turn.0 stop (first_refused room flows new) refl first turn.1
        says.full says.not_full says.late says.never)

    -- it goes on, and looks back to where it stood when a frame came
    gone : (earlier since : ℕ) (base : Track) (backlog : Backlog) → earlier ≤ w.frames → IsMarked plan class room flows earlier since (standing base) → IsKept plan class room flows (w.frames + 1) since base backlog
        → Fits (may_by plan class) (in_ps plan.cycle) room e.0 (flow_at flows e.1) new.free new.starts
        → Meets (with_told plan class room flows (walked plan class room flows n) (record { frames = w.frames; track = w.track; bounds = w.bounds; most = w.most; earlier = earlier; since = since; base = base; backlog = backlog })
        (arrives (may_by plan class) (in_ps plan.cycle) room e.0 e.1 (flow_at flows e.1) new.free new.nexts new.starts))
    gone earlier since base backlog onward marked keeps fits =
        let f : Flow = flow_at flows e.1 in
        let told : Told = record { place = e.1; wait = fits.at - e.0; waiting = length new.starts + 1 } in
        let now : Track = record { nexts = set new.nexts e.1 (e.0 + f.period); free = fits.at + f.need; starts = new.starts ++ fits.at ∷ [] } in
        let is : arrives (may_by plan class) (in_ps plan.cycle) room e.0 e.1 f new.free new.nexts new.starts ≡ Some (told, now) =
        ap (λ b. cond b None (starts_at (first_fit (may_by plan class) f.need (max e.0 new.free) (in_ps plan.cycle)) e.0 e.1 f new.nexts new.starts)) fits.room_is
        ∙ ap (λ o. starts_at o e.0 e.1 f new.nexts new.starts) fits.fit in
        let near = fit_soon (may_by plan class) f.need (max e.0 new.free) (in_ps plan.cycle) fits.at fits.fit in
        let soon = fits.soon in
        let small : told.wait < 2 ^ 128 = omega (arith, near, soon, short) in
        let v : Walking = record { frames = w.frames + 1; track = now; bounds = noted told w.bounds; most = max told.waiting w.most; earlier = earlier; since = since; base = base; backlog = backlog } in
        subst (λ o. Meets (with_told plan class room flows (walked plan class room flows n) (record { frames = w.frames; track = w.track; bounds = w.bounds; most = w.most; earlier = earlier; since = since; base = base; backlog = backlog }) o)) (sym is)
        (on v (omega (arith, count))
        (one_on plan class room flows limit w.earlier w.frames w.since (standing w.track) (standing w.base) w.bounds w.most h e.0 e.1 told (standing now) earlier since (standing base) (omega (arith, count)) first is small refl onward marked within) keeps)

    by_frame : (earlier since : ℕ) (base : Track) (backlog : Backlog) → earlier ≤ w.frames → IsMarked plan class room flows earlier since (standing base) → IsKept plan class room flows (w.frames + 1) since base backlog
        → Meets (goes_on plan class room flows (walked plan class room flows n) e new (record { frames = w.frames; track = w.track; bounds = w.bounds; most = w.most; earlier = earlier; since = since; base = base; backlog = backlog }))
    by_frame earlier since base backlog onward marked keeps = go (stop_of (may_by plan class) (in_ps plan.cycle) room e.0 (flow_at flows e.1) new.free new.starts) refl
      where
        v : Walking
        v = record { frames = w.frames; track = w.track; bounds = w.bounds; most = w.most; earlier = earlier; since = since; base = base; backlog = backlog }

        go : (o : Option Stop) → stop_of (may_by plan class) (in_ps plan.cycle) room e.0 (flow_at flows e.1) new.free new.starts ≡ o → Meets (by_stop plan class room flows (walked plan class room flows n) e new v o)
        go (Some stop) is = stopped stop (stop_says (may_by plan class) (in_ps plan.cycle) room e.0 (flow_at flows e.1) new.free new.starts stop is)
        go None is = gone earlier since base backlog onward marked keeps (none_fits (may_by plan class) (in_ps plan.cycle) room e.0 (flow_at flows e.1) new.free new.starts is)

    -- the backlog behind a look and the frame
    abbrev followed_by : Look → Backlog
    followed_by l = followed (in_ps plan.cycle) l (taken_at e.0 new) w.backlog

    by_looking : (l : Look) → look (in_ps plan.cycle) (last_offset flows) w.since e.0 new w.base ≡ l → Meets (by_look plan class room flows (walked plan class room flows n) e new w l)
    by_looking Looks.Again is =
        let again = is_again (in_ps plan.cycle) (last_offset flows) w.since e.0 new w.base is in
        let back = is_back plan class room flows limit w.earlier w.frames w.since (standing w.track) (standing w.base) w.bounds w.most h e.0 e.1 above first again.0 again.1 again.2 in (
          back_bounds plan class room flows above w.earlier w.frames (e.0 - w.since) back w.bounds w.most h.seen,
          back_most plan class room flows above w.earlier w.frames (e.0 - w.since) back w.bounds w.most h.seen,
          back_recurs plan class room flows above w.earlier w.frames (e.0 - w.since) back,
        )
    by_looking Looks.Frames is =
        by_frame w.frames e.0 new (followed_by Looks.Frames) (omega arith) (is_marked plan class room flows limit w.earlier w.frames w.since (standing w.track) (standing w.base) w.bounds w.most h e.0 e.1 first)
        (kept_on plan class room flows above w.frames w.track e h.there first w.since (last_offset flows) w.base w.backlog Looks.Frames is (λ no. cc) kept)
    by_looking Looks.First is =
        by_frame w.frames e.0 new (followed_by Looks.First) (omega arith) (is_marked plan class room flows limit w.earlier w.frames w.since (standing w.track) (standing w.base) w.bounds w.most h e.0 e.1 first)
        (kept_on plan class room flows above w.frames w.track e h.there first w.since (last_offset flows) w.base w.backlog Looks.First is (λ no. cc) kept)
    by_looking Looks.On is =
        by_frame w.earlier w.since w.base (followed_by Looks.On) h.onward h.marked
        (kept_on plan class room flows above w.frames w.track e h.there first w.since (last_offset flows) w.base w.backlog Looks.On is (λ no. cc) kept)

  meets : (n : ℕ) (w : Walking) → w.frames + n ≡ limit → Goes w → Keeps w → Meets (walked plan class room flows n w)
  unfolding walked
  meets zero w count h kept = unended_is (w.backlog).grows kept.growing (is_long plan class room flows limit w.earlier w.frames w.since (standing w.track) (standing w.base) w.bounds w.most h (omega (arith, count)))
  meets (suc n) w count h kept = go (earliest w.track.nexts) refl (meets n)
    where
      go : (o : Option (ℕ × ℕ)) → earliest w.track.nexts ≡ o → ((v : Walking) → v.frames + n ≡ limit → Goes v → Keeps v → Meets (walked plan class room flows n v)) → Meets (by_next plan class room flows (walked plan class room flows n) w (counting w.track) o)
      go None none on =
          let long = line_long plan class room flows limit w.earlier w.frames w.since (standing w.track) (standing w.base) w.bounds w.most h in
          absurd (false≢true (sym (ap is_some none) ∙ some_least w.track.nexts (omega (arith, long, some))))
      go (Some e) first on = by_looking n w e first count h kept on (look (in_ps plan.cycle) (last_offset flows) w.since e.0 (counting w.track) w.base) refl

  all_unseen : (fs : List Flow) → All (λ b. b ≡ unseen) (map (λ f. unseen) fs)
  all_unseen [] i d less = absurd (omega (arith, less))
  all_unseen (f ∷ fs) zero d less = refl
  all_unseen (f ∷ fs) (suc i) d less = all_unseen fs i d (omega (arith, less))

  long_offsets : (fs : List Flow) → length (offsets_of fs) ≡ length fs
  long_offsets [] = refl
  long_offsets (f ∷ fs) = ap suc (long_offsets fs)

  answers : Meets (answer_of plan class room flows limit)
  answers = go (earliest (offsets_of flows)) refl
    where
      line : Standing
      line = before_any flows room

      go : (o : Option (ℕ × ℕ)) → earliest (offsets_of flows) ≡ o → Meets (answer_of plan class room flows limit)
      go None none =
          let long = long_offsets flows in
          absurd (false≢true (sym (ap is_some none) ∙ some_least (offsets_of flows) (omega (arith, long, some))))
      go (Some e) first =
          let since : option_map_or (λ d. d.0) (earliest (offsets_of flows)) 0 ≡ e.0 = ap (λ (o : Option (ℕ × ℕ)). option_map_or (λ d. d.0) o 0) first in
          let start = starts_out plan class room flows limit e.0 e.1 line line (map (λ f. unseen) flows) refl refl first (length-map flows (λ f. unseen)) (all_unseen flows) in
          meets limit (starting flows) (omega arith)
          (subst (λ k. IsGoing plan class room flows limit 0 0 k line (standing (counting (begun (offsets_of flows)))) (map (λ f. unseen) flows) 0) (sym since) start)
          (kept_none plan class room flows above (starting flows).since (counting (begun (offsets_of flows))))

pub plan_law : PlanLaw
plan_law plan class room limit flows sound some fit =
    let above = (sound.plan_is).cycle in
    let short = sound.cycle in
    answers plan class room limit flows above (omega (arith, short)) some fit

-- in the words of a walk in code
pub by_answer : (plan : Plan) (class room limit : ℕ) (flows : List Flow) → IsSchedule plan → 0 < length flows → All IsFlow flows → (size : ℕ) → size ≡ room → (answer : Result Answer Unbound)
    → answer_of plan class size flows limit ≡ answer → IsByPlan plan class room flows limit answer
by_answer plan class room limit flows sound some fit size same answer is =
    subst (λ (k : ℕ). IsByPlan plan class k flows limit answer) same (subst (IsByPlan plan class size flows limit) is (plan_law plan class size limit flows sound some fit))
