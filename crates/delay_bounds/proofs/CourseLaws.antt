-- A walk on its way, and where it stood before.
use Rattle.std.proofs.Common.{Option, set, get_or, get_or-set_same, get_or-set_other, All, ◌⊎◌, ◌≡◌, ◌<◌, ◌≤◌, ◌^◌, ℕ, zero, suc, ◌+◌, ◌-◌, ◌*◌, ◌%◌, ◌/◌, max, Bool, cond, leb, List, [], ◌∷◌, length, Some, None, IsSome, inl, inr, refl, sym, ap, ◌∙◌, subst, arith}
use Rattle.std.proofs.lemmas.Bool.{cases_lt, cases_eq}
use Rattle.std.proofs.lemmas.Option.{same_Some}
use Rattle.wire_time.specs.Moment.{greatest_moment}
use Rattle.gates.specs.Gate.{Plan, in_ps}
use Rattle.delay_bounds.specs.declared.Bound.{Bound}
use Rattle.delay_bounds.specs.declared.Flow.{Flow}
use Rattle.delay_bounds.specs.declared.Refused.{Refused}
use Rattle.delay_bounds.specs.declared.Told.{Told}
use Rattle.delay_bounds.specs.Claim.{offsets_of, earliest, flow_at}
use Rattle.delay_bounds.specs.Bounds.{Track, from_on, first_fit, arrives, step, told}
use Rattle.delay_bounds.specs.Walk.{may_by, begun, after}
use Rattle.delay_bounds.proofs.Words.{starts_at, step_from, told_first, after_on}
use Rattle.delay_bounds.specs.Line.{Standing, before_any, when_come}
use Rattle.delay_bounds.specs.ForEver.{later, counts_from, counting}
use Rattle.delay_bounds.specs.Noted.{unseen, noted}
use Rattle.delay_bounds.specs.Stuck.{first_refused}
use Rattle.delay_bounds.specs.Bounded.{unbound_by, ComesAt, IsNext, IsUnbound}
use Rattle.delay_bounds.specs.declared.line.Stop.{Stop}
use Rattle.delay_bounds.specs.declared.line.Stop.TheVariants as Stops
use Rattle.delay_bounds.proofs.WalkLaws.{told_after}
use Rattle.delay_bounds.proofs.WaitLaws.{step_is}
use Rattle.delay_bounds.proofs.StepLaws.{after_step, after_none, first_of, has_next}
use Rattle.delay_bounds.proofs.SeenLaws.{AreSeen, IsBack, none_seen, one_seen, length_kept}

-- where a walk stood when a frame came
pub record IsMarked (plan : Plan) (class room : ℕ) (flows : List Flow) (first since : ℕ) (base : Standing) : Type 0 where
  pub track : Track
  pub place : ℕ
  pub there : after (may_by plan class) (in_ps plan.cycle) room flows first (begun (offsets_of flows)) ≡ Some track
  pub next : earliest track.nexts ≡ Some (since, place)
  pub base_is : base ≡ record { track = counting track; room = room }

pub record IsGoing (plan : Plan) (class room : ℕ) (flows : List Flow) (limit first frames since : ℕ) (line base : Standing) (bounds : List Bound) (most : ℕ) : Type 0 where
  pub below : frames ≤ limit
  pub onward : first ≤ frames
  pub room_is : line.room ≡ room
  pub there : after (may_by plan class) (in_ps plan.cycle) room flows frames (begun (offsets_of flows)) ≡ Some line.track
  pub marked : IsMarked plan class room flows first since base
  pub seen : AreSeen plan class room flows frames bounds most

-- ---- a walk by its steps

module _ (may : ℕ → ℕ → Bool) (cycle room : ℕ) (flows : List Flow) where
  pub after_more : (n : ℕ) (s z y : Track) (t : Told) → after may cycle room flows n s ≡ Some z → step may cycle room flows z ≡ Some (t, y) → after may cycle room flows (suc n) s ≡ Some y
  unfolding after
  after_more zero s z y t there is =
      let same : s ≡ z = after_none may cycle room flows s z there in
      ap (after_on (after may cycle room flows zero)) (ap (step may cycle room flows) same ∙ is)
  after_more (suc n) s z y t there is =
      let stepped = after_step may cycle room flows n s z there in
      ap (after_on (after may cycle room flows (suc n))) stepped.1 ∙ after_more n stepped.0.1 z y t stepped.2 is

  pub told_more : (n : ℕ) (s z y : Track) (t : Told) → after may cycle room flows n s ≡ Some z → step may cycle room flows z ≡ Some (t, y) → told may cycle room flows n s ≡ Some t
  unfolding told
  told_more n s z y t there is =
      let at : n ≡ n + 0 = omega arith in
      ap (λ k. told may cycle room flows k s) at ∙ (told_after may cycle room flows n 0 s z there ∙ ap told_first is)

  -- a step is that of what counts
  pub step_come : (s : Track) (e : ℕ × ℕ) → earliest s.nexts ≡ Some e → step may cycle room flows s ≡ arrives may cycle room e.0 e.1 (flow_at flows e.1) (counting s).free (counting s).nexts (counting s).starts
  unfolding step
  step_come s e next =
      let most : max e.0 s.free ≡ max e.0 (max e.0 s.free) = omega arith in
      ap (λ o. step_from may cycle room flows o s) next
      ∙ (ap (λ m. cond (leb room (length (from_on e.0 s.starts))) None (starts_at (first_fit may (flow_at flows e.1).need m cycle) e.0 e.1 (flow_at flows e.1) s.nexts (from_on e.0 s.starts))) most
      ∙ sym (ap (λ o. arrives may cycle room e.0 e.1 (flow_at flows e.1) (counts_from o s).free (counts_from o s).nexts (counts_from o s).starts) next))

counted : (s : Track) (e : ℕ × ℕ) → earliest s.nexts ≡ Some e → counting s ≡ counts_from (Some e) s
counted s e next = ap (λ o. counts_from o s) next

-- ---- when frames come

-- at these moments frames of the flows come
abbrev pub AreTurns : List Flow → List ℕ → Type 0
AreTurns flows nexts = (place : ℕ) → ComesAt (flow_at flows place) (get_or nexts place 0)

first_turns : (flows : List Flow) → AreTurns flows (offsets_of flows)
first_turns [] place = (0, refl)
first_turns (f ∷ rest) zero = (0, (let same : f.offset ≡ f.offset + f.period * 0 = omega arith in same))
first_turns (f ∷ rest) (suc place) = first_turns rest place

turns_kept : (may : ℕ → ℕ → Bool) (cycle room : ℕ) (flows : List Flow) (n : ℕ) (s z : Track) → AreTurns flows s.nexts → after may cycle room flows n s ≡ Some z → AreTurns flows z.nexts
turns_kept may cycle room flows zero s z turns h = subst (λ (x : Track). AreTurns flows x.nexts) (after_none may cycle room flows s z h) turns
turns_kept may cycle room flows (suc n) s z turns h =
    let stepped = after_step may cycle room flows n s z h in
    let next = has_next may cycle room flows s stepped.0 stepped.1 in
    let is = step_is may cycle room flows s next.0 stepped.0 next.1 stepped.1 in
    turns_kept may cycle room flows n stepped.0.1 z
    (subst (AreTurns flows) (sym is.nexts) (one next.0 (first_of s.nexts next.0 next.1))) stepped.2
  where
    one : (e : ℕ × ℕ) → (e.1 < length s.nexts) × (get_or s.nexts e.1 0 ≡ e.0) → AreTurns flows (set s.nexts e.1 (e.0 + (flow_at flows e.1).period))
    one e first place = elim (cases_eq place e.1) [
      | inl same ↦
          let turn = turns e.1 in
          let at = turn.1 in
          let found = first.1 in
          let period : ℕ = (flow_at flows e.1).period in
          let offset : ℕ = (flow_at flows e.1).offset in
          let count : ℕ = turn.0 in
          let more : period * (count + 1) ≡ period * count + period = grind arith in
          subst (λ i. ComesAt (flow_at flows i) (get_or (set s.nexts e.1 (e.0 + (flow_at flows e.1).period)) i 0)) (sym same)
          (count + 1, get_or-set_same s.nexts e.1 (e.0 + period) 0 first.0 ∙ (let later : e.0 + period ≡ offset + period * (count + 1) = omega arith in later))
      | inr ne ↦ (let turn = turns place in (turn.0, get_or-set_other s.nexts e.1 place (e.0 + (flow_at flows e.1).period) 0 ne ∙ turn.1))
    ]

-- ---- the loop

module _ (plan : Plan) (class room : ℕ) (flows : List Flow) where
  abbrev pub begins : Track
  begins = begun (offsets_of flows)

  length_offsets : (fs : List Flow) → length (offsets_of fs) ≡ length fs
  length_offsets [] = refl
  length_offsets (f ∷ fs) = ap suc (length_offsets fs)

  pub starts_out : (limit since place : ℕ) (line base : Standing) (bounds : List Bound) → line ≡ before_any flows room → base ≡ before_any flows room
      → earliest base.track.nexts ≡ Some (since, place)
      → length bounds ≡ length flows → All (λ b. b ≡ unseen) bounds → IsGoing plan class room flows limit 0 0 since line (when_come base) bounds 0
  unfolding after
  starts_out limit since place line base bounds line_is base_is next count all = record {
    below = omega arith;
    onward = omega arith;
    room_is = ap (λ (l : Standing). l.room) line_is;
    there = ap (λ (l : Standing). Some l.track) (sym line_is);
    marked = record {
      track = begins;
      place = place;
      there = refl;
      next = ap (λ (l : Standing). earliest l.track.nexts) (sym base_is) ∙ next;
      base_is = ap when_come base_is;
    };
    seen = none_seen plan class room flows bounds count all;
  }

  module _ (limit first frames since : ℕ) (line base : Standing) (bounds : List Bound) (most : ℕ) (h : IsGoing plan class room flows limit first frames since line base bounds most) where
    pub line_long : length line.track.nexts ≡ length flows
    line_long = length_kept (may_by plan class) (in_ps plan.cycle) room flows frames begins line.track h.there ∙ length_offsets flows

    -- the next frame is one of its flow
    pub comes_at : (t place : ℕ) (f : Flow) → earliest line.track.nexts ≡ Some (t, place) → f ≡ flow_at flows place → ComesAt f t
    comes_at t place f next is =
        let e : ℕ × ℕ = (t, place) in
        let turn = turns_kept (may_by plan class) (in_ps plan.cycle) room flows frames begins line.track (first_turns flows) h.there place in
        (turn.0, sym (first_of line.track.nexts e next).1 ∙ (turn.1 ∙ ap (λ (x : Flow). x.offset + x.period * turn.0) (sym is)))

    -- it stands as it did
    pub is_back : (t place : ℕ) → 0 < plan.cycle → earliest line.track.nexts ≡ Some (t, place) → since < t → (t - since) % in_ps plan.cycle ≡ 0 → (when_come line).track ≡ later (t - since) base.track
        → IsBack plan class room flows first frames (t - since)
    is_back t place pos next above whole alike =
        let m = h.marked in
        let d : ℕ = t - since in
        let c : ℕ = in_ps plan.cycle in
        let cycle_pos : 0 < c = omega arith in
        let parts : d ≡ c * (d / c) = grind arith in
        record {
          onward = go (cases_lt first frames);
          cycles = d / c;
          whole = parts;
          above = omega arith;
          old = m.track;
          new = line.track;
          was = m.there;
          is = h.there;
          alike = alike ∙ ap (λ (l : Standing). later d l.track) m.base_is;
        }
      where
        go : (first < frames) ⊎ (frames ≤ first) → first < frames
        go (inl less) = less
        go (inr le) =
            let m = h.marked in
            let onward = h.onward in
            let at : first ≡ frames = omega arith in
            let same : m.track ≡ line.track = same_Some m.track line.track (sym m.there ∙ (ap (λ k. after (may_by plan class) (in_ps plan.cycle) room flows k begins) at ∙ h.there)) in
            let one : ◌≡◌ {A = ℕ × ℕ} (since, m.place) (t, place) = same_Some (since, m.place) (t, place) (sym m.next ∙ (ap (λ (x : Track). earliest x.nexts) same ∙ next)) in
            let sooner : since ≡ t = ap (λ (x : ℕ × ℕ). x.0) one in
            absurd (omega arith)

    -- where it looks from
    pub is_marked : (t place : ℕ) → earliest line.track.nexts ≡ Some (t, place) → IsMarked plan class room flows frames t (when_come line)
    is_marked t place next = record { track = line.track; place = place; there = h.there; next = next; base_is = ap (λ (r : ℕ). (let s : Standing = record { track = counting line.track; room = r } in s)) h.room_is }

    -- one frame on
    pub goes_on : (t place : ℕ) (told : Told) (now : Standing) (from mark_since : ℕ) (there : Standing) → frames < limit → earliest line.track.nexts ≡ Some (t, place)
        → arrives (may_by plan class) (in_ps plan.cycle) line.room t place (flow_at flows place) (counting line.track).free (counting line.track).nexts (counting line.track).starts ≡ Some (told, now.track)
        → told.wait < 2 ^ 128 → now.room ≡ line.room → from ≤ frames → IsMarked plan class room flows from mark_since there → place < length flows
        → IsGoing plan class room flows limit from (frames + 1) mark_since now there (noted told bounds) (max told.waiting most)
    goes_on t place told now from mark_since there more next is small same onward marked within =
        let e : ℕ × ℕ = (t, place) in
        let stepped : step (may_by plan class) (in_ps plan.cycle) room flows line.track ≡ Some (told, now.track) =
        step_come (may_by plan class) (in_ps plan.cycle) room flows line.track e next
        ∙ (ap (λ (r : ℕ). arrives (may_by plan class) (in_ps plan.cycle) r t place (flow_at flows place) (counting line.track).free (counting line.track).nexts (counting line.track).starts) (sym h.room_is) ∙ is) in
        let at : suc frames ≡ frames + 1 = omega arith in
        let step_at = step_is (may_by plan class) (in_ps plan.cycle) room flows line.track e (told, now.track) next stepped in
        let where_told = step_at.place in
        record {
          below = omega arith;
          onward = omega arith;
          room_is = same ∙ h.room_is;
          there = ap (λ k. after (may_by plan class) (in_ps plan.cycle) room flows k begins) (sym at) ∙ after_more (may_by plan class) (in_ps plan.cycle) room flows frames begins line.track now.track told h.there stepped;
          marked = marked;
          seen = one_seen plan class room flows frames bounds most told (omega arith) small (told_more (may_by plan class) (in_ps plan.cycle) room flows frames begins line.track now.track told h.there stepped) h.seen;
        }

    -- why it stops
    pub stops : (t place before : ℕ) (stop : Stop) (refused : Option Refused) → refused ≡ first_refused room flows (counting line.track) → earliest line.track.nexts ≡ Some (t, place) → t ≡ (flow_at flows place).offset + (flow_at flows place).period * before
        → (stop ≡ Stops.Full → line.room ≤ length (counting line.track).starts) → (line.room ≤ length (counting line.track).starts → stop ≡ Stops.Full)
        → (stop ≡ Stops.Late → greatest_moment < max t (counting line.track).free)
        → (stop ≡ Stops.Never → first_fit (may_by plan class) (flow_at flows place).need (max t (counting line.track).free) (in_ps plan.cycle) ≡ None)
        → IsUnbound plan class room flows limit (unbound_by stop (record { place = place; before = before; earlier = frames; moment = t }) refused)
    stops t place before stop refused is_refused next turn full not_full late never = go stop full not_full late never
      where
        is_next : IsNext plan class room flows (record { place = place; before = before; earlier = frames; moment = t }) line.track
        is_next = record { there = h.there; next = next; before = turn }

        starts_are : (counting line.track).starts ≡ from_on t line.track.starts
        starts_are = ap (λ (s : Track). s.starts) (counted line.track (t, place) next)

        free_is : (counting line.track).free ≡ max t line.track.free
        free_is = ap (λ (s : Track). s.free) (counted line.track (t, place) next)

        has_room : (stop : Stop) → (stop ≡ Stops.Full → ⊥) → (line.room ≤ length (counting line.track).starts → stop ≡ Stops.Full) → length (from_on t line.track.starts) < room
        has_room stop wrong back = elim (cases_lt (length (counting line.track).starts) line.room) [
          | inl less ↦ (let same = ap length starts_are in let is = h.room_is in omega arith)
          | inr le ↦ absurd (wrong (back le))
        ]

        go : (stop : Stop) → (stop ≡ Stops.Full → line.room ≤ length (counting line.track).starts) → (line.room ≤ length (counting line.track).starts → stop ≡ Stops.Full)
            → (stop ≡ Stops.Late → greatest_moment < max t (counting line.track).free)
            → (stop ≡ Stops.Never → first_fit (may_by plan class) (flow_at flows place).need (max t (counting line.track).free) (in_ps plan.cycle) ≡ None)
            → IsUnbound plan class room flows limit (unbound_by stop (record { place = place; before = before; earlier = frames; moment = t }) refused)
        go Stops.Full f b l n = (line.track, is_next, (let many = f refl in let same = ap length starts_are in let is = h.room_is in omega arith))
        go Stops.Never f b l n =
            let most : max t (counting line.track).free ≡ max t line.track.free = (let same = free_is in omega arith) in
            (line.track, is_next, has_room Stops.Never (λ e. cc) b, ap (λ m. first_fit (may_by plan class) (flow_at flows place).need m (in_ps plan.cycle)) (sym most) ∙ n refl, is_refused)
        go Stops.Late f b l n =
            let past = l refl in
            let same = free_is in
            (record { place = place; before = before; earlier = frames; moment = t }, line.track, is_next, has_room Stops.Late (λ e. cc) b, (let far : greatest_moment < max t line.track.free = omega arith in far))

    pub is_long : limit ≤ frames → IsSome (after (may_by plan class) (in_ps plan.cycle) room flows limit begins)
    is_long le =
        let below = h.below in
        let at : frames ≡ limit = omega arith in
        subst IsSome (sym (ap (λ k. after (may_by plan class) (in_ps plan.cycle) room flows k begins) (sym at) ∙ h.there)) refl
