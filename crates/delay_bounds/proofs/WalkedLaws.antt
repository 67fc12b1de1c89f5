-- The walk as it is defined, step by step.
use Rattle.std.proofs.Common.{◌≡◌, ◌<◌, ◌≤◌, ◌%◌, ℕ, zero, suc, ◌+◌, ◌-◌, ◌*◌, ◌/◌, max, Bool, true, false, ◌&&◌, cond, leb, List, [], ◌∷◌, length, length-set, map, drop, All, Option, Some, None, Result, Ok, Err, refl, sym, ap, ◌∙◌, subst, arith}
use Rattle.std.specs.Prelude.{nat_lt, nat_le}
use Rattle.std.proofs.lemmas.Option.{same_Some}
use Rattle.std.proofs.lemmas.List.Elements.{All-head, All-tail}
use Rattle.gates.specs.Gate.{Plan, in_ps}
use Rattle.delay_bounds.specs.Claim.{earliest, flow_at, offsets_of}
use Rattle.delay_bounds.specs.Bounds.{Track, arrives, first_fit}
use Rattle.delay_bounds.specs.Backlog.{followed, no_backlog, taken_at, unended}
use Rattle.delay_bounds.specs.Bounded.{Answer, is_from_here, unbound_by}
use Rattle.delay_bounds.specs.ForEver.{counting, later}
use Rattle.delay_bounds.specs.Line.{Standing, before_any, when_come}
use Rattle.wire_time.specs.Moment.{greatest_moment}
use Rattle.std.specs.Option.{option_map_or}
use Rattle.delay_bounds.specs.Noted.{noted, unseen}
use Rattle.delay_bounds.specs.Walk.{begun, may_by}
use Rattle.delay_bounds.specs.Stuck.{first_refused, refused_at, refused_in, refused_of, staying}
use Rattle.delay_bounds.specs.Walked.{Walking, answer_of, are_later, by_look, by_next, by_stop, comes_again, frame_of, goes_on, is_later, last_offset, look, moved, stop_of, walked, with_told}
use Rattle.delay_bounds.proofs.StepLaws.{counting_nexts}
use Rattle.delay_bounds.proofs.Words.{starts_at as told_start}
use Rattle.delay_bounds.specs.declared.Bound.{Bound}
use Rattle.delay_bounds.specs.declared.Flow.{Flow}
use Rattle.delay_bounds.specs.declared.FlowFrame.{FlowFrame}
use Rattle.delay_bounds.specs.declared.Refused.{Refused}
use Rattle.delay_bounds.specs.declared.Told.{Told}
use Rattle.delay_bounds.specs.declared.Unbound.{Unbound}
use Rattle.delay_bounds.specs.declared.look.Backlog.{Backlog}
use Rattle.delay_bounds.specs.declared.look.Look.{Look}
use Rattle.delay_bounds.specs.declared.look.Look.TheVariants as Looks
use Rattle.delay_bounds.specs.declared.look.Mark.{Mark}
use Rattle.delay_bounds.specs.declared.line.Stop.{Stop}

-- 1. Moments

-- moments that are others, each so much later
pub later_is : (d : ℕ) (xs ys : List ℕ) → are_later d xs ys ≡ true → xs ≡ map (λ t. t + d) ys
unfolding are_later
later_is d [] [] e = refl
later_is d [] (y ∷ ys) e = absurd (let no : ⊥ = cc in no)
later_is d (x ∷ xs) [] e = absurd (let no : ⊥ = cc in no)
later_is d (x ∷ xs) (y ∷ ys) e =
    let first : x ≡ y + d = grind (arith, e) in
    let rest : are_later d xs ys ≡ true = grind (arith, e) in
    ap (λ z. z ∷ xs) first ∙ ap (λ zs. (y + d) ∷ zs) (later_is d xs ys rest)

pub is_so_later : (d : ℕ) (ys : List ℕ) → are_later d (map (λ t. t + d) ys) ys ≡ true
unfolding are_later
is_so_later d [] = refl
is_so_later d (y ∷ ys) = let rest = is_so_later d ys in grind (arith, rest)

pub so_later : (d : ℕ) (xs ys : List ℕ) → xs ≡ map (λ t. t + d) ys → are_later d xs ys ≡ true
so_later d xs ys e = ap (λ zs. are_later d zs ys) e ∙ is_so_later d ys

-- one flow more
last_more : (fs : List Flow) (n : ℕ) → n < length fs → last_offset (drop n fs) ≡ max (flow_at fs n).offset (last_offset (drop (suc n) fs))
unfolding last_offset
last_more [] n less = absurd (omega (arith, less))
last_more (f ∷ fs) zero less = refl
last_more (f ∷ fs) (suc n) less = last_more fs n (omega (arith, less))

pub goes_more : (fs : List Flow) (n last now all : ℕ) → n < length fs → max last (last_offset (drop n fs)) ≡ all → now ≡ max (flow_at fs n).offset last → max now (last_offset (drop (n + 1) fs)) ≡ all
goes_more fs n last now all less so_far is =
    let one : n + 1 ≡ suc n = omega arith in
    let more = last_more fs n less in
    let rest : last_offset (drop (n + 1) fs) ≡ last_offset (drop (suc n) fs) = ap (λ k. last_offset (drop k fs)) one in
    omega (arith, so_far, is, more, rest)

none_past : (fs : List Flow) (n : ℕ) → length fs ≤ n → last_offset (drop n fs) ≡ 0
unfolding last_offset
none_past [] zero over = refl
none_past [] (suc n) over = refl
none_past (f ∷ fs) zero over = absurd (omega (arith, over))
none_past (f ∷ fs) (suc n) over = none_past fs n (omega (arith, over))

pub last_all : (fs : List Flow) (n last : ℕ) → length fs ≤ n → max last (last_offset (drop n fs)) ≡ last_offset fs → last ≡ last_offset fs
last_all fs n last over so_far = let none = none_past fs n over in omega (arith, none, so_far)

-- before any frame of a flow
pub all_unseen : (bounds : List Bound) (flows : List Flow) → length bounds ≡ length flows → All (λ b. b ≡ unseen) bounds → bounds ≡ map (λ f. unseen) flows
all_unseen [] [] e all = refl
all_unseen [] (f ∷ fs) e all = absurd (omega (arith, e))
all_unseen (b ∷ bs) [] e all = absurd (omega (arith, e))
all_unseen (b ∷ bs) (f ∷ fs) e all = ap (λ x. x ∷ bs) (All-head (λ x. ◌≡◌ {A = Bound} x unseen) b bs all) ∙ ap (λ xs. unseen ∷ xs) (all_unseen bs fs (omega (arith, e)) (All-tail (λ x. ◌≡◌ {A = Bound} x unseen) b bs all))

-- what is of one or the other
by_cond : {A B : Type 0} (g : A → B) (b : Bool) (x y : A) → g (cond b x y) ≡ cond b (g x) (g y)
by_cond g true x y = refl
by_cond g false x y = refl

-- what holds of both holds of one of them
pub one_of : {A : Type 0} (g : A → ℕ) (b : Bool) (x y : A) {n : ℕ} → g x ≡ n → g y ≡ n → g (cond b x y) ≡ n
one_of g true x y first other = first
one_of g false x y first other = other

-- it looks back to a frame that came before
pub earlier_of : (b : Bool) (n : ℕ) (here old : Mark) → here.earlier ≡ n → old.earlier ≤ n → (cond b here old).earlier ≤ n + 1
earlier_of true n here old at le = omega (arith, at)
earlier_of false n here old at le = omega (arith, le)

-- as many moments come first as there are flows
pub long_offsets : (fs : List Flow) → length (offsets_of fs) ≡ length fs
long_offsets [] = refl
long_offsets (f ∷ fs) = ap suc (long_offsets fs)

-- a frame that is told of is of the flow at its place, and of each flow there is a next one as before
pub arrives_is : (may : ℕ → ℕ → Bool) (cycle room t place : ℕ) (f : Flow) (free : ℕ) (nexts waiting : List ℕ) (r : Told × Track) → arrives may cycle room t place f free nexts waiting ≡ Some r
    → ((r.0).place ≡ place) × (length (r.1).nexts ≡ length nexts)
arrives_is may cycle room t place f free nexts waiting r is = by (leb room (length waiting)) (first_fit may f.need (max t free) cycle) is
  where
    by : (b : Bool) (o : Option ℕ) → cond b None (told_start o t place f nexts waiting) ≡ Some r → ((r.0).place ≡ place) × (length (r.1).nexts ≡ length nexts)
    by true o e = absurd (let no : None ≡ Some r = e in cc)
    by false None e = absurd (let no : None ≡ Some r = e in cc)
    by false (Some at) e =
        let same = same_Some _ _ e in
        (ap (λ x. x.0.place) (sym same), ap (λ x. length x.1.nexts) (sym same) ∙ length-set nexts place (t + f.period))

-- 2. A look back

-- it is the same, whole cycles later
pub is_again : (cycle last since t : ℕ) (new old : Track) → look cycle last since t new old ≡ Looks.Again → (since < t) × ((t - since) % cycle ≡ 0) × (new ≡ later (t - since) old)
is_again cycle last since t new old e = by (comes_again cycle since t new old) refl (is_later (t - since) new old) refl e
  where
    by : (b : Bool) → comes_again cycle since t new old ≡ b → (c : Bool) → is_later (t - since) new old ≡ c
        → cond b (cond c Looks.Again Looks.Frames) (cond (nat_lt since last && nat_le last t) Looks.First Looks.On) ≡ Looks.Again
        → (since < t) × ((t - since) % cycle ≡ 0) × (new ≡ later (t - since) old)
    by true b true c e =
        let less : since < t = grind (arith, b) in
        let whole : (t - since) % cycle ≡ 0 = grind (arith, b) in
        let free : new.free ≡ old.free + (t - since) = grind (arith, c) in
        let nexts : are_later (t - since) new.nexts old.nexts ≡ true = grind (arith, c) in
        let starts : are_later (t - since) new.starts old.starts ≡ true = grind (arith, c) in
        let with : List ℕ → ℕ → List ℕ → Track = λ n f s. record { nexts = n; free = f; starts = s } in
        let d : ℕ = t - since in (
          less,
          whole,
          ap (λ n. with n new.free new.starts) (later_is d new.nexts old.nexts nexts)
              ∙ (ap (λ f. with (map (λ t. t + d) old.nexts) f new.starts) free
              ∙ ap (λ s. with (map (λ t. t + d) old.nexts) (old.free + d) s) (later_is d new.starts old.starts starts)),
        )
    by true b false c e = absurd (let no : ⊥ = cc in no)
    by false b c d e = neither (nat_lt since last && nat_le last t) e
      where
        neither : (f : Bool) → cond f Looks.First Looks.On ≡ Looks.Again → (since < t) × ((t - since) % cycle ≡ 0) × (new ≡ later (t - since) old)
        neither true e = absurd (let no : ⊥ = cc in no)
        neither false e = absurd (let no : ⊥ = cc in no)

-- what a look said, by the cycle and the latest first frame
pub look_said : (last offset cycle_ns cycle since t : ℕ) (new old : Track) (l : Look) → l ≡ look (1000 * cycle_ns) last since t new old → last ≡ offset → cycle_ns ≡ cycle → l ≡ look (in_ps cycle) offset since t new old
look_said last offset cycle_ns cycle since t new old l is last_is cycle_is = is ∙ (ap (λ k. look (1000 * k) last since t new old) cycle_is ∙ ap (λ k. look (in_ps cycle) k since t new old) last_is)

-- what a backlog becomes, by the cycle and for how long the wire is taken
pub followed_said : (cycle_ns cycle taken other : ℕ) (l : Look) (b now : Backlog) → now ≡ followed (1000 * cycle_ns) l taken b → cycle_ns ≡ cycle → taken ≡ other → now ≡ followed (in_ps cycle) l other b
followed_said cycle_ns cycle taken other l b now is cycle_is taken_is = is ∙ (ap (λ k. followed (1000 * k) l taken b) cycle_is ∙ ap (λ k. followed (in_ps cycle) l k b) taken_is)

-- 3. Where nothing starts any more

-- as many moments are next when a frame has come
pub counting_long : (l come : Standing) → come ≡ when_come l → length come.track.nexts ≡ length l.track.nexts
counting_long l come is = ap (λ (x : Standing). length x.track.nexts) is ∙ ap length (counting_nexts l.track)

module _ (flows : List Flow) where
  next_refused : (room n : ℕ) (s : Track) (e : ℕ × ℕ) → earliest s.nexts ≡ Some e → refused_in room flows (suc n) s ≡ refused_at room flows (refused_in room flows n) (Some e) (counting s)
  unfolding refused_in
  next_refused room n s e next = ap (λ o. refused_at room flows (refused_in room flows n) o (counting s)) next

  none_refused : (room n : ℕ) (s : Track) → n ≡ 0 → refused_in room flows n s ≡ None
  unfolding refused_in
  none_refused room zero s e = refl
  none_refused room (suc n) s e = absurd (omega (arith, e))

  -- by what a walk finds when the next frame has come
  module _ (n : ℕ) (l come : Standing) (e : ℕ × ℕ) (next : earliest l.track.nexts ≡ Some e) (is : come ≡ when_come l) where
    abbrev behind : Option Refused
    behind = refused_in l.room flows n (staying (flow_at flows e.1) e (counting l.track))

    by_room : refused_in l.room flows (n + 1) l.track
        ≡ cond (nat_le come.room (length come.track.starts)) (Some (refused_of flows e)) (cond (nat_lt greatest_moment e.0) None behind)
    by_room =
        let one : n + 1 ≡ suc n = omega arith in
        ap (λ k. refused_in l.room flows k l.track) one
        ∙ (next_refused l.room n l.track e next
        ∙ ap (λ (s : Standing). cond (nat_le s.room (length s.track.starts)) (Some (refused_of flows e)) (cond (nat_lt greatest_moment e.0) None behind)) (sym is))

    pub full_here : nat_le come.room (length come.track.starts) ≡ true → refused_in l.room flows (n + 1) l.track ≡ Some (refused_of flows e)
    full_here full = by_room ∙ ap (λ b. cond b (Some (refused_of flows e)) (cond (nat_lt greatest_moment e.0) None behind)) full

    pub late_here : nat_le come.room (length come.track.starts) ≡ false → nat_lt greatest_moment e.0 ≡ true → refused_in l.room flows (n + 1) l.track ≡ None
    late_here some late =
        by_room ∙ (ap (λ b. cond b (Some (refused_of flows e)) (cond (nat_lt greatest_moment e.0) None behind)) some ∙ ap (λ b. cond b None behind) late)

    pub last_here : nat_le come.room (length come.track.starts) ≡ false → nat_lt greatest_moment e.0 ≡ false → n ≡ 0 → refused_in l.room flows (n + 1) l.track ≡ None
    last_here some soon none =
        by_room
        ∙ (ap (λ b. cond b (Some (refused_of flows e)) (cond (nat_lt greatest_moment e.0) None behind)) some
        ∙ (ap (λ b. cond b None behind) soon ∙ none_refused l.room n (staying (flow_at flows e.1) e (counting l.track)) none))

    pub stays_here : nat_le come.room (length come.track.starts) ≡ false → nat_lt greatest_moment e.0 ≡ false
        → refused_in l.room flows (n + 1) l.track ≡ refused_in come.room flows n (staying (flow_at flows e.1) e come.track)
    stays_here some soon =
        by_room
        ∙ (ap (λ b. cond b (Some (refused_of flows e)) (cond (nat_lt greatest_moment e.0) None behind)) some
        ∙ (ap (λ b. cond b None behind) soon
        ∙ ap (λ (s : Standing). refused_in s.room flows n (staying (flow_at flows e.1) e s.track)) (sym is)))

-- 4. The walk

-- the frame that comes at a moment, by how many of its flow come before it
pub frame_is : (flows : List Flow) (t place earlier before : ℕ) → 0 < (flow_at flows place).period → t ≡ (flow_at flows place).offset + (flow_at flows place).period * before
    → frame_of flows (t, place) earlier ≡ record { place = place; before = before; earlier = earlier; moment = t }
frame_is flows t place earlier before above turn =
    let period : ℕ = (flow_at flows place).period in
    let past : t - (flow_at flows place).offset ≡ period * before = omega (arith, turn) in
    let count : (period * before) / period ≡ before = grind (arith, above) in
    ap (λ (k : ℕ). (let f : FlowFrame = record { place = place; before = k; earlier = earlier; moment = t } in f)) (ap (λ (d : ℕ). d / period) past ∙ count)

-- where a walk stands, and where it looks back to
abbrev pub at : ℕ → Standing → Standing → Mark → List Bound → ℕ → Backlog → Walking
at frames line base mark bounds most backlog = record { frames = frames; track = line.track; bounds = bounds; most = most; earlier = mark.earlier; since = mark.since; base = base.track; backlog = backlog }

module _ (plan : Plan) (class room : ℕ) (flows : List Flow) where
  abbrev walks : ℕ → Walking → Result Answer Unbound
  walks n w = walked plan class room flows n w

  abbrev looks : Walking → ℕ → Track → Look
  looks w t new = look (in_ps plan.cycle) (last_offset flows) w.since t new w.base

  abbrev moves : Look → ℕ × ℕ → Track → Walking → Walking
  moves l e new w = moved plan class room flows l e new w

  one_step : (n : ℕ) (w : Walking) (e : ℕ × ℕ) → earliest w.track.nexts ≡ Some e → walks (suc n) w ≡ by_look plan class room flows (walks n) e (counting w.track) w (looks w e.0 (counting w.track))
  unfolding walked
  one_step n w e next = ap (λ o. by_next plan class room flows (walks n) w (counting w.track) o) next

  no_step : (n : ℕ) (w : Walking) → n ≡ 0 → walks n w ≡ Err (unended w.backlog)
  unfolding walked
  no_step zero w e = refl
  no_step (suc n) w e = absurd (omega (arith, e))

  on_from : (on : Walking → Result Answer Unbound) (e : ℕ × ℕ) (new : Track) (w : Walking) (l : Look) → (l ≡ Looks.Again → ⊥) → by_look plan class room flows on e new w l ≡ goes_on plan class room flows on e new (moves l e new w)
  on_from on e new w Looks.Again other = absurd (other refl)
  on_from on e new w Looks.Frames other = refl
  on_from on e new w Looks.First other = refl
  on_from on e new w Looks.On other = refl

  -- where the state comes again
  pub comes_back : (left : ℕ) (w : Walking) (e : ℕ × ℕ) → 0 < left → earliest w.track.nexts ≡ Some e → looks w e.0 (counting w.track) ≡ Looks.Again
      → walks left w ≡ Ok (record { bounds = w.bounds; most = w.most; frames = w.frames - w.earlier; every = e.0 - w.since })
  comes_back zero w e some next again = absurd (omega (arith, some))
  comes_back (suc n) w e some next again = one_step n w e next ∙ ap (by_look plan class room flows (walks n) e (counting w.track) w) again

  -- where it stops
  pub stops_at : (left : ℕ) (w : Walking) (e : ℕ × ℕ) (stop : Stop) → 0 < left → earliest w.track.nexts ≡ Some e → (looks w e.0 (counting w.track) ≡ Looks.Again → ⊥)
      → stop_of (may_by plan class) (in_ps plan.cycle) room e.0 (flow_at flows e.1) (counting w.track).free (counting w.track).starts ≡ Some stop
      → walks left w ≡ Err (unbound_by stop (frame_of flows e w.frames) (first_refused room flows (counting w.track)))
  stops_at zero w e stop some next other is = absurd (omega (arith, some))
  stops_at (suc n) w e stop some next other is =
      let l = looks w e.0 (counting w.track) in
      one_step n w e next
      ∙ (on_from (walks n) e (counting w.track) w l other
      ∙ ap (by_stop plan class room flows (walks n) e (counting w.track) (moves l e (counting w.track) w)) is)

  -- where it goes on
  goes_at : (left : ℕ) (w : Walking) (e : ℕ × ℕ) (told : Told) (now : Track) → 0 < left → earliest w.track.nexts ≡ Some e → (looks w e.0 (counting w.track) ≡ Looks.Again → ⊥)
      → stop_of (may_by plan class) (in_ps plan.cycle) room e.0 (flow_at flows e.1) (counting w.track).free (counting w.track).starts ≡ None
      → arrives (may_by plan class) (in_ps plan.cycle) room e.0 e.1 (flow_at flows e.1) (counting w.track).free (counting w.track).nexts (counting w.track).starts ≡ Some (told, now)
      → (l : Look) → l ≡ looks w e.0 (counting w.track)
      → walks left w ≡ walks (left - 1) (record { frames = w.frames + 1; track = now; bounds = noted told w.bounds; most = max told.waiting w.most; earlier = cond (is_from_here l) w.frames w.earlier; since = cond (is_from_here l) e.0 w.since; base = cond (is_from_here l) (counting w.track) w.base; backlog = followed (in_ps plan.cycle) l (taken_at e.0 (counting w.track)) w.backlog })
  goes_at zero w e told now some next other none is l l_is = absurd (omega (arith, some))
  goes_at (suc n) w e told now some next other none is l l_is =
      let k = looks w e.0 (counting w.track) in
      let m : Look → Walking = λ x. moves x e (counting w.track) w in
      let less : suc n - 1 ≡ n = omega arith in
      let on : Look → ℕ → Result Answer Unbound = λ x i. walks i (record { frames = w.frames + 1; track = now; bounds = noted told w.bounds; most = max told.waiting w.most; earlier = (m x).earlier; since = (m x).since; base = (m x).base; backlog = (m x).backlog }) in
      one_step n w e next
      ∙ (on_from (walks n) e (counting w.track) w k other
      ∙ (ap (by_stop plan class room flows (walks n) e (counting w.track) (m k)) none
      ∙ (ap (with_told plan class room flows (walks n) (m k)) is
      ∙ (ap (λ x. on x n) (sym l_is) ∙ ap (λ i. on l i) (sym less)))))

  -- before any frame
  pub starts_at : (limit : ℕ) (line base come : Standing) (t place : ℕ) (bounds : List Bound) (backlog : Backlog) → line ≡ before_any flows line.room → base ≡ before_any flows line.room → come ≡ when_come base
      → earliest base.track.nexts ≡ Some (t, place) → bounds ≡ map (λ f. unseen) flows → backlog ≡ no_backlog
      → walks (limit - 0) (at 0 line come (record { since = t; earlier = 0 }) bounds 0 backlog) ≡ answer_of plan class room flows limit
  starts_at limit line base come t place bounds backlog line_is base_is come_is next none backlog_none =
      let first : Track = begun (offsets_of flows) in
      let start : ℕ → Track → List Bound → ℕ → Track → Backlog → Result Answer Unbound = λ n track bs since b left. walks n (record { frames = 0; track = track; bounds = bs; most = 0; earlier = 0; since = since; base = b; backlog = left }) in
      let track : line.track ≡ first = ap (λ (l : Standing). l.track) line_is in
      let back : come.track ≡ counting first = ap (λ (l : Standing). l.track) come_is ∙ ap (λ (l : Standing). counting l.track) base_is in
      let since : t ≡ option_map_or (λ e. e.0) (earliest (offsets_of flows)) 0 =
      sym (ap (λ (o : Option (ℕ × ℕ)). option_map_or (λ e. e.0) o 0) (sym (ap (λ (l : Standing). earliest l.track.nexts) base_is) ∙ next)) in
      let all : limit - 0 ≡ limit = omega arith in
      ap (λ n. start n line.track bounds t come.track backlog) all
      ∙ (ap (λ x. start limit x bounds t come.track backlog) track
      ∙ (ap (λ x. start limit first x t come.track backlog) none
      ∙ (ap (λ x. start limit first (map (λ f. unseen) flows) x come.track backlog) since
      ∙ (ap (λ x. start limit first (map (λ f. unseen) flows) (option_map_or (λ e. e.0) (earliest (offsets_of flows)) 0) x backlog) back
      ∙ ap (λ x. start limit first (map (λ f. unseen) flows) (option_map_or (λ e. e.0) (earliest (offsets_of flows)) 0) (counting first) x) backlog_none))))

  -- In the words of the code: the next frame has come, and this is what a look back said.
  module _ (limit frames t place : ℕ) (line base come : Standing) (mark : Mark) (bounds : List Bound) (most : ℕ) (backlog : Backlog) (l : Look) (more : frames < limit) (next : earliest line.track.nexts ≡ Some (t, place)) (come_is : come ≡ when_come line) (room_is : line.room ≡ room) (l_is : l ≡ look (in_ps plan.cycle) (last_offset flows) mark.since t come.track base.track) where
    counted_is : come.track ≡ counting line.track
    counted_is = ap (λ (x : Standing). x.track) come_is

    come_room : come.room ≡ room
    come_room = ap (λ (x : Standing). x.room) come_is ∙ room_is

    look_is : l ≡ looks (at frames line base mark bounds most backlog) t (counting line.track)
    look_is = l_is ∙ ap (λ x. look (in_ps plan.cycle) (last_offset flows) mark.since t x base.track) counted_is

    pub back_here : l ≡ Looks.Again → walks (limit - frames) (at frames line base mark bounds most backlog) ≡ Ok (record { bounds = bounds; most = most; frames = frames - mark.earlier; every = t - mark.since })
    back_here again = comes_back (limit - frames) (at frames line base mark bounds most backlog) (t, place) (omega (arith, more)) next (sym look_is ∙ again)

    pub stops_here : (f : Flow) (stop : Stop) → (l ≡ Looks.Again → ⊥) → f ≡ flow_at flows place → stop_of (may_by plan class) (in_ps plan.cycle) come.room t f come.track.free come.track.starts ≡ Some stop
        → walks (limit - frames) (at frames line base mark bounds most backlog) ≡ Err (unbound_by stop (frame_of flows (t, place) frames) (first_refused come.room flows come.track))
    stops_here f stop other f_is is =
        let P : ℕ → Flow → Track → Type 0 = λ r x s. stop_of (may_by plan class) (in_ps plan.cycle) r t x s.free s.starts ≡ Some stop in
        let told = subst (λ s. P room (flow_at flows place) s) counted_is (subst (λ x. P room x come.track) f_is (subst (λ r. P r f come.track) come_room is)) in
        stops_at (limit - frames) (at frames line base mark bounds most backlog) (t, place) stop (omega (arith, more)) next (λ again. other (look_is ∙ again)) told
        ∙ ap (λ s. Err (unbound_by stop (frame_of flows (t, place) frames) (first_refused room flows s))) (sym counted_is)
        ∙ ap (λ r. Err (unbound_by stop (frame_of flows (t, place) frames) (first_refused r flows come.track))) (sym come_room)

    pub goes_here : (f : Flow) (told : Told) (now there : Standing) (new here : Mark) (noted_all : List Bound) (most_now : ℕ) (backlog_now : Backlog) → (l ≡ Looks.Again → ⊥) → f ≡ flow_at flows place
        → stop_of (may_by plan class) (in_ps plan.cycle) come.room t f come.track.free come.track.starts ≡ None
        → arrives (may_by plan class) (in_ps plan.cycle) come.room t place f come.track.free come.track.nexts come.track.starts ≡ Some (told, now.track)
        → here ≡ record { since = t; earlier = frames } → new ≡ cond (is_from_here l) here mark → there ≡ cond (is_from_here l) come base → noted_all ≡ noted told bounds → most_now ≡ max told.waiting most → backlog_now ≡ followed (in_ps plan.cycle) l (taken_at t come.track) backlog
        → walks (limit - frames) (at frames line base mark bounds most backlog) ≡ walks (limit - (frames + 1)) (at (frames + 1) now there new noted_all most_now backlog_now)
    goes_here f told now there new here noted_all most_now backlog_now other f_is none is here_is new_is there_is noted_is most_is backlog_is =
        let P : ℕ → Flow → Track → Type 0 = λ r x s. (stop_of (may_by plan class) (in_ps plan.cycle) r t x s.free s.starts ≡ None) × (arrives (may_by plan class) (in_ps plan.cycle) r t place x s.free s.nexts s.starts ≡ Some (told, now.track)) in
        let known = subst (λ s. P room (flow_at flows place) s) counted_is (subst (λ x. P room x come.track) f_is (subst (λ r. P r f come.track) come_room (none, is))) in
        let less : limit - frames - 1 ≡ limit - (frames + 1) = omega arith in
        let on : ℕ → ℕ → ℕ → Track → List Bound → ℕ → Backlog → Result Answer Unbound = λ n earlier since b bs m left. walks n (record { frames = frames + 1; track = now.track; bounds = bs; most = m; earlier = earlier; since = since; base = b; backlog = left }) in
        let earlier_is : cond (is_from_here l) frames mark.earlier ≡ new.earlier = sym (ap (λ (x : Mark). x.earlier) (new_is ∙ ap (λ x. cond (is_from_here l) x mark) here_is) ∙ by_cond (λ (x : Mark). x.earlier) (is_from_here l) (record { since = t; earlier = frames }) mark) in
        let since_is : cond (is_from_here l) t mark.since ≡ new.since = sym (ap (λ (x : Mark). x.since) (new_is ∙ ap (λ x. cond (is_from_here l) x mark) here_is) ∙ by_cond (λ (x : Mark). x.since) (is_from_here l) (record { since = t; earlier = frames }) mark) in
        let base_is : cond (is_from_here l) (counting line.track) base.track ≡ there.track =
        ap (λ x. cond (is_from_here l) x base.track) (sym counted_is) ∙ sym (ap (λ (x : Standing). x.track) there_is ∙ by_cond (λ (x : Standing). x.track) (is_from_here l) come base) in
        let left : Backlog = followed (in_ps plan.cycle) l (taken_at t (counting line.track)) backlog in
        let left_is : left ≡ backlog_now = sym (backlog_is ∙ ap (λ s. followed (in_ps plan.cycle) l (taken_at t s) backlog) counted_is) in
        goes_at (limit - frames) (at frames line base mark bounds most backlog) (t, place) told now.track (omega (arith, more)) next (λ again. other (look_is ∙ again)) known.0 known.1 l look_is
        ∙ (ap (λ n. on n (cond (is_from_here l) frames mark.earlier) (cond (is_from_here l) t mark.since) (cond (is_from_here l) (counting line.track) base.track) (noted told bounds) (max told.waiting most) left) less
        ∙ (ap (λ x. on (limit - (frames + 1)) x (cond (is_from_here l) t mark.since) (cond (is_from_here l) (counting line.track) base.track) (noted told bounds) (max told.waiting most) left) earlier_is
        ∙ (ap (λ x. on (limit - (frames + 1)) new.earlier x (cond (is_from_here l) (counting line.track) base.track) (noted told bounds) (max told.waiting most) left) since_is
        ∙ (ap (λ x. on (limit - (frames + 1)) new.earlier new.since x (noted told bounds) (max told.waiting most) left) base_is
        ∙ (ap (λ x. on (limit - (frames + 1)) new.earlier new.since there.track x (max told.waiting most) left) (sym noted_is)
        ∙ (ap (λ x. on (limit - (frames + 1)) new.earlier new.since there.track noted_all x left) (sym most_is)
        ∙ ap (λ x. on (limit - (frames + 1)) new.earlier new.since there.track noted_all most_now x) left_is))))))

  -- where so many frames were walked as may be
  pub ends_here : (limit frames : ℕ) (w : Walking) → limit ≤ frames → walks (limit - frames) w ≡ Err (unended w.backlog)
  ends_here limit frames w over = no_step (limit - frames) w (omega (arith, over))
