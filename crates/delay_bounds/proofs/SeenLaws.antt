-- What is seen of the first frames holds for ever, where the state comes again.
use Rattle.std.proofs.Common.{◌≡◌, ◌<◌, ◌≤◌, ◌^◌, ℕ, zero, suc, ◌+◌, ◌-◌, ◌*◌, min, max, Bool, List, [], ◌∷◌, All, length, map, get_or, Option, Some, None, IsSome, ◌⊎◌, inl, inr, refl, sym, ap, ◌∙◌, subst, arith, get_or-set_same, get_or-set_other, length-set}
use Rattle.std.proofs.lemmas.Bool.{cases_lt, cases_eq, false≢true}
use Rattle.std.proofs.lemmas.Option.{same_Some}
use Rattle.gates.specs.Gate.{Plan, in_ps}
use Rattle.delay_bounds.specs.declared.Bound.{Bound}
use Rattle.delay_bounds.specs.declared.Flow.{Flow}
use Rattle.delay_bounds.specs.declared.Told.{Told}
use Rattle.delay_bounds.specs.Claim.{offsets_of, earliest, bound_at}
use Rattle.delay_bounds.specs.Bounds.{IsWithin, Track, step, told, told_by, AreBounds}
use Rattle.delay_bounds.specs.Walk.{may_by, begun, after, IsReached}
use Rattle.delay_bounds.specs.Bounded.{IsMost}
use Rattle.delay_bounds.specs.ForEver.{later, counting, Recurs}
use Rattle.delay_bounds.specs.Noted.{unseen, widened, noted}
use Rattle.delay_bounds.proofs.WalkLaws.{for_ever}
use Rattle.delay_bounds.proofs.GateLaws.{by_repeats}
use Rattle.delay_bounds.proofs.WaitLaws.{IsStep, step_is, told_next, told_until}
use Rattle.delay_bounds.proofs.StepLaws.{after_step, after_none, counting_nexts, first_told, has_next}

-- ---- what is seen of the first frames

-- a flow of which no frame is seen, or whose bounds are reached
abbrev pub IsSeenAt : Plan → ℕ → ℕ → List Flow → ℕ → Bound → Type 0
IsSeenAt plan class room flows place b = (b ≡ unseen) ⊎ (IsReached plan class room flows place b.least × IsReached plan class room flows place b.greatest)

pub record AreSeen (plan : Plan) (class room : ℕ) (flows : List Flow) (n : ℕ) (bounds : List Bound) (most : ℕ) : Type 0 where
  pub count : length bounds ≡ length flows
  pub within : (k : ℕ) (t : Told) → k < n → told_by plan class room flows k ≡ Some t → IsWithin (bound_at bounds t.place) t.wait × (t.waiting ≤ most)
  pub reached : (place : ℕ) → place < length flows → IsSeenAt plan class room flows place (bound_at bounds place)
  pub waits : (most ≡ 0) ⊎ ((k : ℕ) × (t : Told) × (told_by plan class room flows k ≡ Some t) × (t.waiting ≡ most))

-- one wait more
wider : (b : Bound) (wait w : ℕ) → IsWithin b w → IsWithin (widened wait b) w
wider b wait w h = (let less = h.least in let more = h.greatest in record { least = omega arith; greatest = omega arith })

widest : (b : Bound) (wait : ℕ) → IsWithin (widened wait b) wait
widest b wait = record { least = omega arith; greatest = omega arith }

min_is : (a b : ℕ) → (min a b ≡ a) ⊎ (min a b ≡ b)
min_is a b = elim (cases_lt a b) [ inl less ↦ inl (omega arith) | inr more ↦ inr (omega arith) ]

max_is : (a b : ℕ) → (max a b ≡ a) ⊎ (max a b ≡ b)
max_is a b = elim (cases_lt a b) [ inl less ↦ inr (omega arith) | inr more ↦ inl (omega arith) ]

module _ (plan : Plan) (class room : ℕ) (flows : List Flow) where
  least_reached : (place wait : ℕ) (b : Bound) → wait < 2 ^ 128 → IsReached plan class room flows place wait → IsSeenAt plan class room flows place b → IsReached plan class room flows place (min b.least wait)
  least_reached place wait b small here (inl none) =
      let is : b.least ≡ 2 ^ 128 - 1 = ap (λ (x : Bound). x.least) none in
      let e : wait ≡ min b.least wait = omega arith in
      subst (IsReached plan class room flows place) e here
  least_reached place wait b small here (inr both) = elim (min_is b.least wait) [
    | inl e ↦ subst (IsReached plan class room flows place) (sym e) both.0
    | inr e ↦ subst (IsReached plan class room flows place) (sym e) here
  ]

  greatest_reached : (place wait : ℕ) (b : Bound) → IsReached plan class room flows place wait → IsSeenAt plan class room flows place b → IsReached plan class room flows place (max b.greatest wait)
  greatest_reached place wait b here (inl none) =
      let is : b.greatest ≡ 0 = ap (λ (x : Bound). x.greatest) none in
      let e : wait ≡ max b.greatest wait = omega arith in
      subst (IsReached plan class room flows place) e here
  greatest_reached place wait b here (inr both) = elim (max_is b.greatest wait) [
    | inl e ↦ subst (IsReached plan class room flows place) (sym e) both.1
    | inr e ↦ subst (IsReached plan class room flows place) (sym e) here
  ]

  pub none_seen : (bounds : List Bound) → length bounds ≡ length flows → All (λ b. b ≡ unseen) bounds → AreSeen plan class room flows 0 bounds 0
  none_seen bounds count all = record {
    count = count;
    within = λ k t less told. absurd (omega arith);
    reached = λ place less. inl (all place (record { least = 0; greatest = 0 }) (let within : place < length bounds = omega arith in within));
    waits = inl refl;
  }

  noted_same : (bounds : List Bound) (t : Told) → t.place < length bounds → bound_at (noted t bounds) t.place ≡ widened t.wait (bound_at bounds t.place)
  noted_same bounds t less = get_or-set_same bounds t.place (widened t.wait (bound_at bounds t.place)) _ less

  noted_other : (bounds : List Bound) (t : Told) (place : ℕ) → (place ≡ t.place → ⊥) → bound_at (noted t bounds) place ≡ bound_at bounds place
  noted_other bounds t place ne = get_or-set_other bounds t.place place (widened t.wait (bound_at bounds t.place)) _ ne

  noted_within : (bounds : List Bound) (t : Told) (place wait : ℕ) → t.place < length bounds → IsWithin (bound_at bounds place) wait → IsWithin (bound_at (noted t bounds) place) wait
  noted_within bounds t place wait less h =
      elim (cases_eq place t.place) [
        | inl e ↦ subst (λ k. IsWithin (bound_at (noted t bounds) k) wait) (sym e)
            (subst (λ b. IsWithin b wait) (sym (noted_same bounds t less)) (wider (bound_at bounds t.place) t.wait wait (subst (λ k. IsWithin (bound_at bounds k) wait) e h)))
        | inr ne ↦ subst (λ b. IsWithin b wait) (sym (noted_other bounds t place ne)) h
      ]

  noted_reached : (bounds : List Bound) (t : Told) (n place : ℕ) → t.place < length bounds → t.wait < 2 ^ 128 → told_by plan class room flows n ≡ Some t
      → IsSeenAt plan class room flows place (bound_at bounds place) → IsSeenAt plan class room flows place (bound_at (noted t bounds) place)
  noted_reached bounds t n place less small is h =
      elim (cases_eq place t.place) [
        | inl e ↦
            let here : IsReached plan class room flows place t.wait = (n, t, is, sym e, refl) in
            let b = bound_at bounds place in
            subst (IsSeenAt plan class room flows place) (ap (λ k. widened t.wait (bound_at bounds k)) e ∙ (sym (noted_same bounds t less) ∙ ap (bound_at (noted t bounds)) (sym e)))
            (inr (least_reached place t.wait b small here h, greatest_reached place t.wait b here h))
        | inr ne ↦ subst (IsSeenAt plan class room flows place) (sym (noted_other bounds t place ne)) h
      ]

  pub one_seen : (n : ℕ) (bounds : List Bound) (most : ℕ) (t : Told) → t.place < length flows → t.wait < 2 ^ 128 → told_by plan class room flows n ≡ Some t
      → AreSeen plan class room flows n bounds most → AreSeen plan class room flows (n + 1) (noted t bounds) (max t.waiting most)
  one_seen n bounds most t less small is h =
      let count = h.count in
      let place : t.place < length bounds = omega arith in
      record {
        count = length-set bounds t.place _ ∙ h.count;
        within = λ k u below told. elim (cases_lt k n) [
          | inl before ↦
              let old = h.within k u before told in
              let few = old.1 in
              (noted_within bounds t u.place u.wait place old.0, (let le : u.waiting ≤ max t.waiting most = omega arith in le))
          | inr here ↦
              let at : n ≡ k = omega arith in
              let same : t ≡ u = same_Some t u (sym is ∙ (ap (told_by plan class room flows) at ∙ told)) in
              subst (λ (x : Told). IsWithin (bound_at (noted t bounds) x.place) x.wait × (x.waiting ≤ max t.waiting most)) same
              (subst (λ b. IsWithin b t.wait) (sym (noted_same bounds t place)) (widest (bound_at bounds t.place) t.wait), (let le : t.waiting ≤ max t.waiting most = omega arith in le))
        ];
        reached = λ i within. noted_reached bounds t n i place small is (h.reached i within);
        waits = inr (elim (max_is t.waiting most) [
          | inl e ↦ (n, t, is, sym e)
          | inr e ↦ old_most e h.waits
        ]);
      }
    where
      old_most : max t.waiting most ≡ most → (most ≡ 0) ⊎ ((k : ℕ) × (u : Told) × (told_by plan class room flows k ≡ Some u) × (u.waiting ≡ most))
          → (k : ℕ) × (u : Told) × (told_by plan class room flows k ≡ Some u) × (u.waiting ≡ max t.waiting most)
      old_most e (inl none) = (n, t, is, (let same : t.waiting ≡ max t.waiting most = omega arith in same))
      old_most e (inr o) = (o.0, o.1, o.2, o.3 ∙ sym e)

-- ---- what moves

-- each step of a walk moves the next frame of one flow, and tells of it
pub data Moved (may : ℕ → ℕ → Bool) (cycle room : ℕ) (flows : List Flow) (place n : ℕ) (s z : Track) : Type 0 where
  told_there : (k : ℕ) (t : Told) → k < n → told may cycle room flows k s ≡ Some t → t.place ≡ place → Moved may cycle room flows place n s z
  still : get_or z.nexts place 0 ≡ get_or s.nexts place 0 → Moved may cycle room flows place n s z

module _ (may : ℕ → ℕ → Bool) (cycle room : ℕ) (flows : List Flow) where
  pub moved : (place n : ℕ) (s z : Track) → after may cycle room flows n s ≡ Some z → Moved may cycle room flows place n s z
  moved place zero s z h = still (ap (λ (x : Track). get_or x.nexts place 0) (sym (after_none may cycle room flows s z h)))
  moved place (suc n) s z h = go (moved place n r.1 z stepped.2)
    where
      stepped : (r : Told × Track) × (step may cycle room flows s ≡ Some r) × (after may cycle room flows n r.1 ≡ Some z)
      stepped = after_step may cycle room flows n s z h

      r : Told × Track
      r = stepped.0

      next : (e : ℕ × ℕ) × (earliest s.nexts ≡ Some e)
      next = has_next may cycle room flows s r stepped.1

      is : IsStep may cycle room flows s next.0 r
      is = step_is may cycle room flows s next.0 r next.1 stepped.1

      go : Moved may cycle room flows place n r.1 z → Moved may cycle room flows place (suc n) s z
      go (told_there k t less told at) = told_there (suc k) t (omega arith) (told_next may cycle room flows s r k stepped.1 ∙ told) at
      go (still same) =
          elim (cases_eq place next.0.1) [
            | inl e ↦ told_there 0 r.0 (omega arith) (first_told may cycle room flows s r stepped.1) (is.place ∙ sym e)
            | inr ne ↦ still (same ∙ (ap (λ xs. get_or xs place 0) is.nexts ∙ get_or-set_other s.nexts next.0.1 place _ 0 ne))
          ]

  pub length_kept : (n : ℕ) (s z : Track) → after may cycle room flows n s ≡ Some z → length z.nexts ≡ length s.nexts
  length_kept zero s z h = ap (λ (x : Track). length x.nexts) (sym (after_none may cycle room flows s z h))
  length_kept (suc n) s z h =
      let stepped = after_step may cycle room flows n s z h in
      let next = has_next may cycle room flows s stepped.0 stepped.1 in
      let is = step_is may cycle room flows s next.0 stepped.0 next.1 stepped.1 in
      length_kept n stepped.0.1 z stepped.2 ∙ (ap length is.nexts ∙ length-set s.nexts next.0.1 _)

get_map : (d : ℕ) (xs : List ℕ) (k : ℕ) → k < length xs → get_or (map (λ t. t + d) xs) k 0 ≡ get_or xs k 0 + d
get_map d [] k less = absurd (omega arith)
get_map d (x ∷ xs) zero less = refl
get_map d (x ∷ xs) (suc k) less = get_map d xs k (omega arith)

-- ---- for ever

-- where a walk stands as it did some frames before, some cycles later
pub record IsBack (plan : Plan) (class room : ℕ) (flows : List Flow) (first n every : ℕ) : Type 0 where
  pub onward : first < n
  pub cycles : ℕ
  pub whole : every ≡ in_ps plan.cycle * cycles
  pub above : 0 < every
  pub old : Track
  pub new : Track
  pub was : after (may_by plan class) (in_ps plan.cycle) room flows first (begun (offsets_of flows)) ≡ Some old
  pub is : after (may_by plan class) (in_ps plan.cycle) room flows n (begun (offsets_of flows)) ≡ Some new
  pub alike : counting new ≡ later every (counting old)

module _ (plan : Plan) (class room : ℕ) (flows : List Flow) (above : 0 < plan.cycle) (first n every : ℕ) (b : IsBack plan class room flows first n every) where
  pub back_recurs : Recurs plan class room flows (n - first) every
  back_recurs =
      let less = b.onward in
      let at : first + (n - first) ≡ n = omega arith in
      record {
        first = first;
        cycles = b.cycles;
        some = omega arith;
        whole = b.whole;
        above = b.above;
        old = b.old;
        new = b.new;
        was = b.was;
        is = ap (λ k. after (may_by plan class) (in_ps plan.cycle) room flows k (begun (offsets_of flows))) at ∙ b.is;
        alike = b.alike;
      }

  -- what is told of any frame is what is told of one of the first
  always : (m : ℕ) → (k : ℕ) × (t : Told) × (k < n) × (told_by plan class room flows m ≡ Some t) × (told_by plan class room flows k ≡ Some t)
  always m =
      let again = subst (λ (d : ℕ). counting b.new ≡ later d (counting b.old)) b.whole b.alike in
      let early = for_ever (may_by plan class) (in_ps plan.cycle) room flows (begun (offsets_of flows)) b.old b.new first n (in_ps plan.cycle * b.cycles) (by_repeats plan above class b.cycles) b.onward b.was b.is again m in
      go early.0 early.1 early.2 (told_by plan class room flows early.0) refl (told_until (may_by plan class) (in_ps plan.cycle) room flows n early.0 (begun (offsets_of flows)) b.new early.1 b.is)
    where
      go : (k : ℕ) → k < n → told_by plan class room flows m ≡ told_by plan class room flows k → (o : Option Told) → told_by plan class room flows k ≡ o → IsSome o
          → (k : ℕ) × (t : Told) × (k < n) × (told_by plan class room flows m ≡ Some t) × (told_by plan class room flows k ≡ Some t)
      go k less same None e some = absurd (false≢true some)
      go k less same (Some t) e some = (k, t, less, same ∙ e, e)

  -- of each flow a frame is told
  told_of : (place : ℕ) → place < length flows → (k : ℕ) × (t : Told) × (k < n) × (told_by plan class room flows k ≡ Some t) × (t.place ≡ place)
  told_of place within = go (moved (may_by plan class) (in_ps plan.cycle) room flows place n (begun (offsets_of flows)) b.new b.is)
      (moved (may_by plan class) (in_ps plan.cycle) room flows place first (begun (offsets_of flows)) b.old b.was)
    where
      length_offsets : (fs : List Flow) → length (offsets_of fs) ≡ length fs
      length_offsets [] = refl
      length_offsets (f ∷ fs) = ap suc (length_offsets fs)

      long : place < length (b.old).nexts
      long =
          let kept = length_kept (may_by plan class) (in_ps plan.cycle) room flows first (begun (offsets_of flows)) b.old b.was in
          let count = length_offsets flows in
          omega arith

      shift : get_or (b.new).nexts place 0 ≡ get_or (b.old).nexts place 0 + every
      shift =
          ap (λ xs. get_or xs place 0) (sym (counting_nexts b.new) ∙ (ap (λ (x : Track). x.nexts) b.alike ∙ ap (map (λ t. t + every)) (counting_nexts b.old)))
          ∙ get_map every (b.old).nexts place long

      go : Moved (may_by plan class) (in_ps plan.cycle) room flows place n (begun (offsets_of flows)) b.new
          → Moved (may_by plan class) (in_ps plan.cycle) room flows place first (begun (offsets_of flows)) b.old
          → (k : ℕ) × (t : Told) × (k < n) × (told_by plan class room flows k ≡ Some t) × (t.place ≡ place)
      go (told_there k t less told at) o = (k, t, less, told, at)
      go (still new) (told_there k t less told at) = (let onward = b.onward in (k, t, (let below : k < n = omega arith in below), told, at))
      go (still new) (still old) = (let above = b.above in let moved_on = shift in absurd (omega arith))

  -- its bounds are reached
  all_reached : (bounds : List Bound) (most : ℕ) → AreSeen plan class room flows n bounds most → (place : ℕ) → place < length flows
      → IsReached plan class room flows place (bound_at bounds place).least × IsReached plan class room flows place (bound_at bounds place).greatest
  all_reached bounds most h place within = go (h.reached place within)
    where
      go : IsSeenAt plan class room flows place (bound_at bounds place) → IsReached plan class room flows place (bound_at bounds place).least × IsReached plan class room flows place (bound_at bounds place).greatest
      go (inr both) = both
      go (inl none) =
          let one = told_of place within in
          let w = (h.within one.0 one.1 one.2 one.3).0 in
          let here = subst (λ (x : Bound). IsWithin x one.1.wait) (ap (bound_at bounds) one.4 ∙ none) w in
          let least = here.least in
          let greatest = here.greatest in
          absurd (omega arith)

  pub back_bounds : (bounds : List Bound) (most : ℕ) → AreSeen plan class room flows n bounds most → AreBounds plan class room flows bounds
  back_bounds bounds most h = record {
    always = λ m. (let a = always m in (a.1, a.3, (h.within a.0 a.1 a.2 a.4).0));
    least = λ place within. (all_reached bounds most h place within).0;
    greatest = λ place within. (all_reached bounds most h place within).1;
  }

  pub back_most : (bounds : List Bound) (most : ℕ) → AreSeen plan class room flows n bounds most → IsMost plan class room flows most
  back_most bounds most h = record {
    within = λ m t told. (let a = always m in let same : a.1 ≡ t = same_Some a.1 t (sym a.3 ∙ told) in subst (λ (x : Told). x.waiting ≤ most) same (h.within a.0 a.1 a.2 a.4).1);
    reached = go h.waits;
  }
    where
      go : (most ≡ 0) ⊎ ((k : ℕ) × (t : Told) × (told_by plan class room flows k ≡ Some t) × (t.waiting ≡ most)) → (k : ℕ) × (t : Told) × (told_by plan class room flows k ≡ Some t) × (t.waiting ≡ most)
      go (inl none) =
          let a = always 0 in
          let few = (h.within a.0 a.1 a.2 a.4).1 in
          (a.0, a.1, a.4, (let same : a.1.waiting ≡ most = omega arith in same))
      go (inr one) = one
