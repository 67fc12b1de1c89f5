-- Where the class is overloaded, its queue is full at last.
use Rattle.std.proofs.Common.{◌≡◌, ◌<◌, ◌≤◌, ℕ, zero, suc, ◌+◌, ◌-◌, ◌*◌, max, Bool, true, false, cond, List, [], ◌∷◌, ◌++◌, length, map, set, Option, Some, None, IsSome, ◌⊎◌, inl, inr, refl, sym, ap, ◌∙◌, subst, arith}
use Rattle.std.proofs.lemmas.Bool.{cases_lt, both_ways, lt-leb}
use Rattle.std.proofs.lemmas.Option.{same_Some}
use Rattle.gates.specs.Gate.{Plan, in_ps}
use Rattle.abstract_port.specs.Served.{IsFirst}
use Rattle.delay_bounds.specs.declared.Bound.{Bound}
use Rattle.delay_bounds.specs.declared.Flow.{Flow}
use Rattle.delay_bounds.specs.declared.Told.{Told}
use Rattle.delay_bounds.specs.Bounds.{AreBounds, Track, first_fit, from_on, step, told}
use Rattle.delay_bounds.specs.Claim.{IsFirstDropped, earliest, flow_at, offsets_of}
use Rattle.delay_bounds.specs.ForEver.{Repeats}
use Rattle.delay_bounds.specs.Overloaded.{IsOverloaded, OverloadLaw}
use Rattle.delay_bounds.specs.Walk.{after, begun, may_by}
use Rattle.delay_bounds.proofs.FullLaws.{full_law}
use Rattle.delay_bounds.proofs.GateLaws.{by_repeats}
use Rattle.delay_bounds.proofs.NeverLaws.{none_ever}
use Rattle.delay_bounds.proofs.QueueLaws.{from_both, from_more}
use Rattle.delay_bounds.proofs.StepLaws.{after_none, after_step, after_nexts, coming_at, has_next, next_behind, rises_once}
use Rattle.delay_bounds.proofs.WaitLaws.{first_is, has_step, step_is}
use Rattle.delay_bounds.proofs.WalkLaws.{earliest_shift, fit_shift, later_place, set_map, told_after}
use Rattle.delay_bounds.proofs.Words.{after_on, starts_at, step_from}

-- a first moment that is found is one of so many
fit_soon : (may : ℕ → ℕ → Bool) (d t n s : ℕ) → first_fit may d t n ≡ Some s → s < t + n
unfolding first_fit
fit_soon may d t zero s e = absurd (cc)
fit_soon may d t (suc n) s e = go (may t d) e (fit_soon may d (t + 1) n s)
  where
    go : (b : Bool) → cond b (Some t) (first_fit may d (t + 1) n) ≡ Some s → (first_fit may d (t + 1) n ≡ Some s → s < t + 1 + n) → s < t + suc n
    go true f rest = (let same : t ≡ s = same_Some t s f in omega (arith, same))
    go false f rest = (let less = rest f in omega (arith, less))

-- what all flows need together: as much as each, at least
all_needs : List Flow → ℕ
all_needs [] = 0
all_needs (f ∷ rest) = f.need + all_needs rest

needs_less : (flows : List Flow) (place : ℕ) → (flow_at flows place).need ≤ all_needs flows
unfolding all_needs
needs_less [] place = omega arith
needs_less (f ∷ rest) zero = (let goal : f.need ≤ f.need + all_needs rest = omega arith in goal)
needs_less (f ∷ rest) (suc place) = (let less = needs_less rest place in let goal : (flow_at rest place).need ≤ f.need + all_needs rest = omega (arith, less) in goal)

-- products
no_less : (c k : ℕ) → 0 < c → k ≤ c * k
no_less c k some = grind arith

fewer_times : (c a b : ℕ) → a < b → c * a ≤ c * b
fewer_times c a b less =
    let rest : ℕ = b - a in
    let both : b ≡ a + rest = omega (arith, less) in
    let sum : c * (a + rest) ≡ c * a + c * rest = grind arith in
    let all : c * b ≡ c * (a + rest) = ap (λ k. c * k) both in
    omega (arith, sum, all)

-- ---- a walk without regard to the room

module _ (may : ℕ → ℕ → Bool) (cycle : ℕ) (flows : List Flow) where
  -- after so many frames of these next moments, where the wire is free from u on, the next moments are ys, and it is free from v on
  abbrev Goes : ℕ → List ℕ → ℕ → List ℕ → ℕ → Type 0
  Goes zero xs u ys v = (xs ≡ ys) × (u ≡ v)
  Goes (suc n) xs u ys v =
      (e : ℕ × ℕ) × (at : ℕ) × (earliest xs ≡ Some e) × (first_fit may (flow_at flows e.1).need (max e.0 u) cycle ≡ Some at)
      × Goes n (next_behind flows xs e) (at + (flow_at flows e.1).need) ys v

  -- it is that of a walk in which there is room
  goes_of : (room n : ℕ) (s z : Track) → after may cycle room flows n s ≡ Some z → Goes n s.nexts s.free z.nexts z.free
  goes_of room zero s z h = (let same = after_none may cycle room flows s z h in (ap (λ (x : Track). x.nexts) same, ap (λ (x : Track). x.free) same))
  goes_of room (suc n) s z h =
      let stepped = after_step may cycle room flows n s z h in
      let r = stepped.0 in
      let next = has_next may cycle room flows s r stepped.1 in
      let is = step_is may cycle room flows s next.0 r next.1 stepped.1 in
      (next.0, is.at, next.1, is.fit, subst (λ xs. Goes n xs (is.at + (flow_at flows next.0.1).need) z.nexts z.free) is.nexts (subst (λ u. Goes n (r.1).nexts u z.nexts z.free) is.free (goes_of room n r.1 z stepped.2)))

  -- one walk and another behind it
  goes_on : (m n : ℕ) (xs ys zs : List ℕ) (u v w : ℕ) → Goes m xs u ys v → Goes n ys v zs w → Goes (m + n) xs u zs w
  goes_on zero n xs ys zs u v w a b =
      let at : n ≡ zero + n = omega arith in
      subst (λ k. Goes k xs u zs w) at (subst (λ t. Goes n xs t zs w) (sym a.1) (subst (λ ts. Goes n ts v zs w) (sym a.0) b))
  goes_on (suc m) n xs ys zs u v w a b =
      let at : suc (m + n) ≡ suc m + n = omega arith in
      subst (λ k. Goes k xs u zs w) at (a.0, a.1, a.2, a.3, goes_on m n (next_behind flows xs a.0) ys zs (a.1 + (flow_at flows a.0.1).need) v w a.4 b)

  -- all of it may be so much later
  goes_shift : (d : ℕ) → Repeats may d → (n : ℕ) (xs ys : List ℕ) (u v : ℕ) → Goes n xs u ys v → Goes n (map (λ t. t + d) xs) (u + d) (map (λ t. t + d) ys) (v + d)
  goes_shift d same zero xs ys u v g = (ap (map (λ t. t + d)) g.0, ap (λ k. k + d) g.1)
  goes_shift d same (suc n) xs ys u v g =
      let e = g.0 in
      let at = g.1 in
      let need : ℕ = (flow_at flows e.1).need in
      let period : ℕ = (flow_at flows e.1).period in
      let from : max (e.0 + d) (u + d) ≡ max e.0 u + d = omega arith in
      let ends : at + need + d ≡ at + d + need = omega arith in
      let next : e.0 + d + period ≡ e.0 + period + d = omega arith in
      let nexts : map (λ t. t + d) (set xs e.1 (e.0 + period)) ≡ set (map (λ t. t + d) xs) e.1 (e.0 + d + period) =
      sym (ap (set (map (λ t. t + d) xs) e.1) next ∙ set_map d xs e.1 (e.0 + period)) in (
        later_place d e,
        at + d,
        earliest_shift d xs ∙ ap (λ o. elim o [ None ↦ None | Some x ↦ Some (later_place d x) ]) g.2,
        ap (λ k. first_fit may need k cycle) from ∙ (fit_shift may d need (max e.0 u) cycle same ∙ ap (λ o. elim o [ None ↦ None | Some x ↦ Some (x + d) ]) g.3),
        subst (λ ts. Goes n ts (at + d + need) (map (λ t. t + d) ys) (v + d)) nexts
            (subst (λ k. Goes n (map (λ t. t + d) (next_behind flows xs e)) k (map (λ t. t + d) ys) (v + d)) ends (goes_shift d same n (next_behind flows xs e) ys (at + need) v g.4)),
      )

  -- where each frame comes while the wire is taken, the wire alone may be so much later
  goes_busy : (d : ℕ) → Repeats may d → (room n : ℕ) (s z : Track) → after may cycle room flows n s ≡ Some z
      → ((k : ℕ) (y : Track) (e : ℕ × ℕ) → k < n → after may cycle room flows k s ≡ Some y → earliest y.nexts ≡ Some e → e.0 ≤ y.free)
      → Goes n s.nexts (s.free + d) z.nexts (z.free + d)
  unfolding after
  goes_busy d same room zero s z h busy = (let is = after_none may cycle room flows s z h in (ap (λ (x : Track). x.nexts) is, ap (λ (x : Track). x.free + d) is))
  goes_busy d same room (suc n) s z h busy =
      let stepped = after_step may cycle room flows n s z h in
      let r = stepped.0 in
      let next = has_next may cycle room flows s r stepped.1 in
      let e = next.0 in
      let is = step_is may cycle room flows s e r next.1 stepped.1 in
      let need : ℕ = (flow_at flows e.1).need in
      let taken = busy 0 s e (let some : 0 < suc n = omega arith in some) refl next.1 in
      let from : max e.0 (s.free + d) ≡ max e.0 s.free + d = omega (arith, taken) in
      let freed = is.free in
      let ends : (r.1).free + d ≡ is.at + d + need = omega (arith, freed) in
      let rest = goes_busy d same room n r.1 z stepped.2 (λ k y f less there. busy (suc k) y f (omega (arith, less)) (ap (after_on (after may cycle room flows k)) stepped.1 ∙ there)) in (
        e,
        is.at + d,
        next.1,
        ap (λ k. first_fit may need k cycle) from ∙ (fit_shift may d need (max e.0 s.free) cycle same ∙ ap (λ o. elim o [ None ↦ None | Some x ↦ Some (x + d) ]) is.fit),
        subst (λ ts. Goes n ts (is.at + d + need) z.nexts (z.free + d)) is.nexts (subst (λ k. Goes n (r.1).nexts k z.nexts (z.free + d)) ends rest),
      )

  -- some frame behind a track, with so much room, finds none
  abbrev IsFull : ℕ → Track → Type 0
  IsFull room s = (m : ℕ) × (z : Track) × (e : ℕ × ℕ) × (after may cycle room flows m s ≡ Some z) × (earliest z.nexts ≡ Some e) × (room ≤ length (from_on e.0 z.starts))

  -- a frame that finds room and starts
  pub one_goes : (room : ℕ) (s : Track) (e : ℕ × ℕ) (at : ℕ) → earliest s.nexts ≡ Some e → length (from_on e.0 s.starts) < room → first_fit may (flow_at flows e.1).need (max e.0 s.free) cycle ≡ Some at
      → (t : Told) × (step may cycle room flows s ≡ Some (t, record { nexts = next_behind flows s.nexts e; free = at + (flow_at flows e.1).need; starts = from_on e.0 s.starts ++ at ∷ [] }))
  unfolding step
  one_goes room s e at first few fit = (
    record { place = e.1; wait = at - e.0; waiting = length (from_on e.0 s.starts) + 1 },
    ap (λ o. step_from may cycle room flows o s) first
        ∙ (ap (λ b. cond b None (starts_at (first_fit may (flow_at flows e.1).need (max e.0 s.free) cycle) e.0 e.1 (flow_at flows e.1) s.nexts (from_on e.0 s.starts))) (lt-leb room (length (from_on e.0 s.starts)) few)
        ∙ ap (λ o. starts_at o e.0 e.1 (flow_at flows e.1) s.nexts (from_on e.0 s.starts)) fit),
  )

  -- with a room it goes so too, or some frame finds none
  goes_or_full : (room n : ℕ) (s : Track) (ys : List ℕ) (v : ℕ) → Goes n s.nexts s.free ys v
      → ((z : Track) × (after may cycle room flows n s ≡ Some z) × (z.nexts ≡ ys) × (z.free ≡ v)) ⊎ IsFull room s
  unfolding after
  goes_or_full room zero s ys v g = inl (s, refl, g.0, g.1)
  goes_or_full room (suc n) s ys v g = elim (cases_lt (length (from_on (g.0).0 s.starts)) room) [
    | inr full ↦ inr (0, s, g.0, refl, g.2, full)
    | inl few ↦
        let e = g.0 in
        let next : Track = record { nexts = next_behind flows s.nexts e; free = g.1 + (flow_at flows e.1).need; starts = from_on e.0 s.starts ++ g.1 ∷ [] } in
        let stepped = one_goes room s e g.1 g.2 few g.3 in
        elim (goes_or_full room n next ys v g.4) [
          | inl on ↦ inl (on.0, ap (after_on (after may cycle room flows n)) stepped.1 ∙ on.1, on.2, on.3)
          | inr full ↦ inr (suc full.0, full.1, full.2, ap (after_on (after may cycle room flows full.0)) stepped.1 ∙ full.3, full.4, full.5)
        ]
  ]

  -- ---- how far ahead the wire is taken

  -- once its next frame comes, the wire is taken for no longer than the frames that wait, and one before them, take at most
  abbrev IsAhead : Track → Type 0
  IsAhead s = (e : ℕ × ℕ) → earliest s.nexts ≡ Some e → (t : ℕ) → e.0 ≤ t → s.free ≤ t + all_needs flows + (cycle + all_needs flows) * length (from_on t s.starts)

  ahead_on : (room : ℕ) (s : Track) (r : Told × Track) → step may cycle room flows s ≡ Some r → IsAhead s → IsAhead r.1
  ahead_on room s r stepped ahead d second t from =
      let next = has_next may cycle room flows s r stepped in
      let e = next.0 in
      let is = step_is may cycle room flows s e r next.1 stepped in
      let rise = rises_once flows s.nexts e d next.1 (ap earliest (sym is.nexts) ∙ second) in
      let most : ℕ = all_needs flows in
      let waiting : ℕ = length (from_on t (r.1).starts) in
      let need = needs_less flows e.1 in
      let freed = is.free in
      elim (cases_lt is.at t) [
        | inl before ↦ (let goal : (r.1).free ≤ t + most + (cycle + most) * waiting = omega (arith, before, need, freed) in goal)
        | inr after ↦
            let behind : ℕ = length (from_on t s.starts) in
            let one : waiting ≡ behind + 1 =
            ap (λ xs. length (from_on t xs)) is.starts ∙ (ap length (from_both e.0 t s.starts (is.at ∷ []) (omega (arith, rise, from))) ∙ from_more t is.at s.starts after) in
            let all : (cycle + most) * waiting ≡ (cycle + most) * behind + cycle + most = ap (λ k. (cycle + most) * k) one ∙ (let sum : (cycle + most) * (behind + 1) ≡ (cycle + most) * behind + cycle + most = grind arith in sum) in
            let free = ahead e next.1 t (omega (arith, rise, from)) in
            let soon = fit_soon may (flow_at flows e.1).need (max e.0 s.free) cycle is.at is.fit in
            (let goal : (r.1).free ≤ t + most + (cycle + most) * waiting = omega (arith, all, free, soon, need, freed, rise, from) in goal)
      ]

  ahead_after : (room n : ℕ) (s z : Track) → after may cycle room flows n s ≡ Some z → IsAhead s → IsAhead z
  ahead_after room zero s z h ahead = subst IsAhead (after_none may cycle room flows s z h) ahead
  ahead_after room (suc n) s z h ahead =
      let stepped = after_step may cycle room flows n s z h in
      ahead_after room n (stepped.0).1 z stepped.2 (ahead_on room s stepped.0 stepped.1 ahead)

  -- what comes behind some frames
  after_behind : (room m n : ℕ) (s x : Track) → after may cycle room flows m s ≡ Some x → after may cycle room flows (m + n) s ≡ after may cycle room flows n x
  unfolding after
  after_behind room zero n s x h =
      let at : zero + n ≡ n = omega arith in
      ap (λ k. after may cycle room flows k s) at ∙ ap (after may cycle room flows n) (after_none may cycle room flows s x h)
  after_behind room (suc m) n s x h =
      let at : suc m + n ≡ suc (m + n) = omega arith in
      let stepped = after_step may cycle room flows m s x h in
      ap (λ k. after may cycle room flows k s) at ∙ (ap (after_on (after may cycle room flows (m + n))) stepped.1 ∙ after_behind room m n (stepped.0).1 x stepped.2)

  module _ (above : 0 < cycle) (again : (k : ℕ) → Repeats may (cycle * k)) where
    -- a later first moment
    fit_later : (d t u at : ℕ) → first_fit may d t cycle ≡ Some at → t ≤ u → (next : ℕ) × (first_fit may d u cycle ≡ Some next) × (at ≤ next)
    fit_later d t u at fit le = go (first_fit may d u cycle) refl
      where
        first : IsFirst may d t at
        first = first_is may d t cycle at fit

        go : (o : Option ℕ) → first_fit may d u cycle ≡ o → (next : ℕ) × (first_fit may d u cycle ≡ Some next) × (at ≤ next)
        go None none = absurd (both_ways _ (none_ever may cycle d u above again none at) first.fits)
        go (Some next) some =
            let second = first_is may d u cycle next some in
            let from = second.from in (
              next,
              some,
              elim (cases_lt next at) [
                | inl before ↦ absurd (both_ways _ (first.least next (omega (arith, from, le)) before) second.fits)
                | inr after ↦ after
              ],
            )

    -- where the wire is free later, it is so behind the same frames
    goes_later : (n : ℕ) (xs ys : List ℕ) (u v w : ℕ) → Goes n xs u ys v → u ≤ w → (x : ℕ) × Goes n xs w ys x × (v ≤ x)
    goes_later zero xs ys u v w g le = (let same = g.1 in (w, (g.0, refl), (let more : v ≤ w = omega (arith, same, le) in more)))
    goes_later (suc n) xs ys u v w g le =
        let e = g.0 in
        let at = g.1 in
        let need : ℕ = (flow_at flows e.1).need in
        let fit = fit_later need (max e.0 u) (max e.0 w) at g.3 (omega (arith, le)) in
        let more = fit.2 in
        let rest = goes_later n (next_behind flows xs e) ys (at + need) v (fit.0 + need) g.4 (omega (arith, more)) in
        (rest.0, (e, fit.0, g.2, fit.1, rest.1), rest.2)

    -- ---- the backlog grows

    -- so many frames, behind which the next ones come some cycles later, and the wire is free later by these and one more; and so too where it is
    -- free later from the first
    module _ (frames cycles : ℕ) (xs : List ℕ) (u v : ℕ) (moves : (i : ℕ) → Goes frames xs (u + cycle * i) (map (λ t. t + cycle * cycles) xs) (v + cycle * i)) (more : u + cycle * (cycles + 1) ≤ v) where
      grows : (j i w : ℕ) → u + cycle * (cycles + 1) * i ≤ w
          → (x : ℕ) × Goes (frames * j) (map (λ t. t + cycle * (cycles * i)) xs) w (map (λ t. t + cycle * (cycles * (i + j))) xs) x × (u + cycle * (cycles + 1) * (i + j) ≤ x)
      grows zero i w le =
          let none : zero ≡ frames * zero = omega arith in
          let same : i ≡ i + zero = omega arith in
          (w, subst (λ k. Goes k (map (λ t. t + cycle * (cycles * i)) xs) w (map (λ t. t + cycle * (cycles * (i + zero))) xs) w) none (ap (λ k. map (λ t. t + cycle * (cycles * k)) xs) same, refl), subst (λ k. u + cycle * (cycles + 1) * k ≤ w) same le)
      grows (suc j) i w le =
          let d : ℕ = cycle * (cycles * i) in
          let count : frames + frames * j ≡ frames * suc j = grind arith in
          let on : i + 1 + j ≡ i + suc j = omega arith in
          let parts : cycle * (cycles + 1) * i ≡ cycle * i + d = grind arith in
          let wider : cycle * (cycles + 1) * (i + 1) ≡ cycle * (cycles + 1) * i + cycle * (cycles + 1) = grind arith in
          let once = goes_shift d (again (cycles * i)) frames xs (map (λ t. t + cycle * cycles) xs) (u + cycle * i) (v + cycle * i) (moves i) in
          let later = goes_later frames (map (λ t. t + d) xs) (map (λ t. t + d) (map (λ t. t + cycle * cycles) xs)) (u + cycle * i + d) (v + cycle * i + d) w once (omega (arith, parts, le)) in
          let mine = later.2 in
          let rest = grows j (i + 1) later.0 (omega (arith, parts, wider, mine, more)) in
          let next = subst (λ ys. Goes frames (map (λ t. t + d) xs) w ys later.0) (twice i xs) later.1 in
          let all = goes_on frames (frames * j) (map (λ t. t + d) xs) (map (λ t. t + cycle * (cycles * (i + 1))) xs) (map (λ t. t + cycle * (cycles * (i + 1 + j))) xs) w later.0 rest.0 next rest.1 in (
            rest.0,
            subst (λ k. Goes (frames * suc j) (map (λ t. t + d) xs) w (map (λ t. t + cycle * (cycles * k)) xs) rest.0) on
                (subst (λ k. Goes k (map (λ t. t + d) xs) w (map (λ t. t + cycle * (cycles * (i + 1 + j))) xs) rest.0) count all),
            subst (λ k. u + cycle * (cycles + 1) * k ≤ rest.0) on rest.2,
          )
        where
          twice : (i : ℕ) (ts : List ℕ) → map (λ t. t + cycle * (cycles * i)) (map (λ t. t + cycle * cycles) ts) ≡ map (λ t. t + cycle * (cycles * (i + 1))) ts
          twice i [] = refl
          twice i (t ∷ ts) =
              let one : cycle * (cycles * (i + 1)) ≡ cycle * cycles + cycle * (cycles * i) = grind arith in
              let sum : t + cycle * cycles + cycle * (cycles * i) ≡ t + cycle * (cycles * (i + 1)) = omega (arith, one) in
              ap (λ k. k ∷ map (λ t. t + cycle * (cycles * i)) (map (λ t. t + cycle * cycles) ts)) sum ∙ ap (λ ks. (t + cycle * (cycles * (i + 1))) ∷ ks) (twice i ts)

      -- so at last some frame finds no room
      full_at_last : (room first : ℕ) (s : Track) (e : ℕ × ℕ) → Goes first s.nexts s.free xs u → IsAhead s → earliest xs ≡ Some e → e.0 ≤ u → IsFull room s
      full_at_last room first s e there ahead is taken =
          let most : ℕ = all_needs flows in
          let each : ℕ = cycle + most in
          let j : ℕ = most + each * room + 1 in
          let d : ℕ = cycle * (cycles * (0 + j)) in
          let none : u + cycle * (cycles + 1) * 0 ≤ u = grind arith in
          let far = grows j 0 u none in
          let all = goes_on first (frames * j) s.nexts xs (map (λ t. t + d) xs) s.free u far.0 there (subst (λ ts. Goes (frames * j) ts u (map (λ t. t + d) xs) far.0) (unmoved xs) far.1) in
          elim (goes_or_full room (first + frames * j) s (map (λ t. t + d) xs) far.0 all) [
            | inr full ↦ full
            | inl on ↦
                let z = on.0 in
                let next : earliest z.nexts ≡ Some (later_place d e) = ap earliest on.2 ∙ (earliest_shift d xs ∙ ap (λ o. elim o [ None ↦ None | Some x ↦ Some (later_place d x) ]) is) in
                let waiting : ℕ = length (from_on (e.0 + d) z.starts) in
                elim (cases_lt waiting room) [
                  | inr full ↦ (first + frames * j, z, later_place d e, on.1, next, full)
                  | inl few ↦
                      let here : e.0 + d ≤ e.0 + d = omega arith in
                      let bound = ahead_after room (first + frames * j) s z on.1 ahead (later_place d e) next (e.0 + d) here in
                      let free = on.3 in
                      let least = far.2 in
                      let parts : cycle * (cycles + 1) * (0 + j) ≡ d + cycle * j = grind arith in
                      let large = no_less cycle j above in
                      let much = fewer_times each waiting room few in
                      absurd (omega (arith, bound, free, least, parts, large, much, taken))
                ]
          ]
        where
          unmoved : (ts : List ℕ) → map (λ t. t + cycle * (cycles * 0)) ts ≡ ts
          unmoved [] = refl
          unmoved (t ∷ ts) =
              let same : t + cycle * (cycles * 0) ≡ t = grind arith in
              ap (λ k. k ∷ map (λ t. t + cycle * (cycles * 0)) ts) same ∙ ap (λ ks. t ∷ ks) (unmoved ts)

-- ---- the law

module _ (plan : Plan) (class room : ℕ) (flows : List Flow) (above : 0 < plan.cycle) (h : IsOverloaded plan class flows) where
  abbrev may : ℕ → ℕ → Bool
  may = may_by plan class

  abbrev cycle : ℕ
  cycle = in_ps plan.cycle

  abbrev begins : Track
  begins = begun (offsets_of flows)

  -- between the two tracks
  onward : after may cycle h.room flows h.frames h.old ≡ Some h.new
  onward = sym (after_behind may cycle flows h.room h.first h.frames begins h.old h.was) ∙ h.is

  taken : (k : ℕ) (z : Track) (e : ℕ × ℕ) → k < h.frames → after may cycle h.room flows k h.old ≡ Some z → earliest z.nexts ≡ Some e → e.0 ≤ z.free
  taken k z e less there = h.busy k z e less (after_behind may cycle flows h.room h.first k begins h.old h.was ∙ there)

  -- the first of the frames between them
  first_one : (frames : ℕ) → h.frames ≡ frames → after may cycle h.room flows frames h.old ≡ Some h.new → (e : ℕ × ℕ) × (earliest (h.old).nexts ≡ Some e) × (e.0 ≤ (h.old).free)
  unfolding after
  first_one zero none there =
      let same = ap (λ (x : Track). x.free) (after_none may cycle h.room flows h.old h.new there) in
      let more = h.behind in
      let some : 0 < cycle = omega (arith, above) in
      let large : cycle * (h.cycles + 1) ≡ cycle * h.cycles + cycle = grind arith in
      absurd (omega (arith, same, more, some, large))
  first_one (suc n) some there =
      let stepped = after_step may cycle h.room flows n h.old h.new there in
      let next = has_next may cycle h.room flows h.old stepped.0 stepped.1 in
      (next.0, next.1, taken 0 h.old next.0 (let less : 0 < h.frames = omega (arith, some) in less) refl next.1)

  full : IsFull may cycle flows room begins
  full =
      let first = first_one h.frames refl onward in
      let again = by_repeats plan above class in
      full_at_last may cycle flows (let some : 0 < cycle = omega (arith, above) in some) again h.frames h.cycles (h.old).nexts (h.old).free (h.new).free
      (λ i. subst (λ ys. Goes may cycle flows h.frames (h.old).nexts ((h.old).free + cycle * i) ys ((h.new).free + cycle * i)) h.alike
      (goes_busy may cycle flows (cycle * i) (again i) h.room h.frames h.old h.new onward taken))
      h.behind room h.first begins first.0 (goes_of may cycle flows h.room h.first begins h.old h.was)
      (λ e next t from. (let goal : 0 ≤ t + all_needs flows + (cycle + all_needs flows) * length (from_on t []) = omega arith in goal)) first.1 first.2

  -- it is dropped
  first_dropped : class < 8 → (k place moment : ℕ) × IsFirstDropped plan class room flows k place moment
  first_dropped lc =
      let m = full.0 in
      let z = full.1 in
      let e = full.2 in (
        m,
        e.1,
        e.0,
        (
          coming_at flows m (offsets_of flows) e (ap earliest (sym (after_nexts flows may cycle room m begins z full.3)) ∙ full.4),
          λ ps mtu n events run up_to.
              full_law ps mtu room class run.command plan events flows n m z e run.rate run.large lc run.is above run.apart run.only run.come up_to full.3 full.4 full.5,
        ),
      )

  -- there are no bounds
  no_bounds : (bounds : List Bound) → AreBounds plan class room flows bounds → ⊥
  no_bounds bounds b =
      let m = full.0 in
      let z = full.1 in
      let at : m ≡ m + 0 = omega arith in
      let u = b.always m in
      let tells : told may cycle room flows 0 z ≡ Some u.0 =
      sym (told_after may cycle room flows m 0 begins z full.3) ∙ (ap (λ k. told may cycle room flows k begins) (sym at) ∙ u.1) in
      let stepped = has_step may cycle room flows z (subst IsSome (sym tells) refl) in
      let few = (step_is may cycle room flows z full.2 stepped.0 full.4 stepped.1).room in
      let many = full.5 in
      absurd (omega (arith, few, many))

pub overload_law : OverloadLaw
overload_law plan class room flows lc above h = (first_dropped plan class room flows above h lc, no_bounds plan class room flows above h)
