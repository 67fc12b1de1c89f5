-- What an answer is worth in every run.
use Rattle.std.proofs.Common.{◌≡◌, ◌<◌, ◌≤◌, ℕ, zero, suc, ◌+◌, Bool, List, [], ◌∷◌, length, slice_get, Option, Some, None, IsSome, IfSome, Result, Ok, Err, refl, sym, ap, ◌∙◌, subst, arith}
use Rattle.std.proofs.lemmas.Option.{same_Some}
use Rattle.gates.specs.Gate.{Plan, in_ps}
use Rattle.abstract_port.specs.declared.Start.{Start}
use Rattle.abstract_port.specs.Traffic.{Came}
use Rattle.delay_bounds.specs.declared.Bound.{Bound}
use Rattle.delay_bounds.specs.declared.Flow.{Flow}
use Rattle.delay_bounds.specs.declared.FlowFrame.{FlowFrame}
use Rattle.delay_bounds.specs.declared.Refused.{Refused}
use Rattle.delay_bounds.specs.declared.Told.{Told}
use Rattle.delay_bounds.specs.declared.Unbound.{Unbound}
use Rattle.delay_bounds.specs.declared.Unbound.TheVariants.{Full, Never, Overloaded, Long, Late, Memory}
use Rattle.delay_bounds.specs.Bounded.{Answer, IsByPlan, IsUnbound, told_bounds}
use Rattle.delay_bounds.specs.Bounds.{AllWithin, AreBounds, IsWithin, Track, step, told, told_by}
use Rattle.delay_bounds.specs.Claim.{AnswerLaw, AreComing, AreExact, IsFirstDropped, IsFrame, IsWait, IsWorth, Waits, NeverStarts, bound_at, coming, earliest, offsets_of}
use Rattle.delay_bounds.specs.ForEver.{counting}
use Rattle.delay_bounds.specs.Stuck.{first_refused}
use Rattle.delay_bounds.specs.Waits.{AreAllTold, HaveWaited}
use Rattle.delay_bounds.specs.Walk.{after, begun, may_by}
use Rattle.delay_bounds.specs.Walked.{answer_of, bounds_answered}
use Rattle.delay_bounds.proofs.AnswerLaws.{plan_law}
use Rattle.delay_bounds.proofs.DropLaws.{drops_law}
use Rattle.delay_bounds.proofs.EveryRunLaws.{every_run_law}
use Rattle.delay_bounds.proofs.FullLaws.{full_law}
use Rattle.delay_bounds.proofs.NeverLaws.{never_offered}
use Rattle.delay_bounds.proofs.OverloadLaws.{overload_law}
use Rattle.delay_bounds.proofs.StepLaws.{after_nexts, coming_at, first_told, has_next, nexts_after, nexts_more, nexts_none}
use Rattle.delay_bounds.proofs.StuckLaws.{stuck_law}
use Rattle.delay_bounds.proofs.WaitLaws.{bounds_law, step_is, told_next}
use Rattle.delay_bounds.proofs.Words.{told_first, told_on}

module _ (may : ℕ → ℕ → Bool) (cycle room : ℕ) (flows : List Flow) where
  -- where something is told of a frame there is a step
  told_step : (k : ℕ) (s : Track) (t : Told) → told may cycle room flows k s ≡ Some t → (r : Told × Track) × (step may cycle room flows s ≡ Some r)
  unfolding told
  told_step zero s t is = go (step may cycle room flows s) refl is
    where
      go : (o : Option (Told × Track)) → step may cycle room flows s ≡ o → told_first o ≡ Some t → (r : Told × Track) × (step may cycle room flows s ≡ Some r)
      go None e h = absurd (let no : None ≡ Some t = h in cc)
      go (Some r) e h = (r, e)
  told_step (suc k) s t is = go (step may cycle room flows s) refl is
    where
      go : (o : Option (Told × Track)) → step may cycle room flows s ≡ o → told_on (told may cycle room flows k) o ≡ Some t → (r : Told × Track) × (step may cycle room flows s ≡ Some r)
      go None e h = absurd (let no : None ≡ Some t = h in cc)
      go (Some r) e h = (r, e)

  told_now : (s : Track) (r : Told × Track) (t : Told) → step may cycle room flows s ≡ Some r → told may cycle room flows 0 s ≡ Some t → r.0 ≡ t
  told_now s r t e is = same_Some r.0 t (sym (first_told may cycle room flows s r e) ∙ is)

  -- it is a frame of the flow at that place
  told_frame : (k : ℕ) (s : Track) (t : Told) → told may cycle room flows k s ≡ Some t → (moment : ℕ) × (earliest (nexts_after flows k s.nexts) ≡ Some (moment, t.place))
  told_frame zero s t is =
      let stepped = told_step 0 s t is in
      let next = has_next may cycle room flows s stepped.0 stepped.1 in
      let at = step_is may cycle room flows s next.0 stepped.0 next.1 stepped.1 in
      let place : next.0.1 ≡ t.place = sym at.place ∙ ap (λ (u : Told). u.place) (told_now s stepped.0 t stepped.1 is) in
      (next.0.0, ap earliest (nexts_none flows s.nexts) ∙ (next.1 ∙ ap (λ (p : ℕ). Some (next.0.0, p)) place))
  told_frame (suc k) s t is =
      let stepped = told_step (suc k) s t is in
      let next = has_next may cycle room flows s stepped.0 stepped.1 in
      let at = step_is may cycle room flows s next.0 stepped.0 next.1 stepped.1 in
      let rest = told_frame k stepped.0.1 t (sym (told_next may cycle room flows s stepped.0 k stepped.1) ∙ is) in
      (rest.0, nexts_more flows k s.nexts next.0 (rest.0, t.place) next.1 (ap (λ xs. earliest (nexts_after flows k xs)) (sym at.nexts) ∙ rest.1))

  -- a frame that has started has waited as is told of it
  told_waits : (k : ℕ) (s : Track) (t : Told) (came : List Came) (starts : List Start) (f : Came) (x : Start) → HaveWaited (step may cycle room flows) s came starts → told may cycle room flows k s ≡ Some t
      → slice_get came k ≡ Some f → slice_get starts k ≡ Some x → x.at ≡ f.moment + t.wait
  told_waits k s t came [] f x h is fs xs = absurd (none_there k xs)
    where
      none_there : (k : ℕ) → slice_get (let none : List Start = [] in none) k ≡ Some x → ⊥
      none_there zero e = cc
      none_there (suc k) e = cc
  told_waits k s t [] (y ∷ starts) f x h is fs xs = absurd h
  told_waits zero s t (g ∷ came) (y ∷ starts) f x h is fs xs =
      let same = ap (λ (u : Told). u.wait) (told_now s h.0 t h.1 is) in
      let frame = ap (λ (c : Came). c.moment) (same_Some g f fs) in
      let start = ap (λ (z : Start). z.at) (same_Some y x xs) in
      let waited = h.2 in
      omega (arith, same, frame, start, waited)
  told_waits (suc k) s t (g ∷ came) (y ∷ starts) f x h is fs xs =
      told_waits k h.0.1 t came starts f x h.3 (sym (told_next may cycle room flows s h.0 k h.1) ∙ is) fs xs

module _ (plan : Plan) (class room : ℕ) (flows : List Flow) (above : 0 < plan.cycle) (lc : class < 8) where
  abbrev begins : Track
  begins = begun (offsets_of flows)

  -- the next frame after some
  frame_after : (m : ℕ) (z : Track) (e : ℕ × ℕ) → after (may_by plan class) (in_ps plan.cycle) room flows m begins ≡ Some z → earliest z.nexts ≡ Some e → IsFrame flows m e.1 e.0
  frame_after m z e there next = coming_at flows m (offsets_of flows) e (ap earliest (sym (after_nexts flows (may_by plan class) (in_ps plan.cycle) room m begins z there)) ∙ next)

  -- a frame has waited in every run as is told of it
  waits : (bounds : List Bound) → AreBounds plan class room flows bounds → (k : ℕ) (t : Told) → told_by plan class room flows k ≡ Some t → Waits plan class room flows k t.wait
  waits bounds b k t is ps mtu n events run f x fs xs =
      let tells : AreAllTold plan class room flows = λ m. (let u = b.always m in subst IsSome (sym u.1) refl) in
      let all = drops_law ps mtu room class run.command plan events flows n run.rate run.large lc run.is above run.apart run.only run.come tells in
      let come = subst (AreComing ps (run.command).change flows (coming flows n (offsets_of flows))) (sym all) run.come in
      let waited = bounds_law ps mtu room class run.command plan events flows n run.rate run.large lc run.is above run.apart run.only come tells in
      told_waits (may_by plan class) (in_ps plan.cycle) room flows k begins t _ _ f x waited is fs xs

  -- it is of that flow
  frame_is : (k : ℕ) (t : Told) → told_by plan class room flows k ≡ Some t → (moment : ℕ) × IsFrame flows k t.place moment
  frame_is k t is =
      let frame = told_frame (may_by plan class) (in_ps plan.cycle) room flows k begins t is in
      (frame.0, coming_at flows k (offsets_of flows) (frame.0, t.place) frame.1)

  -- a wait that is told of a frame of a flow
  wait_is : (bounds : List Bound) (place wait : ℕ) → AreBounds plan class room flows bounds → (k : ℕ) (t : Told) → told_by plan class room flows k ≡ Some t → t.place ≡ place → t.wait ≡ wait → IsWait plan class room flows place wait
  wait_is bounds place wait b k t is at long =
      let frame = frame_is k t is in
      (k, frame.0, subst (λ p. IsFrame flows k p frame.0) at frame.1, subst (Waits plan class room flows k) long (waits bounds b k t is))

  -- no more start than are queued
  few_start : (bounds : List Bound) (more : List (ℕ × ℕ)) (came : List Came) (starts : List Start) → AllWithin bounds more came starts → length starts ≤ length came
  few_start bounds more came [] h = omega arith
  few_start bounds [] came (x ∷ starts) h = absurd h
  few_start bounds (e ∷ more) [] (x ∷ starts) h = absurd h
  few_start bounds (e ∷ more) (f ∷ came) (x ∷ starts) h = (let few = few_start bounds more came starts h.1 in let goal : suc (length starts) ≤ suc (length came) = omega (arith, few) in goal)

  exact : (bounds : List Bound) → AreBounds plan class room flows bounds → AreExact plan class room flows bounds
  exact bounds b = record {
    taken = λ ps mtu n events run.
        let h = every_run_law ps mtu room class run.command plan events flows bounds n run.rate run.large lc run.is above run.apart run.only run.come b in
        (h.queued, few_start bounds (coming flows n (offsets_of flows)) _ _ h.within);
    within = λ k place moment frame.
        let u = b.always k in
        let told_frame = frame_is k u.0 u.1 in
        let at : u.0.place ≡ place = ap (λ (e : ℕ × ℕ). e.1) (same_Some (told_frame.0, u.0.place) (moment, place) (sym told_frame.1 ∙ frame)) in
        let inside = subst (λ p. IsWithin (bound_at bounds p) u.0.wait) at u.2 in
        (u.0.wait, inside.least, inside.greatest, waits bounds b k u.0 u.1);
    reached = λ place within.
        let least = b.least place within in
        let greatest = b.greatest place within in
        (wait_is bounds place (bound_at bounds place).least b least.0 least.1 least.2 least.3 least.4, wait_is bounds place (bound_at bounds place).greatest b greatest.0 greatest.1 greatest.2 greatest.3 greatest.4);
  }

  dropped : (limit : ℕ) (f : FlowFrame) → IsUnbound plan class room flows limit (Full f) → IsFirstDropped plan class room flows f.earlier f.place f.moment
  dropped limit f h =
      let z = h.0 in
      let next = h.1 in (
        frame_after f.earlier z (f.moment, f.place) next.there next.next,
        λ ps mtu n events run up_to.
            full_law ps mtu room class run.command plan events flows n f.earlier z (f.moment, f.place) run.rate run.large lc run.is above run.apart run.only run.come up_to next.there next.next h.2,
      )

  stuck : (limit : ℕ) (f : FlowFrame) (refused : Option Refused) → IsUnbound plan class room flows limit (Never f refused)
      → NeverStarts plan class room flows f.earlier f.place f.moment × IfSome refused (λ r. (k : ℕ) × IsFirstDropped plan class room flows k r.place r.moment)
  stuck limit f refused h =
      let z = h.0 in
      let next = h.1 in (
        (
          frame_after f.earlier z (f.moment, f.place) next.there next.next,
          λ ps mtu n events run.
              never_offered ps mtu room class run.command plan events flows n f.earlier z (f.moment, f.place) run.rate run.large lc run.is above run.apart run.only run.come next.there next.next h.2 h.3,
        ),
        by refused h.4,
      )
    where
      by : (o : Option Refused) → o ≡ first_refused room flows (counting h.0) → IfSome o (λ r. (k : ℕ) × IsFirstDropped plan class room flows k r.place r.moment)
      by None is = tt
      by (Some r) is =
          let next = h.1 in
          stuck_law plan class room flows f.earlier h.0 (f.moment, f.place) r lc above next.there next.next h.3 (sym is)

  worth : (limit : ℕ) (answer : Result Answer Unbound) → IsByPlan plan class room flows limit answer → IsWorth plan class room flows (told_bounds answer)
  worth limit (Ok a) h = exact a.bounds h.0
  worth limit (Err (Full f)) h = dropped limit f h
  worth limit (Err (Never f refused)) h = stuck limit f refused h
  worth limit (Err Overloaded) h = λ any. (overload_law plan class any flows lc above h.0).0
  worth limit (Err Long) h = tt
  worth limit (Err Late) h = tt
  worth limit (Err Memory) h = tt

pub answer_law : AnswerLaw bounds_answered
answer_law plan class room limit flows sound lc some fit =
    worth plan class room flows (sound.plan_is).cycle lc limit (answer_of plan class room flows limit) (plan_law plan class room limit flows sound some fit)
