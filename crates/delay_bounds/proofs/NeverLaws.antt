-- What fits into no window of one cycle never starts.
use Rattle.std.proofs.Common.{◌≡◌, ◌<◌, ◌≤◌, ℕ, zero, suc, ◌+◌, ◌-◌, ◌*◌, ◌%◌, ◌/◌, max, Bool, true, false, cond, List, [], ◌∷◌, length, take, Some, None, inl, inr, refl, sym, ap, ◌∙◌, subst, arith}
use Rattle.std.proofs.lemmas.Bool.{cases_lt, both_ways}
use Rattle.std.proofs.lemmas.Option.{same_Some}
use Rattle.wire_time.specs.declared.Frame.{Frame}
use Rattle.gates.specs.Gate.{Plan, in_ps}
use Rattle.gates.specs.History.{Accepted, open_through}
use Rattle.abstract_port.specs.declared.Start.{Start}
use Rattle.abstract_port.specs.declared.Event.{Event}
use Rattle.abstract_port.specs.AbstractPort.{new_port}
use Rattle.abstract_port.specs.Answers.{answers_of}
use Rattle.abstract_port.specs.Laws.{starts_in}
use Rattle.abstract_port.specs.Separation.{IsKeptApart}
use Rattle.abstract_port.specs.Traffic.{Came, IsOnly, offered_in, queued_in, starts_of_class}
use Rattle.abstract_port.specs.Served.{AreServed}
use Rattle.abstract_port.proofs.ServiceLaws.{served_law}
use Rattle.delay_bounds.specs.declared.Flow.{Flow}
use Rattle.delay_bounds.specs.Claim.{offsets_of, earliest, flow_at, coming, AreComing}
use Rattle.delay_bounds.specs.Bounds.{Track, first_fit, from_on}
use Rattle.delay_bounds.specs.Walk.{begun, after, may_by}
use Rattle.delay_bounds.specs.ForEver.{Repeats}
use Rattle.delay_bounds.specs.Never.{NeverLaw}
use Rattle.delay_bounds.proofs.GateLaws.{may_since, same_gates, may_repeats}
use Rattle.delay_bounds.proofs.WaitLaws.{step_is, coming_first}
use Rattle.delay_bounds.proofs.StepLaws.{after_step, after_none, first_come}
use Rattle.delay_bounds.proofs.QueueLaws.{IsShut, at_track, before_track, first_queued}

-- of so many moments none fits
pub none_is : (may : ℕ → ℕ → Bool) (d t n : ℕ) → first_fit may d t n ≡ None → (m : ℕ) → t ≤ m → m < t + n → may m d ≡ false
unfolding first_fit
none_is may d t zero e m from below = absurd (omega arith)
none_is may d t (suc n) e m from below = go (may t d) refl e (none_is may d (t + 1) n)
  where
    go : (b : Bool) → may t d ≡ b → cond b (Some t) (first_fit may d (t + 1) n) ≡ None
        → (first_fit may d (t + 1) n ≡ None → (m : ℕ) → t + 1 ≤ m → m < t + 1 + n → may m d ≡ false) → may m d ≡ false
    go true fits f rest = absurd (cc)
    go false shut f rest = elim (cases_lt t m) [
      | inl after ↦ rest f m (omega arith) (omega arith)
      | inr here ↦ (let same : t ≡ m = omega arith in subst (λ k. may k d ≡ false) same shut)
    ]

-- so none ever does, where what may be repeats each cycle
pub none_ever : (may : ℕ → ℕ → Bool) (cycle d t : ℕ) → 0 < cycle → ((k : ℕ) → Repeats may (cycle * k)) → first_fit may d t cycle ≡ None → (m : ℕ) → may m d ≡ false
none_ever may cycle d t above again e m =
    let u : ℕ = m + cycle * t - t in
    let more : t ≤ cycle * t = grind arith in
    let rest : u % cycle < cycle = grind arith in
    let parts : u ≡ u % cycle + cycle * (u / cycle) = grind arith in
    let at : m + cycle * t ≡ t + u % cycle + cycle * (u / cycle) = omega arith in
    sym (again t m d)
    ∙ (ap (λ k. may k d) at
    ∙ (again (u / cycle) (t + u % cycle) d
    ∙ none_is may d t cycle e (t + u % cycle) (omega arith) (omega arith)))

-- so the frame never starts
pub shut_since : (a : Accepted) (plan : Plan) (class : ℕ) (flows : List Flow) (z : Track) (e : ℕ × ℕ) → a.plan ≡ Some plan → 0 < plan.cycle → earliest z.nexts ≡ Some e
    → first_fit (may_by plan class) (flow_at flows e.1).need (max e.0 z.free) (in_ps plan.cycle) ≡ None → IsShut (may_since a class) flows z
shut_since a plan class flows z e is above next none d first =
    let same : e ≡ d = same_Some e d (sym next ∙ first) in
    let none_since = ap (λ may. first_fit may (flow_at flows e.1).need (max e.0 z.free) (in_ps plan.cycle)) (same_gates a plan is above class) ∙ none in
    subst (λ (x : ℕ × ℕ). (m : ℕ) → may_since a class m (flow_at flows x.1).need ≡ false) same
    (none_ever (may_since a class) (in_ps plan.cycle) (flow_at flows e.1).need (max e.0 z.free) (omega (arith, above)) (may_repeats a plan is above class) none_since)

-- at most so many start
never_starts : (ps class : ℕ) (a : Accepted) (cycle room : ℕ) (flows : List Flow) (starts : List Start) (came : List Came) (n m : ℕ) (s z : Track) (free now wire : ℕ) (waiting : List Frame)
    → AreComing ps a.change flows (coming flows n s.nexts) (take (m + 1) came)
    → after (may_since a class) cycle room flows m s ≡ Some z → IsShut (may_since a class) flows z
    → AreServed (open_through (a ∷ []) class) ps class free now came starts wire waiting
    → length starts ≤ m
never_starts ps class a cycle room flows [] came n m s z free now wire waiting c is shut h = omega arith
never_starts ps class a cycle room flows (x ∷ starts) [] n m s z free now wire waiting c is shut h = absurd h
never_starts ps class a cycle room flows (x ∷ starts) (f ∷ came) n zero s z free now wire waiting c is shut h =
    let first = coming_first flows n s.nexts ps a.change f (take 0 came) c in
    let d = first.1 in
    let here = first.3 in
    let same : s ≡ z = after_none (may_since a class) cycle room flows s z is in
    let start = h.0 in
    let from = (start.first).from in
    let at : a.change + (x.at - a.change) ≡ x.at = omega arith in
    absurd (both_ways _
    (shut d (sym (ap (λ (y : Track). earliest y.nexts) same) ∙ first.2) (x.at - a.change))
    (ap (λ k. open_through (a ∷ []) class k (flow_at flows d.1).need) at ∙ subst (λ k. open_through (a ∷ []) class x.at k ≡ true) first.4 (start.first).fits))
never_starts ps class a cycle room flows (x ∷ starts) (f ∷ came) n (suc m) s z free now wire waiting c is shut h =
    let one : suc m + 1 ≡ suc (m + 1) = omega arith in
    let first = coming_first flows n s.nexts ps a.change f (take (m + 1) came) (subst (λ k. AreComing ps a.change flows (coming flows n s.nexts) (take k (f ∷ came))) one c) in
    let stepped = after_step (may_since a class) cycle room flows m s z is in
    let r = stepped.0 in
    let at = step_is (may_since a class) cycle room flows s first.1 r first.2 stepped.1 in
    let rest = never_starts ps class a cycle room flows starts came first.0 m r.1 z x.«end» now wire waiting
    (subst (λ xs. AreComing ps a.change flows (coming flows first.0 xs) (take (m + 1) came)) (sym at.nexts) first.5) stepped.2 shut h.1 in
    (let more : suc (length starts) ≤ suc m = omega (arith, rest) in more)

-- where the first that are queued are the first of the flows, up to the frame that never starts
starts_few : (ps mtu room class : ℕ) (a : Accepted) (plan : Plan) (events : List Event) (flows : List Flow) (n m : ℕ) (z : Track)
    → 80 ≤ ps → 68 ≤ mtu → class < 8 → a.plan ≡ Some plan → 0 < plan.cycle → IsKeptApart class events (new_port ps mtu room) → IsOnly a events (new_port ps mtu room)
    → AreComing ps a.change flows (coming flows n (offsets_of flows)) (take (m + 1) (queued_in class events (new_port ps mtu room)))
    → after (may_since a class) (in_ps plan.cycle) room flows m (begun (offsets_of flows)) ≡ Some z → IsShut (may_since a class) flows z
    → length (starts_of_class class (starts_in (answers_of events (new_port ps mtu room)))) ≤ m
starts_few ps mtu room class a plan events flows n m z rate large lc is above apart only c there shut =
    let h = served_law ps mtu room class a events rate large lc apart only in
    never_starts ps class a (in_ps plan.cycle) room flows _ _ n m (begun (offsets_of flows)) z 0 _ h.free _ c there shut h.served

pub never_law : NeverLaw
never_law ps mtu room class a plan events flows n m z e rate large lc is above apart only c there next none =
    let first = first_come flows (m + 1) n (offsets_of flows) ps a.change (queued_in class events (new_port ps mtu room)) c in
    starts_few ps mtu room class a plan events flows first.0 m z rate large lc is above apart only first.1
    (ap (λ may. after may (in_ps plan.cycle) room flows m (begun (offsets_of flows))) (same_gates a plan is above class) ∙ there)
    (shut_since a plan class flows z e is above next none)

-- the same where the frames that the queue is offered are the first of the flows: it takes that frame and those before it
pub never_offered : (ps mtu room class : ℕ) (a : Accepted) (plan : Plan) (events : List Event) (flows : List Flow) (n m : ℕ) (z : Track) (e : ℕ × ℕ)
    → 80 ≤ ps → 68 ≤ mtu → class < 8 → a.plan ≡ Some plan → 0 < plan.cycle → IsKeptApart class events (new_port ps mtu room) → IsOnly a events (new_port ps mtu room)
    → AreComing ps a.change flows (coming flows n (offsets_of flows)) (offered_in class events (new_port ps mtu room))
    → after (may_by plan class) (in_ps plan.cycle) room flows m (begun (offsets_of flows)) ≡ Some z → earliest z.nexts ≡ Some e
    → length (from_on e.0 z.starts) < room → first_fit (may_by plan class) (flow_at flows e.1).need (max e.0 z.free) (in_ps plan.cycle) ≡ None
    → length (starts_of_class class (starts_in (answers_of events (new_port ps mtu room)))) ≤ m
never_offered ps mtu room class a plan events flows n m z e rate large lc is above apart only c there next few none =
    let cycle : ℕ = in_ps plan.cycle in
    let total : ℕ = length (offered_in class events (new_port ps mtu room)) in
    let there_since = ap (λ may. after may cycle room flows m (begun (offsets_of flows))) (same_gates a plan is above class) ∙ there in
    let same = first_queued ps mtu room class a flows (offsets_of flows) events n rate large lc apart only c (m + 1)
    (λ p f came x less. elim (cases_lt (length came) m) [
      | inl before ↦ before_track ps class a room flows (offsets_of flows) lc cycle total m z p f came x there_since before
      | inr behind ↦
          let here = at_track ps class a room flows (offsets_of flows) lc cycle total m z e p f came x there_since next (omega (arith, less, behind)) in
          let size = x.size in
          omega (arith, here, size, few)
    ]) in
    let first = first_come flows (m + 1) n (offsets_of flows) ps a.change (offered_in class events (new_port ps mtu room)) c in
    starts_few ps mtu room class a plan events flows first.0 m z rate large lc is above apart only
    (subst (AreComing ps a.change flows (coming flows first.0 (offsets_of flows))) (sym same) first.1) there_since
    (shut_since a plan class flows z e is above next none)
