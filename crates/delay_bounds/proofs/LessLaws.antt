-- Sending less starts no frame later.
use Rattle.std.proofs.Common.{◌≡◌, ◌≤◌, ℕ, suc, ◌+◌, max, List, [], ◌∷◌, IsSome, inl, inr, refl, sym, ap, ◌∙◌, subst, arith, le_refl}
use Rattle.std.proofs.lemmas.Bool.{cases_lt, both_ways}
use Rattle.wire_time.specs.Wire.{occupancy_of}
use Rattle.wire_time.specs.declared.Frame.{Frame}
use Rattle.gates.specs.Gate.{in_ps}
use Rattle.gates.proofs.OpenLaws.{open_within}
use Rattle.gates.specs.History.{Accepted, gates, open_through}
use Rattle.abstract_port.specs.declared.Start.{Start}
use Rattle.abstract_port.specs.AbstractPort.{new_port}
use Rattle.abstract_port.specs.Answers.{answers_of}
use Rattle.abstract_port.specs.Laws.{starts_in}
use Rattle.abstract_port.proofs.ServiceLaws.{served_law}
use Rattle.abstract_port.specs.Served.{IsFirst, AreServed}
use Rattle.abstract_port.specs.Traffic.{Came, queued_in, starts_of_class}
use Rattle.delay_bounds.proofs.GateLaws.{may_since, same_gates}
use Rattle.delay_bounds.proofs.StepLaws.{next_is}
use Rattle.delay_bounds.proofs.WaitLaws.{step_is, has_step, told_next, first_is, first_since}
use Rattle.delay_bounds.specs.Claim.{coming, offsets_of, flow_at}
use Rattle.delay_bounds.specs.Bounds.{Track, step, told}
use Rattle.delay_bounds.specs.Less.{AreLess, AreInTime, LessLaw}
use Rattle.delay_bounds.specs.Walk.{begun}
use Rattle.delay_bounds.specs.declared.Flow.{Flow}

-- a shorter frame that may start earlier starts no later
pub first_rises : (h : List Accepted) (class d e t u s v : ℕ) → d ≤ e → t ≤ u → IsFirst (open_through h class) d t s → IsFirst (open_through h class) e u v → s ≤ v
first_rises h class d e t u s v shorter sooner a b =
    elim (cases_lt v s) [
      | inl before ↦
          let from = b.from in
          absurd (both_ways _ (a.least v (omega arith) before) (open_within (gates h) class v e v d b.fits (le_refl v) (omega arith)))
      | inr after ↦ after
    ]

pub in_time : (ps class : ℕ) (a : Accepted) (cycle room : ℕ) (flows : List Flow) (more : List (ℕ × ℕ)) (starts : List Start) (came : List Came) (n : ℕ) (s : Track) (free now wire : ℕ) (waiting : List Frame)
    → free ≤ a.change + s.free
    → ((m : ℕ) → IsSome (told (may_since a class) cycle room flows m s))
    → more ≡ coming flows n s.nexts → (l : AreLess ps a.change flows more came)
    → AreServed (open_through (a ∷ []) class) ps class free now came starts wire waiting
    → AreInTime (step (may_since a class) cycle room flows) ps a.change flows s more came l starts
in_time ps class a cycle room flows more [] came n s free now wire waiting w tells c l h = tt
in_time ps class a cycle room flows more (x ∷ starts) [] n s free now wire waiting w tells c l h = h
in_time ps class a cycle room flows [] (x ∷ starts) (f ∷ came) n s free now wire waiting w tells c l h = l
in_time ps class a cycle room flows (e ∷ more) (x ∷ starts) (f ∷ came) n s free now wire waiting w tells c (inl l) h =
    let z = next_is flows n s.nexts e more c in
    let stepped = has_step (may_since a class) cycle room flows s (tells 0) in
    let r = stepped.0 in
    let is = step_is (may_since a class) cycle room flows s e r z.first stepped.1 in
    let fits = first_is (may_since a class) (flow_at flows e.1).need (max e.0 s.free) cycle is.at is.fit in
    let from = fits.from in
    let start = h.0 in
    let come = l.0 in
    let short = l.1 in
    let sooner : max f.moment free ≤ a.change + max e.0 s.free = omega arith in
    let by : x.at ≤ a.change + is.at = first_rises (a ∷ []) class (occupancy_of ps (f.frame).len) (flow_at flows e.1).need (max f.moment free) (a.change + max e.0 s.free) x.at (a.change + is.at) short sooner start.first
    (first_since a class (flow_at flows e.1).need (max e.0 s.free) is.at fits) in
    let wait = is.wait in
    let ends : x.«end» ≡ x.at + occupancy_of ps (f.frame).len = ap (λ (y : Start). y.«end») start.is in
    let freed = is.free in (
      r,
      stepped.1,
      omega arith,
      in_time ps class a cycle room flows more starts came z.count r.1 x.«end» now wire waiting (omega arith)
          (λ k. subst IsSome (told_next (may_since a class) cycle room flows s r k stepped.1) (tells (suc k)))
          (z.behind ∙ ap (coming flows z.count) (sym is.nexts)) l.2 h.1,
    )
in_time ps class a cycle room flows (e ∷ more) (x ∷ starts) (f ∷ came) n s free now wire waiting w tells c (inr l) h =
    let z = next_is flows n s.nexts e more c in
    let stepped = has_step (may_since a class) cycle room flows s (tells 0) in
    let r = stepped.0 in
    let is = step_is (may_since a class) cycle room flows s e r z.first stepped.1 in
    let fits = first_is (may_since a class) (flow_at flows e.1).need (max e.0 s.free) cycle is.at is.fit in
    let from = fits.from in
    let freed = is.free in (
      r,
      stepped.1,
      in_time ps class a cycle room flows more (x ∷ starts) (f ∷ came) z.count r.1 free now wire waiting (omega arith)
          (λ k. subst IsSome (told_next (may_since a class) cycle room flows s r k stepped.1) (tells (suc k)))
          (z.behind ∙ ap (coming flows z.count) (sym is.nexts)) l h,
    )

pub less_law : LessLaw
less_law ps mtu room class a plan events flows n rate large lc is above apart only l tells =
    let h = served_law ps mtu room class a events rate large lc apart only in
    let cycle : ℕ = in_ps plan.cycle in
    let same = same_gates a plan is above class in
    subst (λ may. AreInTime (step may cycle room flows) ps a.change flows (begun (offsets_of flows)) (coming flows n (offsets_of flows)) (queued_in class events (new_port ps mtu room)) l (starts_of_class class (starts_in (answers_of events (new_port ps mtu room))))) same
    (in_time ps class a cycle room flows (coming flows n (offsets_of flows)) _ _ n (begun (offsets_of flows)) 0 _ h.free _ (let none : 0 ≤ a.change + 0 = omega arith in none)
    (subst (λ may. (m : ℕ) → IsSome (told may cycle room flows m (begun (offsets_of flows)))) (sym same) tells) refl l h.served)
