-- The least wait of a flow: that of finitely many of its frames, by where in a cycle they come.
use Rattle.std.proofs.Common.{Some, None, ◌≡◌, ◌<◌, ◌≤◌, ℕ, zero, suc, ◌+◌, ◌-◌, ◌*◌, ◌/◌, ◌%◌, min, Bool, inl, inr, sym, ap, ◌∙◌, subst, arith, mul-add}
use Rattle.std.proofs.Math.Nat.{add-mod-mod, div-add-mod, mod-add-mod}
use Rattle.std.proofs.lemmas.Bool.{cases_lt}
use Rattle.gates.specs.Gate.{IsSchedule, Plan, in_ps}
use Rattle.abstract_port.specs.Served.{IsFirst}
use Rattle.delay_bounds.specs.ForEver.{Repeats}
use Rattle.delay_bounds.specs.Bounds.{first_fit}
use Rattle.delay_bounds.specs.Walk.{may_by}
use Rattle.delay_bounds.proofs.GateLaws.{by_repeats}
use Rattle.delay_bounds.proofs.NeverLaws.{none_ever}
use Rattle.delay_bounds.proofs.WaitLaws.{first_is, one_first}
use Rattle.any_traffic.specs.PeriodicWindows.{PeriodicFlow, window_of}
use Rattle.any_traffic.proofs.SlotLaws.{first_later}
use Rattle.burst_bounds.specs.Unbound.{IsStuck}
use Rattle.window_bounds.specs.Flows.{periodic_of}
use Rattle.window_bounds.specs.Least.{IsLeastWait}
use Rattle.window_bounds.specs.declared.JitteredFlow.{JitteredFlow}

-- where in a cycle frame n comes at the earliest
abbrev pub phase : (cycle offset period n : ℕ) → ℕ
phase cycle offset period n = (offset + period * n) % cycle

pub phase_none : (cycle offset period : ℕ) → phase cycle offset period 0 ≡ offset % cycle
phase_none cycle offset period = (let z : offset + period * 0 ≡ offset = omega arith in ap (λ n. n % cycle) z)

pub phase_next : (cycle offset period n : ℕ) → (phase cycle offset period n + period % cycle) % cycle ≡ phase cycle offset period (n + 1)
phase_next cycle offset period n =
    let parts : period * (n + 1) ≡ period * n + period * 1 = mul-add period n 1 in
    let at : offset + period * n + period ≡ offset + period * (n + 1) = omega (arith, parts) in
    mod-add-mod (offset + period * n) cycle (period % cycle)
    ∙ (add-mod-mod (offset + period * n) period cycle ∙ ap (λ k. k % cycle) at)

-- where one comes as the first did, all come again
pub phase_again : (cycle offset period m n : ℕ) → phase cycle offset period m ≡ phase cycle offset period 0
    → phase cycle offset period (n + m) ≡ phase cycle offset period n
phase_again cycle offset period m n same =
    let parts : period * (n + m) ≡ period * n + period * m = mul-add period n m in
    let at : offset + period * (n + m) ≡ offset + period * m + period * n = omega (arith, parts) in
    let z : offset + period * 0 + period * n ≡ offset + period * n = omega arith in
    ap (λ k. k % cycle) at
    ∙ (sym (mod-add-mod (offset + period * m) cycle (period * n))
    ∙ (ap (λ k. (k + period * n) % cycle) same
    ∙ (mod-add-mod (offset + period * 0) cycle (period * n) ∙ ap (λ k. k % cycle) z)))

-- behind whole cycles of periods one does
pub phase_whole : (cycle offset period every : ℕ) → every % cycle ≡ 0 → every % period ≡ 0
    → phase cycle offset period (every / period) ≡ phase cycle offset period 0
phase_whole cycle offset period every whole periods =
    let parts = div-add-mod every period in
    let is : period * (every / period) ≡ every = omega (arith, parts, periods) in
    let z : offset + period * 0 ≡ offset + 0 = omega arith in
    ap (λ k. (offset + k) % cycle) is
    ∙ (sym (add-mod-mod offset every cycle) ∙ (ap (λ k. (offset + k) % cycle) whole ∙ sym (ap (λ k. k % cycle) z)))

module _ (may : ℕ → ℕ → Bool) (cycle : ℕ) (flow : PeriodicFlow) where
  -- of the first n frames none starts sooner, and one does so then
  pub record AreSeen (n least : ℕ) : Type 0 where
    pub each : (m : ℕ) → m < n
        → (s : ℕ) × IsFirst may flow.shortest (phase cycle flow.offset flow.period m) s
        × (phase cycle flow.offset flow.period m + least ≤ s)
    pub reached : (m : ℕ) × IsFirst may flow.shortest (phase cycle flow.offset flow.period m)
        (phase cycle flow.offset flow.period m + least)

  pub seen_one : (s : ℕ) → IsFirst may flow.shortest (phase cycle flow.offset flow.period 0) s
      → AreSeen 1 (s - phase cycle flow.offset flow.period 0)
  seen_one s first =
      let from = first.from in
      let at : s ≡ phase cycle flow.offset flow.period 0 + (s - phase cycle flow.offset flow.period 0) = omega (arith, from) in
      record {
        each = λ m less.
            let e : 0 ≡ m = omega (arith, less) in (
              s,
              subst (λ k. IsFirst may flow.shortest (phase cycle flow.offset flow.period k) s) e first,
              (let p = ap (λ k. phase cycle flow.offset flow.period k) e in omega (arith, p, from)),
            );
        reached = (0, subst (IsFirst may flow.shortest (phase cycle flow.offset flow.period 0)) at first);
      }

  pub seen_more : (n least new s : ℕ) → AreSeen n least → IsFirst may flow.shortest (phase cycle flow.offset flow.period n) s
      → new ≡ min (s - phase cycle flow.offset flow.period n) least → AreSeen (n + 1) new
  seen_more n least new s h first is =
      let from = first.from in
      record {
        each = λ m less. elim (cases_lt m n) [
          | inl before ↦ (let w = h.each m before in let low = w.2 in (w.0, w.1, omega (arith, low, is)))
          | inr here ↦
              let e : n ≡ m = omega (arith, here, less) in (
                s,
                subst (λ k. IsFirst may flow.shortest (phase cycle flow.offset flow.period k) s) e first,
                (let p = ap (λ k. phase cycle flow.offset flow.period k) e in omega (arith, p, from, is)),
              )
        ];
        reached = elim (cases_lt (s - phase cycle flow.offset flow.period n) least) [
          | inl less ↦
              let at : s ≡ phase cycle flow.offset flow.period n + new = omega (arith, from, is, less) in
              (n, subst (IsFirst may flow.shortest (phase cycle flow.offset flow.period n)) at first)
          | inr fits ↦
              let same : least ≡ new = omega (arith, is, fits) in (
                h.reached.0,
                subst (λ k. IsFirst may flow.shortest (phase cycle flow.offset flow.period h.reached.0)
                    (phase cycle flow.offset flow.period h.reached.0 + k)) same h.reached.1,
              )
        ];
      }

module _ (may : ℕ → ℕ → Bool) (cycle : ℕ) (above : 0 < cycle) (again : (k : ℕ) → Repeats may (cycle * k)) (flow : PeriodicFlow) where
  -- in its own cycle
  first_in : (m s : ℕ) → IsFirst may flow.shortest (phase cycle flow.offset flow.period m) s
      → (k : ℕ) × IsFirst may flow.shortest (window_of flow m).earliest (s + k)
      × ((window_of flow m).earliest ≡ phase cycle flow.offset flow.period m + k)
  first_in m s first =
      let e : ℕ = flow.offset + flow.period * m in
      let k : ℕ = cycle * (e / cycle) in
      let parts = div-add-mod e cycle in
      let at : phase cycle flow.offset flow.period m + k ≡ e = omega (arith, parts) in (
        k,
        subst (λ u. IsFirst may flow.shortest u (s + k)) at
            (first_later may flow.shortest k (phase cycle flow.offset flow.period m) s (again (e / cycle)) first),
        sym at,
      )

  -- all have been seen, once one comes as the first did
  pub least_of : (n least : ℕ) → 0 < n → AreSeen may cycle flow n least → phase cycle flow.offset flow.period n ≡ phase cycle flow.offset flow.period 0
      → IsLeastWait may flow least
  least_of n least some h same = record {
    always = λ m s first.
        let w = any (suc m) m (omega arith) in
        let own = first_in m w.0 w.1 in
        let one = one_first may flow.shortest (window_of flow m).earliest s (w.0 + own.0) first own.1 in
        let low = w.2 in
        let at = own.2 in
        omega (arith, one, low, at);
    reached =
        let m : ℕ = h.reached.0 in
        let own = first_in m (phase cycle flow.offset flow.period m + least) h.reached.1 in
        let at = own.2 in
        let e : phase cycle flow.offset flow.period m + least + own.0 ≡ (window_of flow m).earliest + least = omega (arith, at) in
        (m, subst (IsFirst may flow.shortest (window_of flow m).earliest) e own.1);
  }
    where
      any : (fuel m : ℕ) → m < fuel → (s : ℕ) × IsFirst may flow.shortest (phase cycle flow.offset flow.period m) s
          × (phase cycle flow.offset flow.period m + least ≤ s)
      any zero m less = absurd (omega (arith, less))
      any (suc fuel) m less = elim (cases_lt m n) [
        | inl before ↦ h.each m before
        | inr after ↦
            let w = any fuel (m - n) (omega (arith, less, after, some)) in
            let e : m - n + n ≡ m = omega (arith, after) in
            let p : phase cycle flow.offset flow.period (m - n) ≡ phase cycle flow.offset flow.period m =
            sym (phase_again cycle flow.offset flow.period n (m - n) same) ∙ ap (phase cycle flow.offset flow.period) e in
            let low = w.2 in
            (w.0, subst (λ k. IsFirst may flow.shortest k w.0) p w.1, omega (arith, low, p))
      ]

-- ---- of a schedule

module _ (plan : Plan) (sound : IsSchedule plan) (class : ℕ) (flow : JitteredFlow) where
  some_cycle : 0 < in_ps plan.cycle
  some_cycle = (let above = sound.plan_is.cycle in omega (arith, above))

  pub stuck_at : (d from : ℕ) → None ≡ first_fit (may_by plan class) d from (in_ps plan.cycle) → IsStuck plan class d
  stuck_at d from is =
      none_ever (may_by plan class) (in_ps plan.cycle) d from some_cycle (λ k. by_repeats plan sound.plan_is.cycle class k) (sym is)

  pub first_at : (d from at : ℕ) → Some at ≡ first_fit (may_by plan class) d from (in_ps plan.cycle) → IsFirst (may_by plan class) d from at
  first_at d from at is = first_is (may_by plan class) d from (in_ps plan.cycle) at (sym is)

  pub all_least : (n least : ℕ) → 0 < n → AreSeen (may_by plan class) (in_ps plan.cycle) (periodic_of flow) n least
      → phase (in_ps plan.cycle) flow.offset flow.period n ≡ phase (in_ps plan.cycle) flow.offset flow.period 0
      → IsLeastWait (may_by plan class) (periodic_of flow) least
  all_least n least some h same =
      least_of (may_by plan class) (in_ps plan.cycle) some_cycle (λ k. by_repeats plan sound.plan_is.cycle class k) (periodic_of flow) n least
      some h same
