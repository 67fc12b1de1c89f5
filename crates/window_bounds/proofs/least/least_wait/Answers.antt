use Rattle.std.proofs.Common.{◌≡◌, ◌<◌, ◌≤◌, ◌+◌, ◌-◌, ◌*◌, ◌/◌, ◌%◌, min, ◌^◌, ℕ, zero, suc, sym, ap, ◌∙◌, subst, arith}
use Rattle.std.proofs.Math.Nat.{div-add-mod, mod-lt}
use Rattle.gates.specs.Gate.{in_ps}
use Rattle.abstract_port.specs.Served.{IsFirst}
use Rattle.delay_bounds.specs.Walk.{may_by}
use Rattle.window_bounds.specs.Flows.{periodic_of}
use Rattle.window_bounds.specs.declared.JitteredFlow.{JitteredFlow}
use Rattle.window_bounds.proofs.LeastLaws.{AreSeen, all_least, first_at, phase, phase_next, phase_none, phase_whole, seen_more, seen_one, stuck_at}
use Rattle.window_bounds.proofs.least.least_wait.Goals as goal

pub returns-in_default : goal.returns-in_default
returns-in_default c =
    let plan = c.args.schedule.now in
    let class : ℕ = c.args.class in
    let f : JitteredFlow = c.args.flow in
    let value = c.cycle_ns.ensures.value in
    let same = c.from-cycle.ensures in
    let cycle : 1000 * c.from-cycle.result ≡ in_ps plan.cycle = omega (arith, value, same) in
    stuck_at plan c.requires.sound class f f.shortest (f.offset % (1000 * c.from-cycle.result)) (sym c.in_default.is ∙ c.fit.ensures.fit)

pub loop-n-init : goal.loop-n-init
loop-n-init c =
    let plan = c.args.schedule.now in
    let class : ℕ = c.args.class in
    let f : JitteredFlow = c.args.flow in
    let value = c.cycle_ns.ensures.value in
    let same = c.from-cycle.ensures in
    let cycle : 1000 * c.from-cycle.result ≡ in_ps plan.cycle = omega (arith, value, same) in
    let begin : f.offset % (1000 * c.from-cycle.result) ≡ phase (in_ps plan.cycle) f.offset f.period 0 =
    ap (λ k. f.offset % k) cycle ∙ sym (phase_none (in_ps plan.cycle) f.offset f.period) in
    let at = subst (λ u. IsFirst (may_by plan class) f.shortest u c.in-Some.at) begin
    (first_at plan c.requires.sound class f f.shortest (f.offset % (1000 * c.from-cycle.result)) c.in-Some.at c.in-Some.ensures.fit) in
    record {
      seen = subst (λ u. AreSeen (may_by plan class) (in_ps plan.cycle) (periodic_of f) 1 (c.in-Some.at - u)) (sym begin)
          (seen_one (may_by plan class) (in_ps plan.cycle) (periodic_of f) c.in-Some.at at);
      from = begin;
      some = omega arith;
    }

pub overflow_add-from : goal.overflow_add-from
overflow_add-from c =
    let plan = c.args.schedule.now in
    let class : ℕ = c.args.class in
    let f : JitteredFlow = c.args.flow in
    let value = c.cycle_ns.ensures.value in
    let same = c.from-cycle.ensures in
    let cycle : 1000 * c.from-cycle.result ≡ in_ps plan.cycle = omega (arith, value, same) in
    let above = c.requires.every.above in
    let inv = c.loop-n.invariant.from in
    let one = mod-lt (f.offset + f.period * (c.loop-n._n - 1)) above in
    let two : f.period % (1000 * c.from-cycle.result) < 1000 * c.from-cycle.result = mod-lt f.period (omega (arith, above, cycle)) in
    let small = c.requires.sound.cycle in
    let sum : c.loop-n.from + f.period % (1000 * c.from-cycle.result) < 2 ^ 128 = omega (arith, inv, one, two, cycle, small) in
    record { fits = sum }

pub returns-then-from-begin : goal.returns-then-from-begin
returns-then-from-begin c =
    let plan = c.args.schedule.now in
    let class : ℕ = c.args.class in
    let f : JitteredFlow = c.args.flow in
    let value = c.cycle_ns.ensures.value in
    let same = c.from-cycle.ensures in
    let cycle : 1000 * c.from-cycle.result ≡ in_ps plan.cycle = omega (arith, value, same) in
    let begin : f.offset % (1000 * c.from-cycle.result) ≡ phase (in_ps plan.cycle) f.offset f.period 0 =
    ap (λ k. f.offset % k) cycle ∙ sym (phase_none (in_ps plan.cycle) f.offset f.period) in
    let n : ℕ = c.loop-n._n in
    let some = c.loop-n.invariant.some in
    let back : n - 1 + 1 ≡ n = omega (arith, some) in
    let next : (c.loop-n.from + f.period % (1000 * c.from-cycle.result)) % (1000 * c.from-cycle.result)
    ≡ phase (in_ps plan.cycle) f.offset f.period n =
    ap (λ k. (c.loop-n.from + f.period % k) % k) cycle
    ∙ (ap (λ u. (u + f.period % in_ps plan.cycle) % in_ps plan.cycle) c.loop-n.invariant.from
    ∙ (phase_next (in_ps plan.cycle) f.offset f.period (n - 1) ∙ ap (phase (in_ps plan.cycle) f.offset f.period) back)) in
    let here = c.if-from-begin.true in
    all_least plan c.requires.sound class f n c.loop-n.least some c.loop-n.invariant.seen (sym next ∙ (here ∙ begin))

pub returns-in_default-fit : goal.returns-in_default-fit
returns-in_default-fit c =
    let plan = c.args.schedule.now in
    let class : ℕ = c.args.class in
    let f : JitteredFlow = c.args.flow in
    let value = c.cycle_ns.ensures.value in
    let same = c.from-cycle.ensures in
    let cycle : 1000 * c.from-cycle.result ≡ in_ps plan.cycle = omega (arith, value, same) in
    stuck_at plan c.requires.sound class f f.shortest
    ((c.loop-n.from + f.period % (1000 * c.from-cycle.result)) % (1000 * c.from-cycle.result))
    (sym c.in_default-fit.is ∙ c.fit-in-loop-n.ensures.fit)

pub loop-n-preserved : goal.loop-n-preserved
loop-n-preserved c =
    let plan = c.args.schedule.now in
    let class : ℕ = c.args.class in
    let f : JitteredFlow = c.args.flow in
    let value = c.cycle_ns.ensures.value in
    let same = c.from-cycle.ensures in
    let cycle : 1000 * c.from-cycle.result ≡ in_ps plan.cycle = omega (arith, value, same) in
    let n : ℕ = c.loop-n._n in
    let some = c.loop-n.invariant.some in
    let back : n - 1 + 1 ≡ n = omega (arith, some) in
    let next : (c.loop-n.from + f.period % (1000 * c.from-cycle.result)) % (1000 * c.from-cycle.result)
    ≡ phase (in_ps plan.cycle) f.offset f.period n =
    ap (λ k. (c.loop-n.from + f.period % k) % k) cycle
    ∙ (ap (λ u. (u + f.period % in_ps plan.cycle) % in_ps plan.cycle) c.loop-n.invariant.from
    ∙ (phase_next (in_ps plan.cycle) f.offset f.period (n - 1) ∙ ap (phase (in_ps plan.cycle) f.offset f.period) back)) in
    let u : ℕ = (c.loop-n.from + f.period % (1000 * c.from-cycle.result)) % (1000 * c.from-cycle.result) in
    let at = subst (λ k. IsFirst (may_by plan class) f.shortest k c.in-Some-fit.next) next
    (first_at plan c.requires.sound class f f.shortest u c.in-Some-fit.next c.in-Some-fit.ensures.fit) in
    let is : c.min-least.result ≡ min (c.in-Some-fit.next - phase (in_ps plan.cycle) f.offset f.period n) c.loop-n.least =
    c.min-least.ensures ∙ ap (λ k. min (c.in-Some-fit.next - k) c.loop-n.least) next in
    let on : n ≡ n + 1 - 1 = omega arith in
    record {
      seen = seen_more (may_by plan class) (in_ps plan.cycle) (periodic_of f) n c.loop-n.least c.min-least.result c.in-Some-fit.next
          c.loop-n.invariant.seen at is;
      from = next ∙ ap (phase (in_ps plan.cycle) f.offset f.period) on;
      some = omega arith;
    }

-- a product that isn't 0
positive : (p k e : ℕ) → p * k ≡ e → 0 < e → 1 ≤ k
positive p zero e is some = (let z : p * 0 ≡ 0 = omega arith in absurd (omega (arith, is, some, z)))
positive p (suc k) e is some = omega arith

pub returns : goal.returns
returns c =
    let plan = c.args.schedule.now in
    let class : ℕ = c.args.class in
    let f : JitteredFlow = c.args.flow in
    let value = c.cycle_ns.ensures.value in
    let same = c.from-cycle.ensures in
    let cycle : 1000 * c.from-cycle.result ≡ in_ps plan.cycle = omega (arith, value, same) in
    let r = c.requires.every in
    let n : ℕ = c.loop-n._n in
    let some = c.loop-n.invariant.some in
    let end = c.loop-n.auto._n-end in
    let done = c.loop-n-test.false in
    let parts = div-add-mod c.args.every f.period in
    let whole = r.periods in
    let lasts = r.lasts in
    let any : 1 ≤ c.args.every / f.period = positive f.period (c.args.every / f.period) c.args.every (omega (arith, parts, whole)) lasts in
    let last : n ≡ c.args.every / f.period = omega (arith, end, done, any) in
    all_least plan c.requires.sound class f n c.loop-n.least some c.loop-n.invariant.seen
    (ap (phase (in_ps plan.cycle) f.offset f.period) last ∙ phase_whole (in_ps plan.cycle) f.offset f.period c.args.every r.cycles r.periods)
