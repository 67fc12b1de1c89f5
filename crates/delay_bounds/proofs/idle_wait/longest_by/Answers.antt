use Rattle.std.proofs.Common.{◌≡◌, ◌<◌, ◌≤◌, ◌+◌, ◌-◌, ◌*◌, ◌^◌, ℕ, Some, length, inl, inr, ap, ◌∙◌, sym, subst, arith}
use Rattle.std.proofs.lemmas.Bool.{cases_lt}
use Rattle.gates.specs.Gate.{in_ps, prefix}
use Rattle.gates.proofs.RowLaws.{prefix_next}
use Rattle.delay_bounds.specs.Bounds.{first_fit}
use Rattle.delay_bounds.specs.LongestWait.{wait_at}
use Rattle.delay_bounds.specs.Walk.{may_by}
use Rattle.delay_bounds.proofs.LongestWaitLaws.{late_for, late_within, longest_is}
use Rattle.delay_bounds.proofs.idle_wait.longest_by.Goals as goal

pub overflow_add-start : goal.overflow_add-start
overflow_add-start c =
    let few = c.loop-i.invariant.few in
    let in_list = c.loop-i-test.true in
    let count = c.len-i-end.ensures.within in
    let cycle = c.requires.sound.cycle in
    let is = c.cycle_ns.ensures.value in
    let whole = c.from-cycle.ensures in
    omega arith

pub overflow_add-start-in-loop-i : goal.overflow_add-start-in-loop-i
overflow_add-start-in-loop-i c =
    let few = c.loop-i.invariant.few in
    let in_list = c.loop-i-test.true in
    let count = c.len-i-end.ensures.within in
    let cycle = c.requires.sound.cycle in
    let is = c.cycle_ns.ensures.value in
    let whole = c.from-cycle.ensures in
    omega arith

pub wait_at-requires-clause-from : goal.wait_at-requires-clause-from
wait_at-requires-clause-from c =
    let few = c.loop-i.invariant.few in
    let in_list = c.loop-i-test.true in
    let count = c.len-i-end.ensures.within in
    let cycle = c.requires.sound.cycle in
    let is = c.cycle_ns.ensures.value in
    let whole = c.from-cycle.ensures in
    omega arith

pub loop-i-preserved : goal.loop-i-preserved
loop-i-preserved c =
    let i : ℕ = c.loop-i.i in
    let plan = c.args.schedule.now in
    let next = prefix_next plan.entries i c.entry.result c.entry.ensures.entry in
    let begins = c.loop-i.invariant.start in
    let few = c.loop-i.invariant.few in
    let is = c.cycle_ns.ensures.value in
    let whole = c.from-cycle.ensures in
    let from = c.from.ensures in
    let late : c.saturating_sub-late.result ≡ late_for plan c.args.length i = (let l = c.saturating_sub-late.ensures in omega arith) in
    let here = c.wait_at.ensures ∙ ap (λ t. wait_at (may_by plan c.args.class) (in_ps plan.cycle) c.args.length t) late in
    let most = c.max-longest.ensures in
    record {
      start = omega arith;
      few = omega arith;
      over = λ j less. elim (cases_lt j i) [
        | inl before ↦ (let so_far = c.loop-i.invariant.over j before in omega arith)
        | inr at ↦
            (let same : j ≡ i = omega arith in
            let now = ap (λ k. wait_at (may_by plan c.args.class) (in_ps plan.cycle) c.args.length (late_for plan c.args.length k)) same in
            omega arith)
      ];
      within = (let old = c.loop-i.invariant.within in let new = late_within plan c.args.class c.args.length c.requires.sound.plan_is.cycle (late_for plan c.args.length i) in omega arith);
    }

pub returns : goal.returns
returns c = longest_is c.args.schedule.now c.args.class c.args.length c.loop-i.longest c.loop-i.i c.requires.sound c.requires.some (let over = c.loop-i-test.false in let count = c.len-i-end.ensures.count in omega arith) c.loop-i.invariant.over c.loop-i.invariant.within
