use Rattle.std.proofs.Common.{◌≡◌, ℕ, true, inl, inr, sym, ap, ◌∙◌, subst, arith}
use Rattle.std.proofs.lemmas.Bool.{cases_lt}
use Rattle.gates.specs.Gate.{prefix}
use Rattle.gates.proofs.RowLaws.{prefix_next}
use Rattle.delay_bounds.specs.Walk.{may_by}
use Rattle.burst_bounds.proofs.rate.shut_at.Goals as goal

pub loop-i-preserved : goal.loop-i-preserved
loop-i-preserved c =
    let i : ℕ = c.loop-i.i in
    let plan = c.args.schedule.now in
    let inv = c.loop-i.invariant in
    let next = prefix_next plan.entries i c.entry.result c.entry.ensures.entry in
    let begins = inv.start in
    let few = inv.few in
    let from = c.from.ensures in
    record {
      start = omega arith;
      few = omega arith;
      shown = λ j less. elim (cases_lt j i) [
        | inl before ↦ inv.shown j before
        | inr here ↦
            let e : i ≡ j = omega (arith, here, less) in
            subst (λ k. may_by plan c.args.class (prefix plan.entries k) 1 ≡ true) e
            (ap (λ t. may_by plan c.args.class t 1) (sym begins) ∙ (sym c.is_slot.ensures ∙ c.if-not-is_slot.false))
      ];
    }
