use Rattle.std.proofs.Common.{◌≡◌, ◌+◌, ◌-◌, ℕ, true, false, sym, subst, arith}
use Rattle.std.proofs.lemmas.Bool.{both_ways}
use Rattle.gates.specs.Gate.{in_ps, prefix}
use Rattle.gates.proofs.RowLaws.{prefix_next}
use Rattle.delay_bounds.specs.Walk.{may_by}
use Rattle.burst_bounds.specs.Reach.{AreWindowsSeen, IsWindowSeen}
use Rattle.burst_bounds.proofs.WindowSeenLaws.{no_more, one_more}
use Rattle.burst_bounds.proofs.moments.with_windows.Goals as goal
use Rattle.burst_bounds.proofs.moments.with_windows.Goals.{then-ends_window+in-Ok, else-ends_window}

pub loop-i-preserved : goal.loop-i-preserved
loop-i-preserved g c =
    let i : ℕ = c.loop-i.i in
    let plan = c.args.schedule.now in
    let inv = c.loop-i.invariant in
    let next = prefix_next plan.entries i c.entry.result c.entry.ensures.entry in
    let begins = inv.end in
    let few = inv.few in
    let from = c.from.ensures in
    record {
      end = omega arith;
      few = omega arith;
      seen = elim c.if-ends_window.branch [
        | then-ends_window+in-Ok w ↦
            subst (AreWindowsSeen plan c.args.class c.args.need c.args.moments.now c.args.repeat (i + 1) c.args.bounds.now)
            (sym w.bounds-is)
            (one_more plan c.args.class c.args.need c.args.moments.now c.args.repeat c.args.bounds.now i c.loop-i.bounds
            w.with_window.new.bounds inv.seen
            (subst (λ e. IsWindowSeen plan c.args.class c.args.need e c.args.moments.now c.args.repeat c.loop-i.bounds
            w.with_window.new.bounds) begins w.in-Ok.ensures.seen))
        | else-ends_window w ↦
            let none : may_by plan c.args.class (in_ps plan.cycle + prefix plan.entries i) 1 ≡ false → may_by plan c.args.class
            (in_ps plan.cycle + prefix plan.entries i - 1) 1 ≡ true → ⊥ =
            λ shut opened. both_ways c.ends_window.result w.if-ends_window.false
            (c.ends_window.ensures.1 (
              subst (λ e. may_by plan c.args.class e 1 ≡ false) (sym begins) shut,
              subst
                  (λ e. may_by plan c.args.class (e - 1) 1 ≡ true) (sym begins) opened,
            ))
            in
            subst (AreWindowsSeen plan c.args.class c.args.need c.args.moments.now c.args.repeat (i + 1) c.args.bounds.now)
            (sym w.bounds-is)
            (no_more plan c.args.class c.args.need c.args.moments.now c.args.repeat c.args.bounds.now i c.loop-i.bounds inv.seen none)
      ];
    }
