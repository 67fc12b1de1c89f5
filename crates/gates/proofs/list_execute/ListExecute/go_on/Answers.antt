use Rattle.std.proofs.Common.{refl, ap, ◌∙◌, arith}
use Rattle.gates.proofs.RowLaws.{prefix_next}
use Rattle.gates.specs.Walk.{Walk}
use Rattle.gates.proofs.WalkLaws.{until_unless, mask_of_shown}
use Rattle.gates.proofs.list_execute.ListExecute.go_on.Goals as goal
use Rattle.gates.proofs.list_execute.ListExecute.go_on.Goals.{then-loop-index-test+else-end_after-moment, else-loop-index-test}

pub loop-index-preserved : goal.loop-index-preserved
loop-index-preserved c =
    let now = c.loop-index.invariant in
    let ends = prefix_next c.args.schedule.now.entries c.loop-index.index c.loop-index.entry now.entry in
    let end = c.end_after-start.ensures.value in
    let same = c.end_after.ensures.value in
    let bound = c.end_after-start.ensures.bound in
    let by = c.if-end_after-moment.true in
    let more = c.loop-index-test.true in
    let at = now.start in
    let within = now.within in
    let after = now.after in
    let counted = now.counted in
    let onward = now.onward in
    let visit = c.entry_of-entry-in-loop-index.ensures.visit in
    record {
      listed = omega (arith, more);
      start = omega (arith, end, ends, at);
      within = omega (arith, bound, within);
      entry = c.entry_of-entry-in-loop-index.ensures.entry;
      begun = omega (arith, by, same, ends, at);
      after = omega (arith, after);
      counted = omega (arith, after, counted, visit);
      onward = omega (arith, onward, visit);
    }

pub returns-clause-entry : goal.returns-clause-entry
returns-clause-entry c =
    let plan = c.args.schedule.now in
    let now = c.loop-index.invariant in
    let few = now.listed in
    let count = c.len-last.ensures.count in
    let some = c.requires.shown.listed in
    rw (← c.self.view_is) record {
      listed = omega (arith, few, count, some);
      began_then = refl;
      index_is = refl;
      start_is = now.start;
      until_is = until_unless plan.entries c.self.inside.began c.loop-index.index c.loop-index.start _ c.loop-index.entry now.entry (omega (arith, few)) (omega (arith, count, some)) now.start;
      entry_is = now.entry;
      unheld = ap (λ (walk : Walk). walk.held) c.self.view_is ∙ c.requires.shown.unheld;
    }

pub returns-clause-phase : goal.returns-clause-phase
returns-clause-phase c =
    let plan = c.args.schedule.now in
    let now = c.loop-index.invariant in
    let few = now.listed in
    let count = c.len-last.ensures.count in
    let some = c.requires.shown.listed in
    record {
      within = omega (arith, few, count, some);
      begun = now.begun;
      before_next = λ next. elim c.loop-index-test.branch [
        | then-loop-index-test+else-end_after-moment w ↦
            (let ends = prefix_next plan.entries c.loop-index.index c.loop-index.entry now.entry in
            let end = w.end_after.ensures.value in
            let ahead = w.if-end_after-moment.false in
            let at = now.start in
            omega (arith, ends, end, ahead, at))
        | else-loop-index-test w ↦ absurd (let last = w.loop-index-test.false in omega (arith, last, next, count))
      ];
    }

pub returns-clause-mask : goal.returns-clause-mask
returns-clause-mask c = mask_of_shown c.args.schedule.now c.args.self.now.began c.loop-index.index c.args.phase _ (returns-clause-entry c) (returns-clause-phase c)
