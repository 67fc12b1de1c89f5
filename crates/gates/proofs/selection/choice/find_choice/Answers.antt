use Rattle.std.proofs.Common.{sym, ap, ◌∙◌, arith, le_refl}
use Rattle.gates.proofs.IdleLaws.{idle_more, idle_choice, idle_longest}
use Rattle.gates.specs.Gate.{opens}
use Rattle.gates.proofs.TableLaws.{opens_none}
use Rattle.gates.proofs.ChooseLaws.{none_waits}
use Rattle.gates.proofs.WatchLaws.{idle_before, not_chosen, chosen_at}
use Rattle.gates.proofs.selection.choice.find_choice.Goals as goal

pub returns-then-waits-eq0-clause-none : goal.returns-then-waits-eq0-clause-none
returns-then-waits-eq0-clause-none g c =
    (c.requires.within, λ m from below. none_waits (g.G.Gates.history c.args.gates.now) m c.args.heads.now (λ class low. sym (c.waits.ensures.marks class low) ∙ (ap (λ mask. opens mask class) c.if-waits-eq0.true ∙ opens_none class)))

pub returns-then-until-now-clause-none : goal.returns-then-until-now-clause-none
returns-then-until-now-clause-none g c =
    let current = g.met.G.Gates.is_current c.args.gates.now c.requires.sound in
    let quiet = c.quiet-now.ensures.quiet in
    (c.if-until-now.true, idle_before _ _ _ current _ _ c.loop-now.invariant.3 c.quiet-now.result quiet)

pub returns-then-until-now-clause-visits : goal.returns-then-until-now-clause-visits
returns-then-until-now-clause-visits g c = λ jumps.
    let current = g.met.G.Gates.is_current c.args.gates.now c.requires.sound in
    let shorter = idle_longest _ _ _ current _ _ c.loop-now.invariant.3 in
    omega (arith, c.loop-now.invariant.5 jumps, c.quiet-now.ensures.visits jumps, shorter)

pub returns-then-until-now-clause-fewer : goal.returns-then-until-now-clause-fewer
returns-then-until-now-clause-fewer g c = λ jumps.
    let current = g.met.G.Gates.is_current c.args.gates.now c.requires.sound in
    let shorter = idle_longest _ _ _ current _ _ c.loop-now.invariant.3 in
    omega (arith, c.loop-now.invariant.5 jumps, c.quiet-now.ensures.visits jumps, shorter)

pub returns-in-Some-choose-clause-idle : goal.returns-in-Some-choose-clause-idle
returns-in-Some-choose-clause-idle g c =
    let current = g.met.G.Gates.is_current c.args.gates.now c.requires.sound in
    let quiet = c.quiet-now.ensures.quiet in
    idle_more _ _ _ current _ _ c.loop-now.invariant.3 _ _ c.quiet-now.result c.quiet-now.ensures.from quiet c.move_to.ensures.moment c.move_to.ensures.history

pub returns-in-Some-choose-clause-choice : goal.returns-in-Some-choose-clause-choice
returns-in-Some-choose-clause-choice g c =
    let current = g.met.G.Gates.is_current c.args.gates.now c.requires.sound in
    let quiet = c.quiet-now.ensures.quiet in
    let moved = idle_more _ _ _ current _ _ c.loop-now.invariant.3 _ _ c.quiet-now.result c.quiet-now.ensures.from quiet c.move_to.ensures.moment c.move_to.ensures.history in
    sym (idle_choice _ _ _ current _ _ moved _ (le_refl _)) ∙ (sym c.choose-in-loop-now.ensures.choice ∙ c.in-Some-choose.is)

pub returns-in-Some-choose-clause-visits : goal.returns-in-Some-choose-clause-visits
returns-in-Some-choose-clause-visits g c = λ jumps.
    let current = g.met.G.Gates.is_current c.args.gates.now c.requires.sound in
    let shorter = idle_longest _ _ _ current _ _ c.loop-now.invariant.3 in
    omega (arith, c.loop-now.invariant.5 jumps, c.quiet-now.ensures.visits jumps, c.move_to.ensures.visits jumps, c.choose-in-loop-now.ensures.visits jumps, shorter)

pub loop-now-preserved : goal.loop-now-preserved
loop-now-preserved g c =
    let current = g.met.G.Gates.is_current c.args.gates.now c.requires.sound in
    let quiet = c.quiet-now.ensures.quiet in
    let moved = idle_more _ _ _ current _ _ c.loop-now.invariant.3 _ _ c.quiet-now.result c.quiet-now.ensures.from quiet c.move_to.ensures.moment c.move_to.ensures.history in
    let at = c.move_to.ensures.moment in
    let counted = c.loop-now.invariant.4 in
    let before = c.if-until-now.false in (
      c.move_to.ensures.sound,
      sym at,
      omega (arith, before),
      moved,
      omega (arith, counted, c.quiet-now.ensures.counted, c.move_to.ensures.counted, c.choose-in-loop-now.ensures.counted),
      λ jumps. absurd (not_chosen _ _ c.choose-in-loop-now.ensures.choice c.in_default-choose.not-Some (
          let first = c.quiet-now.ensures.first jumps (omega (arith, before, c.search_end-end.ensures.reach)) in
          chosen_at _ _ _ current _ _ _ _ c.loop-now.invariant.3 moved c.quiet-now.result c.quiet-now.ensures.from at
          first)),
    )
