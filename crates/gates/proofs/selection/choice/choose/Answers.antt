use Rattle.std.proofs.Common.{sym, ◌∙◌, arith, le_refl, le_trans, refl}
use Rattle.gates.proofs.ChooseLaws.{left_first, asked_is, left_fewer, chosen_top, none_left}
use Rattle.gates.proofs.selection.choice.choose.Goals as goal

pub loop-left-init : goal.loop-left-init
loop-left-init g c = (left_first _ _ _ c.waits.result c.mask.result c.waits.ensures.marks c.waits.ensures.some c.mask.ensures, le_refl _, λ jumps. refl)

pub returns-then-stays_open-clause-choice : goal.returns-then-stays_open-clause-choice
returns-then-stays_open-clause-choice g c =
    let class = c.highest-class.ensures in
    let asked = asked_is (g.G.Gates.history c.args.gates.now) (g.G.Gates.moment c.args.gates.now) c.args.heads.now c.highest-class.result c.need.result (c.loop-left.invariant.0.waits c.highest-class.result class.within class.opens) c.need.ensures in
    sym (chosen_top (g.G.Gates.history c.args.gates.now) (g.G.Gates.moment c.args.gates.now) c.args.heads.now c.loop-left.left c.loop-left.invariant.0 c.highest-class.result class.within (asked ∙ (sym c.stays_open.ensures.stays ∙ c.if-stays_open.true)) class.highest)

pub loop-left-preserved : goal.loop-left-preserved
loop-left-preserved g c =
    let class = c.highest-class.ensures in
    let asked = asked_is (g.G.Gates.history c.args.gates.now) (g.G.Gates.moment c.args.gates.now) c.args.heads.now c.highest-class.result c.need.result (c.loop-left.invariant.0.waits c.highest-class.result class.within class.opens) c.need.ensures in (
      left_fewer (g.G.Gates.history c.args.gates.now) (g.G.Gates.moment c.args.gates.now) c.args.heads.now c.loop-left.left c.loop-left.invariant.0 c.highest-class.result c.without-left.result (asked ∙ (sym c.stays_open.ensures.stays ∙ c.if-stays_open.false)) c.without-left.ensures.same c.without-left.ensures.others,
      le_trans c.loop-left.invariant.1 c.stays_open.ensures.counted,
      λ jumps. c.stays_open.ensures.visits jumps ∙ c.loop-left.invariant.2 jumps,
    )

pub returns-clause-choice : goal.returns-clause-choice
returns-clause-choice g c = sym (none_left _ _ _ c.loop-left.left c.loop-left.invariant.0 (let done = c.loop-left-test.false in omega (arith, done)))
