use Rattle.std.proofs.Common.{refl, sym, ◌∙◌, subst, arith}
use Rattle.jumping.specs.Words.{IsShownAt}
use Rattle.jumping.proofs.RoundLaws.{left_first, left_timed, left_fits, left_fewer, left_none, open_place}
use Rattle.jumping.proofs.alone.some_fits.Goals as goal

pub loop-left-init : goal.loop-left-init
loop-left-init c = left_first c.args.schedule.now c.args.heads.now c.args.place.at c.args.asked c.requires.asked

pub stays_open-requires-clause-some : goal.stays_open-requires-clause-some
stays_open-requires-clause-some c =
    let class = c.highest-class.ensures in
    left_timed c.args.schedule.now c.args.heads.now c.args.place.at c.loop-left.left c.loop-left.invariant c.highest-class.result c.need.result class.within class.opens c.need.ensures c.args.asked c.requires.asked

pub stays_open-requires-clause-within : goal.stays_open-requires-clause-within
stays_open-requires-clause-within c =
    let begun = c.requires.place.shown.begun in
    let start = c.requires.place.start_is in
    let inside = c.requires.within in
    omega (arith, begun, start, inside)

pub stays_open-requires-clause-shown : goal.stays_open-requires-clause-shown
stays_open-requires-clause-shown c =
    let begun = c.requires.place.shown.begun in
    let start = c.requires.place.start_is in
    subst (λ p. IsShownAt c.args.schedule.now.entries p c.args.place.index) (omega (arith, begun, start)) c.requires.place.shown

pub returns-then-stays_open-clause-some : goal.returns-then-stays_open-clause-some
returns-then-stays_open-clause-some c = λ on.
    let class = c.highest-class.ensures in
    let stays = open_place c.args.schedule.now c.args.place c.requires.place c.highest-class.result c.need.result _ c.stays_open.result refl c.stays_open.ensures in
    left_fits c.args.schedule.now c.args.heads.now c.args.place.at c.loop-left.left c.loop-left.invariant c.highest-class.result c.need.result class.within class.opens c.need.ensures (sym stays ∙ c.if-stays_open.true)

pub loop-left-preserved : goal.loop-left-preserved
loop-left-preserved c =
    let class = c.highest-class.ensures in
    let stays = open_place c.args.schedule.now c.args.place c.requires.place c.highest-class.result c.need.result _ c.stays_open.result refl c.stays_open.ensures in
    left_fewer c.args.schedule.now c.args.heads.now c.args.place.at c.loop-left.left c.loop-left.invariant c.highest-class.result c.need.result class.within class.opens c.need.ensures
    c.without-left.result c.requires.asked.count (sym stays ∙ c.if-stays_open.false) c.without-left.ensures.same c.without-left.ensures.others

pub returns-clause-none : goal.returns-clause-none
returns-clause-none c = λ off. left_none c.args.schedule.now c.args.heads.now c.args.place.at c.loop-left.left c.loop-left.invariant (let done = c.loop-left-test.false in omega (arith, done))
