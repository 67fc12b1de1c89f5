use Rattle.std.proofs.Common.{◌≡◌, length, ap, sym, ◌∙◌, arith, le_refl}
use Rattle.drawing.specs.Words.{bands_to}
use Rattle.drawing.proofs.CountLaws.{next_bands, no_bands_yet}
use Rattle.drawing.proofs.view_fit.count_bands.Goals as goal

pub loop-class-init : goal.loop-class-init
loop-class-init g c = record { value = sym (no_bands_yet c.args.bands.now.classes c.args.bands.now.mixed); within = le_refl 0 }

pub loop-class-preserved : goal.loop-class-preserved
loop-class-preserved g c =
    let i = c.loop-class.invariant in
    let more = next_bands c.loop-class.class c.args.bands.now.classes c.args.bands.now.mixed in
    let here = ap length c.lane.ensures.value in
    let there = ap length c.mixed.ensures.value in
    record { value = omega (arith, i.value, more, here, there); within = omega (arith, i.within, c.lane.ensures.few, c.mixed.ensures.few) }

pub lane-requires : goal.lane-requires
lane-requires g c = (search, c.loop-class-test.true)

pub mixed-requires : goal.mixed-requires
mixed-requires g c = (search, c.loop-class-test.true)

pub overflow_add-count : goal.overflow_add-count
overflow_add-count g c = omega (arith, c.loop-class.invariant.within, c.lane.ensures.few, c.mixed.ensures.few, c.loop-class-test.true)

pub returns-clause-value : goal.returns-clause-value
returns-clause-value g c =
    let all : c.loop-class.class ≡ 8 = omega (arith, c.loop-class-test.false, c.loop-class.auto.class-end) in
    c.loop-class.invariant.value ∙ ap (λ n. bands_to n c.args.bands.now.classes c.args.bands.now.mixed) all

pub returns-clause-within : goal.returns-clause-within
returns-clause-within g c = omega (arith, c.loop-class.invariant.within, c.loop-class.auto.class-end)
