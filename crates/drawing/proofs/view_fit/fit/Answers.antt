use Rattle.std.proofs.Common.{refl, ap, ◌∙◌, arith, rules, subst}
use Rattle.drawing.specs.Words.{IsJoined, shape_count}
use Rattle.drawing.proofs.view_fit.fit.Goals as goal

pub overflow_add-count : goal.overflow_add-count
overflow_add-count g c = omega (arith, c.count_bands.ensures.within, c.count.ensures.within)

pub returns-then-count-gt-MOST_APART-clause-few : goal.returns-then-count-gt-MOST_APART-clause-few
returns-then-count-gt-MOST_APART-clause-few g c = λ few.
    let all = c.count.ensures.value ∙ ap shape_count c.shapes.ensures in
    absurd (omega (arith, few, c.if-count-gt-MOST_APART.true, c.count_bands.ensures.value, all))

pub returns-then-count-gt-MOST_APART-clause-shapes : goal.returns-then-count-gt-MOST_APART-clause-shapes
returns-then-count-gt-MOST_APART-clause-shapes g c = λ many.
    subst (λ pixel. IsJoined pixel c.args.course.now.shown c.join.new.self.shown) c.pixel.ensures c.join.ensures.shown

pub returns-else-count-gt-MOST_APART-clause-few : goal.returns-else-count-gt-MOST_APART-clause-few
returns-else-count-gt-MOST_APART-clause-few g c = λ few. refl

pub returns-else-count-gt-MOST_APART-clause-shapes : goal.returns-else-count-gt-MOST_APART-clause-shapes
returns-else-count-gt-MOST_APART-clause-shapes g c = λ many.
    let all = c.count.ensures.value ∙ ap shape_count c.shapes.ensures in
    absurd (omega (arith, many, c.if-count-gt-MOST_APART.false, c.count_bands.ensures.value, all))

pub count_bands-requires : goal.count_bands-requires
count_bands-requires g c = search

pub shapes-requires : goal.shapes-requires
shapes-requires g c = search rules

pub count-requires : goal.count-requires
count-requires g c = search rules

pub pixel-requires : goal.pixel-requires
pixel-requires g c = search

pub join-requires : goal.join-requires
join-requires g c = search
