use Rattle.std.proofs.Common.{[], ◌∷◌, refl}
use Rattle.stream_bounds.proofs.SharedLaws.{answered_below}
use Rattle.stream_bounds.proofs.answers.all_answers.Goals as goal

pub returns-clause-answers : goal.returns-clause-answers
returns-clause-answers c =
    let from_7 = answered_below c.args.settings.now c.args.change.now c.args.table.now 7 c.in_ok-g.g.answer c.in_ok-g.g.standing
    ([]) ([])
    refl c.in_ok-g.ensures.standing c.in_ok-g.ensures.answer tt in
    let from_6 = answered_below c.args.settings.now c.args.change.now c.args.table.now 6 c.in_ok-f.f.answer c.in_ok-f.f.standing
    (c.in_ok-g.g.standing ∷ []) (c.in_ok-g.g.answer ∷ [])
    from_7.1 c.in_ok-f.ensures.standing c.in_ok-f.ensures.answer from_7.0 in
    let from_5 = answered_below c.args.settings.now c.args.change.now c.args.table.now 5 c.in_ok-e.e.answer c.in_ok-e.e.standing
    (c.in_ok-f.f.standing ∷ c.in_ok-g.g.standing ∷ []) (c.in_ok-f.f.answer ∷ c.in_ok-g.g.answer ∷ [])
    from_6.1 c.in_ok-e.ensures.standing c.in_ok-e.ensures.answer from_6.0 in
    let from_4 = answered_below c.args.settings.now c.args.change.now c.args.table.now 4 c.in_ok-d.d.answer c.in_ok-d.d.standing
    (c.in_ok-e.e.standing ∷ c.in_ok-f.f.standing ∷ c.in_ok-g.g.standing ∷ []) (c.in_ok-e.e.answer ∷ c.in_ok-f.f.answer ∷ c.in_ok-g.g.answer ∷ [])
    from_5.1 c.in_ok-d.ensures.standing c.in_ok-d.ensures.answer from_5.0 in
    let from_3 = answered_below c.args.settings.now c.args.change.now c.args.table.now 3 c.in_ok-c.c.answer c.in_ok-c.c.standing
    (c.in_ok-d.d.standing ∷ c.in_ok-e.e.standing ∷ c.in_ok-f.f.standing ∷ c.in_ok-g.g.standing ∷ []) (c.in_ok-d.d.answer ∷ c.in_ok-e.e.answer ∷ c.in_ok-f.f.answer ∷ c.in_ok-g.g.answer ∷ [])
    from_4.1 c.in_ok-c.ensures.standing c.in_ok-c.ensures.answer from_4.0 in
    let from_2 = answered_below c.args.settings.now c.args.change.now c.args.table.now 2 c.in_ok-b.b.answer c.in_ok-b.b.standing
    (c.in_ok-c.c.standing ∷ c.in_ok-d.d.standing ∷ c.in_ok-e.e.standing ∷ c.in_ok-f.f.standing ∷ c.in_ok-g.g.standing ∷ []) (c.in_ok-c.c.answer ∷ c.in_ok-d.d.answer ∷ c.in_ok-e.e.answer ∷ c.in_ok-f.f.answer ∷ c.in_ok-g.g.answer ∷ [])
    from_3.1 c.in_ok-b.ensures.standing c.in_ok-b.ensures.answer from_3.0 in
    let from_1 = answered_below c.args.settings.now c.args.change.now c.args.table.now 1 c.in_ok-a.a.answer c.in_ok-a.a.standing
    (c.in_ok-b.b.standing ∷ c.in_ok-c.c.standing ∷ c.in_ok-d.d.standing ∷ c.in_ok-e.e.standing ∷ c.in_ok-f.f.standing ∷ c.in_ok-g.g.standing ∷ []) (c.in_ok-b.b.answer ∷ c.in_ok-c.c.answer ∷ c.in_ok-d.d.answer ∷ c.in_ok-e.e.answer ∷ c.in_ok-f.f.answer ∷ c.in_ok-g.g.answer ∷ [])
    from_2.1 c.in_ok-a.ensures.standing c.in_ok-a.ensures.answer from_2.0 in
    let from_0 = answered_below c.args.settings.now c.args.change.now c.args.table.now 0 c.in_ok-z.z.answer c.in_ok-z.z.standing
    (c.in_ok-a.a.standing ∷ c.in_ok-b.b.standing ∷ c.in_ok-c.c.standing ∷ c.in_ok-d.d.standing ∷ c.in_ok-e.e.standing ∷ c.in_ok-f.f.standing ∷ c.in_ok-g.g.standing ∷ []) (c.in_ok-a.a.answer ∷ c.in_ok-b.b.answer ∷ c.in_ok-c.c.answer ∷ c.in_ok-d.d.answer ∷ c.in_ok-e.e.answer ∷ c.in_ok-f.f.answer ∷ c.in_ok-g.g.answer ∷ [])
    from_1.1 c.in_ok-z.ensures.standing c.in_ok-z.ensures.answer from_1.0 in
    (refl, from_0.0)
