use Rattle.std.proofs.Common.{◌≤◌, ◌∷◌, [], sym, ap, ◌∙◌, subst}
use Rattle.jumping.specs.CommandWords.{open_while, mask_in, DoFollow, from_of, lent_leg, stretch_of, stretch_in}
use Rattle.jumping.proofs.LegLaws.{open_last, open_through, shut_before}
use Rattle.jumping.proofs.accepted_commands.leg.Leg.stays_open_into.Goals as goal

pub returns-then-stays_open : goal.returns-then-stays_open
returns-then-stays_open c =
    let leg = c.args.self.now in
    let next = c.in-Some.next.now in
    let need = c.args.need in
    let is = ap lent_leg c.in-Some.is in
    let follows = subst (DoFollow leg) is c.requires.follows in
    let early = subst (λ m. m ≤ from_of next) (sym c.requires.at) follows.1 in
    let second = open_last next [] c.after.result c.stays_open-then-stays_open.result (c.requires.last next is) c.stays_open-then-stays_open.ensures in
    open_through leg (stretch_of next ∷ []) need (from_of next) follows.0 early
    c.from.result c.from.ensures c.before-in-Some.result c.before-in-Some.ensures c.stays_open-in-Some.result c.stays_open-in-Some.ensures c.if-stays_open.true
    c.from-then-stays_open.result c.from-then-stays_open.ensures c.after.result c.after.ensures c.stays_open-then-stays_open.result second
    ∙ ap (λ o. open_while (mask_in (stretch_of leg ∷ stretch_in o)) need.class need.from need.length) (sym is)

pub returns-else-stays_open : goal.returns-else-stays_open
returns-else-stays_open c =
    let leg = c.args.self.now in
    let next = c.in-Some.next.now in
    let need = c.args.need in
    let is = ap lent_leg c.in-Some.is in
    let follows = subst (DoFollow leg) is c.requires.follows in
    let early = subst (λ m. m ≤ from_of next) (sym c.requires.at) follows.1 in
    shut_before leg (stretch_of next ∷ []) need (from_of next) follows.0 early
    c.from.result c.from.ensures c.before-in-Some.result c.before-in-Some.ensures c.stays_open-in-Some.result c.stays_open-in-Some.ensures c.if-stays_open.false
    ∙ ap (λ o. open_while (mask_in (stretch_of leg ∷ stretch_in o)) need.class need.from need.length) (sym is)
