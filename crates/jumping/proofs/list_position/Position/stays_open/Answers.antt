use Rattle.std.proofs.Common.{◌<◌, Some, ap, sym, ◌∙◌, arith}
use Rattle.std.proofs.lemmas.Bool.{le-leb}
use Rattle.gates.specs.Gate.{has_come, mask_since, opens}
use Rattle.gates.specs.Open.{open_while}
use Rattle.gates.proofs.OpenLaws.{open_from}
use Rattle.jumping.proofs.PositionLaws.{open_held, placed_hold, placed_mask, shut_now}
use Rattle.jumping.proofs.list_position.Position.stays_open.Goals as goal

pub returns-then-need-eq0 : goal.returns-then-need-eq0
returns-then-need-eq0 c = λ start placed.
    let plan = c.args.schedule.now in
    let none = c.if-need-eq0.true in
    let mask = mask_since (Some plan) start c.args.held_from in
    sym (ap (open_while mask c.args.need.class c.args.need.from) none ∙ open_from mask c.args.need.class c.args.need.from 0 (λ i from below. absurd (omega arith)))

pub returns-in-None : goal.returns-in-None
returns-in-None c = λ start placed.
    let plan = c.args.schedule.now in
    c.entry_stays_open.ensures start c.args.held_from placed (ap (λ t. has_come t c.args.self.now.timer.started) c.in-None.is)
    ∙ ap (λ t. open_while (mask_since (Some plan) start t) c.args.need.class c.args.need.from c.args.need.length) (sym c.in-None.is)

pub returns-then-held_from-need : goal.returns-then-held_from-need
returns-then-held_from-need c = λ start placed.
    let plan = c.args.schedule.now in
    let sound = c.requires.sound in
    let come = ap (λ t. has_come t c.args.need.from) c.in-Some.is ∙ le-leb c.in-Some.held_from c.args.need.from c.if-held_from-need.true in
    let on = sym (placed_hold plan sound start c.args.held_from c.args.need.from c.args.self.now placed) ∙ come in
    let nonzero = c.if-need-eq0.false in
    let some : 0 < c.args.need.length = omega (arith, nonzero) in
    c.is_open-then-held_from-need.ensures
    ∙ (ap (λ m. opens m c.args.need.class) placed.last_is
    ∙ sym (open_held plan sound start c.args.held_from c.args.need.from c.args.self.now placed on c.args.need.class c.args.need.length some))

pub returns-then-not-is_open : goal.returns-then-not-is_open
returns-then-not-is_open c = λ start placed.
    let plan = c.args.schedule.now in
    let need = c.args.need in
    let nonzero = c.if-need-eq0.false in
    let shown = c.mask.ensures ∙ placed_mask plan c.requires.sound start c.args.held_from need.from c.args.self.now placed in
    let shut = sym c.is_open.ensures ∙ c.if-not-is_open.true in
    sym (shut_now (mask_since (Some plan) start c.args.held_from) need.class need.from need.length (omega (arith, nonzero)) (ap (λ m. opens m need.class) (sym shown) ∙ shut))
