use Rattle.std.proofs.Common.{◌≡◌, ◌-◌, Bool, true, false, ◌&&◌, ◌||◌, nat_le, Some, refl, sym, ap, ◌∙◌}
use Rattle.std.proofs.lemmas.Bool.{le-leb, lt-leb}
use Rattle.gates.specs.Gate.{last_mask, opens}
use Rattle.jumping.proofs.PositionLaws.{placed_hold, open_both}
use Rattle.jumping.proofs.list_position.Position.stays_open_to_hold.Goals as goal

or_true : (a b : Bool) → a ≡ true → (a || b) ≡ a
or_true true b e = refl
or_true false b e = cc

pub returns-then-need-left : goal.returns-then-need-left
returns-then-need-left c = λ start placed.
    let plan = c.args.schedule.now in
    let sound = c.requires.sound in
    let left = c.args.held_from - c.args.need.from in
    let off = sym (placed_hold plan sound start (Some c.args.held_from) c.args.need.from c.args.self.now placed) ∙ lt-leb c.args.held_from c.args.need.from c.requires.ahead in
    let listed = c.entry_stays_open-listed.ensures start (Some c.args.held_from) placed off in
    sym (open_both plan sound start (Some c.args.held_from) c.args.need.from c.args.self.now placed off c.args.held_from refl c.args.need.class c.args.need.length c.min.result c.entry_stays_open-listed.result c.min.ensures listed
    ∙ (ap (λ b. b && (nat_le c.args.need.length left || opens (last_mask plan.entries) c.args.need.class)) c.if-listed.true
    ∙ or_true (nat_le c.args.need.length left) _ (le-leb c.args.need.length left c.if-need-left.true)))

pub returns-else-need-left : goal.returns-else-need-left
returns-else-need-left c = λ start placed.
    let plan = c.args.schedule.now in
    let sound = c.requires.sound in
    let left = c.args.held_from - c.args.need.from in
    let off = sym (placed_hold plan sound start (Some c.args.held_from) c.args.need.from c.args.self.now placed) ∙ lt-leb c.args.held_from c.args.need.from c.requires.ahead in
    let listed = c.entry_stays_open-listed.ensures start (Some c.args.held_from) placed off in
    sym (open_both plan sound start (Some c.args.held_from) c.args.need.from c.args.self.now placed off c.args.held_from refl c.args.need.class c.args.need.length c.min.result c.entry_stays_open-listed.result c.min.ensures listed
    ∙ (ap (λ b. b && (nat_le c.args.need.length left || opens (last_mask plan.entries) c.args.need.class)) c.if-listed.true
    ∙ (ap (λ b. b || opens (last_mask plan.entries) c.args.need.class) (lt-leb c.args.need.length left c.if-need-left.false)
    ∙ (ap (λ m. opens m c.args.need.class) (sym placed.last_is) ∙ sym c.is_open.ensures))))

pub returns-else-listed : goal.returns-else-listed
returns-else-listed c = λ start placed.
    let plan = c.args.schedule.now in
    let sound = c.requires.sound in
    let left = c.args.held_from - c.args.need.from in
    let off = sym (placed_hold plan sound start (Some c.args.held_from) c.args.need.from c.args.self.now placed) ∙ lt-leb c.args.held_from c.args.need.from c.requires.ahead in
    let listed = c.entry_stays_open-listed.ensures start (Some c.args.held_from) placed off in
    sym (open_both plan sound start (Some c.args.held_from) c.args.need.from c.args.self.now placed off c.args.held_from refl c.args.need.class c.args.need.length c.min.result c.entry_stays_open-listed.result c.min.ensures listed
    ∙ (ap (λ b. b && (nat_le c.args.need.length left || opens (last_mask plan.entries) c.args.need.class)) c.if-listed.false ∙ sym c.if-listed.false))
