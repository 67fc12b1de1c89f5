use Rattle.std.proofs.Common.{◌≤◌, ◌-◌, ap, sym, ◌∙◌, subst, arith}
use Rattle.gates.specs.Gate.{IsShownAt, has_come}
use Rattle.gates.specs.Walk.{ShowsEntry}
use Rattle.jumping.proofs.PositionLaws.{entry_at, held_still, next_cycle, next_on, shows_list}
use Rattle.jumping.proofs.list_position.Position.go_on.Goals as goal

pub returns-then-has_come-clause-placed : goal.returns-then-has_come-clause-placed
returns-then-has_come-clause-placed c =
    let stood = c.requires.stood in
    let on = ap (has_come c.args.held_from) (sym c.started.ensures.value) ∙ (sym c.has_come.ensures ∙ c.if-has_come.true) in
    held_still c.args.schedule.now c.requires.sound c.args.start c.args.held_from stood.0 c.args.self.now stood.2 on c.args.t stood.1

pub jump_to-requires-clause-begun : goal.jump_to-requires-clause-begun
jump_to-requires-clause-begun c =
    let stood = c.requires.stood in
    let at = stood.2.started_is in
    let begun = stood.2.begun in
    let upto : stood.0 ≤ c.args.t = stood.1 in
    omega (arith, at, begun, upto)

pub jump_to-requires-clause-held : goal.jump_to-requires-clause-held
jump_to-requires-clause-held c = c.requires.stood.2.held_at

pub jump_to-requires-clause-last : goal.jump_to-requires-clause-last
jump_to-requires-clause-last c = c.requires.stood.2.last_is

pub returns-then-next_start-t-clause-next : goal.returns-then-next_start-t-clause-next
returns-then-next_start-t-clause-next c = λ n e placed only.
    let off = ap (has_come c.args.held_from) (sym c.started.ensures.value) ∙ (sym c.has_come.ensures ∙ c.if-has_come.false) in
    let at = c.next_start.ensures.value in
    let come = c.if-next_start-t.true in
    next_cycle c.args.schedule.now c.requires.sound c.args.start c.args.held_from n c.args.t e c.args.self.now c.jump_to.new.self placed c.jump_to.ensures.placed off (omega (arith, at, come)) only
    c.args.visits.now c.jump_to.new.visits c.jump_to.ensures.held c.jump_to.ensures.listed

pub go_on-requires-clause-shown : goal.go_on-requires-clause-shown
go_on-requires-clause-shown c =
    let stood = c.requires.stood in
    let off = ap (has_come c.args.held_from) (sym c.started.ensures.value) ∙ (sym c.has_come.ensures ∙ c.if-has_come.false) in
    let shows = (shows_list c.args.schedule.now c.requires.sound c.args.start c.args.held_from stood.0 c.args.self.now stood.2 off).shows in
    subst (λ k. ShowsEntry c.args.schedule.now k c.args.self.now.walk.index c.args.self.now.walk) (sym shows.began_then) shows

pub go_on-requires-clause-begun : goal.go_on-requires-clause-begun
go_on-requires-clause-begun c =
    let stood = c.requires.stood in
    let off = ap (has_come c.args.held_from) (sym c.started.ensures.value) ∙ (sym c.has_come.ensures ∙ c.if-has_come.false) in
    let shown = (shows_list c.args.schedule.now c.requires.sound c.args.start c.args.held_from stood.0 c.args.self.now stood.2 off).shown in
    let begun = shown.begun in
    let upto : stood.0 ≤ c.args.t = stood.1 in
    let at = c.started-2.ensures.value in
    omega (arith, begun, upto, at)

pub returns-clause-placed : goal.returns-clause-placed
returns-clause-placed c =
    let stood = c.requires.stood in
    let off = ap (has_come c.args.held_from) (sym c.started.ensures.value) ∙ (sym c.has_come.ensures ∙ c.if-has_come.false) in
    let at = c.next_start.ensures.value in
    let before = c.if-next_start-t.false in
    entry_at c.args.schedule.now c.requires.sound c.args.start c.args.held_from stood.0 c.args.self.now stood.2 off c.args.t stood.1 (omega (arith, at, before)) c.go_on.new.self c.go_on.ensures.entry
    (subst (λ s. IsShownAt c.args.schedule.now.entries (c.args.t - s) c.go_on.new.self.index) c.started-2.ensures.value c.go_on.ensures.phase)

pub returns-clause-next : goal.returns-clause-next
returns-clause-next c = λ n e placed only.
    let stood = c.requires.stood in
    let off = ap (has_come c.args.held_from) (sym c.started.ensures.value) ∙ (sym c.has_come.ensures ∙ c.if-has_come.false) in
    let at = c.next_start.ensures.value in
    let before = c.if-next_start-t.false in
    let begun = stood.2.begun in
    let upto : stood.0 ≤ c.args.t = stood.1 in
    let few = next_on c.args.schedule.now c.requires.sound c.args.start c.args.held_from n c.args.self.now placed off c.args.t e (omega (arith, begun, upto)) (omega (arith, at, before)) only c.go_on.new.self.index
    (subst (λ s. IsShownAt c.args.schedule.now.entries (c.args.t - s) c.go_on.new.self.index) c.started-2.ensures.value c.go_on.ensures.phase) in
    let visits = c.go_on.ensures.visits in
    omega (arith, few, visits)
