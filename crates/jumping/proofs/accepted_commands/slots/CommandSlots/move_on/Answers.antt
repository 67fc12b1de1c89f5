use Rattle.std.proofs.Common.{sym, subst}
use Rattle.jumping.specs.CommandWords.{plan_of, start_of, BeginsAtMost, Commands, Stands}
use Rattle.jumping.proofs.accepted_commands.slots.CommandSlots.move_on.Goals as goal

pub returns-then-is_alone_until-clause-next : goal.returns-then-is_alone_until-clause-next
returns-then-is_alone_until-clause-next c = λ e none only.
    let old = c.args.self.now.commands in
    let new = c.pass.new.self in
    let passed = c.pass.ensures.value in
    c.go_on.ensures.next old.moment e
    (subst (λ (k : Commands). Stands k.in_force k.pending old.moment new.position) (sym passed) (subst (Stands old.in_force old.pending old.moment) (sym c.pass.ensures.position) c.requires.stands))
    (subst (λ (k : Commands). BeginsAtMost (plan_of k.in_force) (start_of k.in_force) old.moment k.moment e) (sym passed) only)
