use Rattle.std.proofs.Common.{None, sym, subst}
use Rattle.jumping.specs.CommandWords.{plan_of, start_of, BeginsAtMost, Standing, Stands}
use Rattle.jumping.proofs.accepted_commands.slots.CommandSlots.move_alone.Goals as goal

pub returns-clause-next : goal.returns-clause-next
returns-clause-next c = λ n e stands only.
    c.go_alone.ensures.next n e
    (subst (λ (s : Standing). Stands s.commands.in_force None n s.position) (sym c.self.view_is) stands)
    (subst (λ (s : Standing). BeginsAtMost (plan_of s.commands.in_force) (start_of s.commands.in_force) n c.args.t e) (sym c.self.view_is) only)
