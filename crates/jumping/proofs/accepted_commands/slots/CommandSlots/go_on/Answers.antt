use Rattle.std.proofs.Common.{sym, subst}
use Rattle.jumping.specs.CommandWords.{plan_of, start_of, BeginsAtMost, Standing, Stands}
use Rattle.jumping.proofs.accepted_commands.slots.CommandSlots.go_on.Goals as goal

pub returns-clause-next : goal.returns-clause-next
returns-clause-next c = λ n e stands only.
    let stood = subst (λ (s : Standing). Stands s.commands.in_force s.commands.pending n s.position) (sym c.self.view_is) stands in
    let begun = subst (λ (s : Standing). BeginsAtMost (plan_of s.commands.in_force) (start_of s.commands.in_force) n s.commands.moment e) (sym c.self.view_is) only in
    c.go_on.ensures.next n e (rw c.self.invariant.1 stood) begun
