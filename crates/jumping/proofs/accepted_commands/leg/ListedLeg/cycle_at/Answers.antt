use Rattle.std.proofs.Common.{arith}
use Rattle.jumping.proofs.accepted_commands.leg.ListedLeg.cycle_at.Goals as goal

pub returns-clause-cycle : goal.returns-clause-cycle
returns-clause-cycle c = (c.cycle_at.ensures.placed c.args.self.now.start c.args.self.now.from c.requires.stands.1).next_is

pub returns-clause-onto : goal.returns-clause-onto
returns-clause-onto c = λ upto.
    let here = c.requires.stands.1 in
    let next_is = here.next_is in
    let length_is = here.length_is in
    let whole = c.cycle_at.ensures.whole 1 (omega (arith, upto, next_is, length_is)) in
    omega (arith, whole, next_is, length_is)
