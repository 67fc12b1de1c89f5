use Rattle.std.proofs.Common.{ap, sym, ◌∙◌}
use Rattle.jumping.specs.Words.{opens, ListedLeg, lent_leg, lent_rest}
use Rattle.jumping.proofs.ListedLaws.{alone_while, shut_here}
use Rattle.jumping.proofs.search.ListSearch.fits_at.Goals as goal

pub returns-in-None-clause-none : goal.returns-in-None-clause-none
returns-in-None-clause-none c = λ off class d there.
    let at : ListedLeg = record c.args.leg.now { from = c.args.from; position = c.args.position } in
    alone_while at (lent_rest c.args.self.now.rest.now) c.requires.ready (ap lent_leg c.in-None.is) class c.args.from d ∙ c.fits_alone.ensures.none off class d there

pub returns-else-opens_some-clause-none : goal.returns-else-opens_some-clause-none
returns-else-opens_some-clause-none c = λ off class d there.
    let at : ListedLeg = record c.args.leg.now { from = c.args.from; position = c.args.position } in
    let shut = c.opens_some.ensures off class d there in
    shut_here at (lent_rest c.args.self.now.rest.now) c.requires.ready c.requires.unended class d shut.0 (ap (λ mask. opens mask class) (sym c.mask.ensures) ∙ shut.1)
