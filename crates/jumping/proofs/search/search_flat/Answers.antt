use Rattle.jumping.specs.Words.{mask_in, from_of, lent_rest, stretches_ahead}
use Rattle.jumping.proofs.LegSearchLaws.{flat_leg}
use Rattle.jumping.proofs.SearchLaws.{fits_flat}
use Rattle.jumping.proofs.search.search_flat.Goals as goal

pub returns-else-fits : goal.returns-else-fits
returns-else-fits c = λ stop some unended flat.
    fits_flat (mask_in (stretches_ahead c.args.leg.now (lent_rest c.args.rest.now))) c.args.needs.now (from_of c.args.leg.now) stop
    (flat_leg c.args.leg.now (lent_rest c.args.rest.now) stop some unended flat) (c.fits.ensures.none c.if-fits.false)
