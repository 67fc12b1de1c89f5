use Rattle.std.proofs.Common.{None, sym, subst}
use Rattle.jumping.specs.Words.{mask_of, IsFlat, from_of, stretch_of}
use Rattle.jumping.proofs.LegSearchLaws.{flat_open}
use Rattle.jumping.proofs.search.search_leg.Goals as goal

pub returns-in-Open-clause-searched : goal.returns-in-Open-clause-searched
returns-in-Open-clause-searched c =
    c.search_flat.ensures c.args.stop c.requires.some c.requires.unended
    (subst (λ g. IsFlat (mask_of (stretch_of g)) (from_of g) None) (sym c.in-Open.is) (flat_open c.in-Open.field-0))
