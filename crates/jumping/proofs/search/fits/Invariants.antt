use Rattle.std.proofs.Common.{◌≡◌, ℕ, ◌<◌, Some, false, slice_get}
use Rattle.jumping.specs.Words.{open_while, mask_in, from_of, lent_rest, stretches_ahead}
use Rattle.jumping.proofs.search.fits.Given as goal

abbrev pub invariant-loop-class : goal.invariant-loop-class
invariant-loop-class l = (k d : ℕ) → k < l.class → slice_get l.needs k ≡ Some (Some d) → open_while (mask_in (stretches_ahead l.leg (lent_rest l.rest))) k (from_of l.leg) d ≡ false
