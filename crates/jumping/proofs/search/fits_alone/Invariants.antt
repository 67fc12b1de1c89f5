use Rattle.std.proofs.Common.{◌≡◌, ℕ, ◌<◌, Some, false, slice_get}
use Rattle.jumping.specs.Words.{mask_since, open_while}
use Rattle.jumping.proofs.search.fits_alone.Given as goal

abbrev pub invariant-loop-class : goal.invariant-loop-class
invariant-loop-class l = (k d : ℕ) → k < l.class → slice_get l.needs k ≡ Some (Some d) → open_while (mask_since (Some l.leg.schedule.now) l.leg.start l.leg.held_from) k l.from d ≡ false
