-- The least and the greatest wait of each flow, as frame after frame is noted.
use Rattle.std.specs.Prelude.{◌^◌, ◌-◌, ℕ, min, max, List, slice_set}
use Rattle.delay_bounds.specs.Claim.{bound_at}
use Rattle.delay_bounds.specs.declared.Bound.{Bound}
use Rattle.delay_bounds.specs.declared.Told.{Told}

-- before any frame of a flow
abbrev pub unseen : Bound
unseen = record { least = 2 ^ 128 - 1; greatest = 0 }

-- bounds with one wait more
abbrev pub widened : ℕ → Bound → Bound
widened wait b = record { least = min b.least wait; greatest = max b.greatest wait }

-- the bounds of all flows with one frame more
abbrev pub noted : Told → List Bound → List Bound
noted told bounds = slice_set bounds told.place (widened told.wait (bound_at bounds told.place))
