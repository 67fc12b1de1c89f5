use Rattle.std.proofs.Common.{◌≡◌, slice_get}
use Rattle.compare.specs.Fields.{fields_in}
use Rattle.compare.proofs.fields.field.Given as goal

abbrev pub invariant-fields : goal.invariant-fields
invariant-fields l = slice_get (fields_in l.line) l.place ≡ slice_get (fields_in l.rest) l.left

abbrev pub decreases-fields : goal.decreases-fields
decreases-fields l = l.left
