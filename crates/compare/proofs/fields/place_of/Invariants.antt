use Rattle.std.proofs.Common.{◌≡◌, ◌+◌, ◌≤◌, length}
use Rattle.std.specs.List.{position_from}
use Rattle.std.specs.Str.{bytes_eq}
use Rattle.compare.specs.Fields.{fields_in}
use Rattle.compare.proofs.fields.place_of.Given as goal

abbrev pub invariant-fields : goal.invariant-fields
invariant-fields l = record {
  found : position_from (λ field. bytes_eq field l.name) 0 (fields_in l.line) ≡ position_from (λ field. bytes_eq field l.name) l.place (fields_in l.rest);
  few : l.place + length l.rest ≤ length l.line;
}

abbrev pub decreases-fields : goal.decreases-fields
decreases-fields l = length l.rest
