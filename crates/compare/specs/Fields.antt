-- The fields of a line (RFC 4180, 2, without quotes).
use Rattle.std.specs.Prelude.{◌==◌, List, ℕ, [], Option, Some, None}
use Rattle.std.specs.List.{position_from, slice_split}
use Rattle.std.specs.Str.{bytes_eq}

-- what stands between the commas of a line
unfoldable pub fields_in : List ℕ → List (List ℕ)
fields_in line = slice_split (λ octet. octet == 44) line

-- the fields behind a comma, if there is one
abbrev pub fields_behind : Option (List ℕ) → List (List ℕ)
fields_behind None = []
fields_behind (Some rest) = fields_in rest

-- the place of the first field that is this name
abbrev pub place_in : List ℕ → List (List ℕ) → Option ℕ
place_in name fields = position_from (λ field. bytes_eq field name) 0 fields
