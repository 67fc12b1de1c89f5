-- The lines of a script, as its octets come.
use Rattle.std.specs.Prelude.{◌+◌, ◌-◌, ◌==◌, ◌&&◌, ◌||◌, List, ℕ, [], ◌∷◌, ◌++◌, Bool, true, false, not, length, slice_index, if◌then◌else◌}
use Rattle.text.specs.declared.line_reader.lines.Limit.{Limit}
use Rattle.text.specs.declared.line_reader.lines.Limit.TheVariants.{LongLine, TooManyLines}
use Rattle.text.specs.declared.line_reader.lines.TheConstants.{MAX_LINE_OCTETS, MAX_LINES}

-- the lines that are to come, each with the number of its first physical line, and how the script ends
pub data Script : Type 0 where
  End : Script
  Broken : ℕ → Limit → Script
  Line : ℕ → List ℕ → Script → Script

-- where the reading stands: the octets of the line so far, the number of its first physical line, and the line feeds so far
pub record Progress : Type 0 where
  pub octets : List ℕ
  pub first : ℕ
  pub breaks : ℕ

-- before the line after so many physical lines
abbrev pub fresh : ℕ → Progress
fresh breaks = record { octets = []; first = breaks + 1; breaks = breaks }

-- a line feed after these octets joins the next physical line: they end with a backslash, or a backslash and CR
abbrev pub joins : List ℕ → Bool
joins octets = let n = length octets in
    (slice_index octets (n - 1) == 92) || ((slice_index octets (n - 1) == 13) && (slice_index octets (n - 2) == 92))

-- a line feed ends a line that does not ask to be joined with the next
abbrev pub ends : List ℕ → ℕ → Bool
ends octets b = (b == 10) && not (joins octets)

-- from what stands of a physical line on: whether a line feed among these octets ends a line, and joins nothing
abbrev pub ends_in : List ℕ → List ℕ → Bool
ends_in line [] = false
ends_in line (b ∷ bs) = if b == 10 then (if joins line then ends_in [] bs else true) else ends_in (line ++ b ∷ []) bs

-- how many line feeds were read, one octet on
abbrev pub breaks_after : ℕ → ℕ → ℕ
breaks_after breaks b = if b == 10 then breaks + 1 else breaks

-- the lines of octets, from what is read of the first
abbrev pub script_from : Progress → List ℕ → Script
script_from p [] = if length p.octets == 0 then End else Line p.first p.octets End
script_from p (b ∷ bs) =
    if (length p.octets == MAX_LINE_OCTETS) && not (ends p.octets b) then Broken p.first LongLine else
    (if p.breaks == MAX_LINES then Broken (MAX_LINES + 1) TooManyLines else
    (if ends p.octets b then Line p.first p.octets (script_from (fresh (p.breaks + 1)) bs) else
    script_from (record { octets = p.octets ++ b ∷ []; first = p.first; breaks = breaks_after p.breaks b }) bs))

-- the script that a whole input is
abbrev pub script_of : List ℕ → Script
script_of input = script_from (fresh 0) input
