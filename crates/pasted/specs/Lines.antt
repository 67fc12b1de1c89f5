-- Octets that are turned into others a line at a time.
use Rattle.std.specs.Prelude.{◌==◌, ◌&&◌, not, nat_lt, Bool, List, ℕ, [], ◌∷◌, ◌++◌, length, if◌then◌else◌}
use Rattle.text.specs.Script.{joins}
use Rattle.text.specs.declared.line_reader.lines.TheConstants.{MAX_LINE_OCTETS}
use Rattle.pasted.specs.declared.place.Place.{Place}
use Rattle.pasted.specs.declared.place.Place.TheVariants.{First, Begin, Command, Other}

-- What lines are turned into: whether a line is taken together with those that it joins, what a line at a place comes out as,
-- and at which place the next one stands then.
pub record Rule : Type 0 where
  pub is_whole : Bool
  pub turned : Place → List ℕ → List ℕ
  pub next : Place → List ℕ → Place

-- where the line behind one stands that comes out as it is
abbrev pub place_behind : Place → Bool → Place
place_behind First joined = if joined then Other else Begin
place_behind Begin joined = if joined then Other else Begin
place_behind Command joined = if joined then Command else Begin
place_behind Other joined = if joined then Other else Begin

-- whether an octet ends a line: a line feed, but not one that joins the next line where lines are taken together
abbrev pub ends_line : Bool → List ℕ → ℕ → Bool
ends_line is_whole line b = (b == 10) && not (is_whole && joins line)

-- whether a line is longer than any that is read
abbrev pub is_long : List ℕ → Bool
is_long line = nat_lt MAX_LINE_OCTETS (length line)

-- what a line comes out as: a long one as it is
abbrev pub turned_line : Rule → Place → List ℕ → List ℕ
turned_line rule place line = if is_long line then line else rule.turned place line

-- where the line behind it stands
abbrev pub next_place : Rule → Place → List ℕ → Place
next_place rule place line = if is_long line then place_behind place (joins line) else rule.next place line

-- what octets come out as, each line by itself, from what stands of the first one: line feeds stay
abbrev pub each_line : Rule → Place → List ℕ → List ℕ → List ℕ
each_line rule place line [] = if length line == 0 then [] else turned_line rule place line
each_line rule place line (b ∷ bs) =
    if ends_line rule.is_whole line b then turned_line rule place line ++ (10 ∷ each_line rule (next_place rule place line) [] bs) else
    each_line rule place (line ++ b ∷ []) bs
