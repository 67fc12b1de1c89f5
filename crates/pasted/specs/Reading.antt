-- What octets come out as from where the reading of them stands.
use Rattle.std.specs.Prelude.{◌≡◌, Bool, Option, Some, None, List, ℕ, [], ◌∷◌, ◌++◌, drop, take, ◌+◌, if◌then◌else◌}
use Rattle.text.specs.Script.{joins}
use Rattle.pasted.specs.Lines.{Rule, place_behind, ends_line, turned_line, next_place, each_line}
use Rattle.pasted.specs.declared.place.Place.{Place}
use Rattle.pasted.specs.declared.tail.Tail.{Tail}
use Rattle.pasted.specs.declared.tail.LongRun.{LongRun}

-- the last two octets of a line so far
abbrev pub tail_text : Tail → List ℕ
tail_text tail = tail.before ∷ tail.last ∷ []

-- one octet on
abbrev pub tail_after : Tail → ℕ → Tail
tail_after tail b = record { before = tail.last; last = b }

-- within a long line, whose last two octets are known: it comes out as it is, and then the lines behind it
abbrev pub rest_of_long : Rule → Place → Tail → List ℕ → List ℕ
rest_of_long rule place tail [] = []
rest_of_long rule place tail (b ∷ bs) =
    b ∷ (if ends_line rule.is_whole (tail_text tail) b then each_line rule (place_behind place (joins (tail_text tail))) [] bs else
    rest_of_long rule place (tail_after tail b) bs)

-- between lines, or within a long one
abbrev pub reading : Rule → Place → Option Tail → List ℕ → List ℕ
reading rule place None octets = each_line rule place [] octets
reading rule place (Some tail) octets = rest_of_long rule place tail octets

-- The first line has so many octets, and a line feed ends it, whatever comes later.
abbrev pub EndsAt : Bool → List ℕ → ℕ → Type 0
EndsAt is_whole octets n = (rule : Rule) → rule.is_whole ≡ is_whole → (place : Place) (later : List ℕ)
    → each_line rule place [] (octets ++ later)
    ≡ turned_line rule place (take n octets) ++ (10 ∷ each_line rule (next_place rule place (take n octets)) [] (drop (n + 1) octets ++ later))

-- No line ends among the octets.
abbrev pub IsOpen : Bool → List ℕ → Type 0
IsOpen is_whole octets = (rule : Rule) → rule.is_whole ≡ is_whole → (place : Place) (later : List ℕ)
    → each_line rule place [] (octets ++ later) ≡ each_line rule place octets later

-- So many octets of a long line come out as they are, and it ends there or not.
abbrev pub GoesOn : Bool → Tail → List ℕ → LongRun → Type 0
GoesOn is_whole tail octets run = (rule : Rule) → rule.is_whole ≡ is_whole → (place : Place) (later : List ℕ)
    → rest_of_long rule place tail (octets ++ later)
    ≡ take run.count octets ++ (if run.has_ended then each_line rule (place_behind place (joins (tail_text run.tail))) [] (drop run.count octets ++ later)
    else rest_of_long rule place run.tail (drop run.count octets ++ later))

-- A line of so many octets comes out as it is, and these are its last two.
abbrev pub IsLong : List ℕ → Tail → Type 0
IsLong line tail = (rule : Rule) (place : Place) (later : List ℕ) → each_line rule place line later ≡ line ++ rest_of_long rule place tail later
