-- Priorities and traffic classes (IEEE Std 802.1Q-2018, 8.6.6; tc-taprio(8), num_tc and map).
use Rattle.std.specs.Prelude.{ℕ, ◌-◌, ◌==◌, ◌||◌, nat_lt, nat_le, if◌then◌else◌, List, ◌++◌, length, replicate, Option, Some, None, Result, Ok, Err}
use Rattle.std.specs.List.{list_any}
use Rattle.wire_time.specs.declared.TheConstants.{CLASSES, PRIORITIES}
use Rattle.abstract_port.specs.declared.class_map.MapFault.{MapFault}
use Rattle.abstract_port.specs.declared.class_map.MapFault.TheVariants.{BadClassCount, TooManyPriorities, ClassOutOfRange}

-- how many classes there are, and the class of each of the 16 priorities
pub record Map : Type 0 where
  pub num_tc : ℕ
  pub classes : List ℕ

-- the first fault of a map, as it is given
abbrev pub map_fault : ℕ → List ℕ → Option MapFault
map_fault num_tc classes =
    if num_tc == 0 || nat_lt CLASSES num_tc then Some BadClassCount
    else if nat_lt PRIORITIES (length classes) then Some TooManyPriorities
    else if list_any (λ class. nat_le num_tc class) classes then Some ClassOutOfRange
    else None

-- the priorities past those that are given go to class 0
abbrev pub filled : List ℕ → List ℕ
filled classes = classes ++ replicate (PRIORITIES - length classes) 0

-- the map, unless it has a fault
abbrev pub map_unless : Option MapFault → ℕ → List ℕ → Result Map MapFault
map_unless (Some fault) num_tc classes = Err fault
map_unless None num_tc classes = Ok (record { num_tc = num_tc; classes = filled classes })

-- the map of so many classes with these classes of the priorities from 0 up, or its first fault
abbrev pub map_of : ℕ → List ℕ → Result Map MapFault
map_of num_tc classes = map_unless (map_fault num_tc classes) num_tc classes
