-- Why a port refuses a command that is judged by itself.
use Rattle.std.specs.Prelude.{ℕ, zero, suc, ◌+◌, ◌==◌, ◌||◌, nat_le, max, Bool, false, List, [], ◌∷◌, ◌++◌, length, slice_get, Option, Some, None, Result, Ok, Err, option_map, if◌then◌else◌}
use Rattle.std.specs.Option.{option_map_or}
use Rattle.wire_time.specs.declared.TheConstants.{PRIORITIES}
use Rattle.abstract_port.specs.AbstractPort.{AbstractPort, first_of, limit_refusal, map_refusal, new_port, plain_queues}
use Rattle.abstract_port.specs.declared.Change.{Change}
use Rattle.abstract_port.specs.declared.Refused.{Refused}
use Rattle.abstract_port.specs.Map.{map_of}
use Rattle.abstract_port.specs.declared.class_map.ClassMap.{ClassMap}
use Rattle.abstract_port.specs.declared.class_map.MapFault.{MapFault}
use Rattle.text.specs.Numbers.{number_in}
use Rattle.text.specs.Words.{words_of}

-- 1. A port that has a map already, or none

-- a new port of a rate, an mtu and a room; it has a map already where one is given, with one queue a class (tc-taprio(8), num_tc, map and queues)
abbrev pub port_with : ℕ → ℕ → ℕ → Option ClassMap → AbstractPort
port_with ps mtu room map = record (new_port ps mtu room) { classes = option_map (λ m. (m, plain_queues m)) map }

-- its first refusal of a change for its map or its limits
abbrev pub early_refusal : AbstractPort → Change → Option Refused
early_refusal p c = first_of (map_refusal p c) (limit_refusal p c)

-- its map once it has accepted a change
abbrev pub map_after : Option ClassMap → Option ClassMap → Option ClassMap
map_after (Some map) given = Some map
map_after None given = given

-- whether one of the priorities below a number leads to a class
unfoldable pub leads_below : ℕ → List ℕ → ℕ → Bool
leads_below zero classes class = false
leads_below (suc n) classes class = leads_below n classes class || option_map_or (λ c. c == class) (slice_get classes n) false

-- whether some priority leads to a class by a map; by none that is known, no priority does
abbrev pub is_led : Option ClassMap → ℕ → Bool
is_led None class = false
is_led (Some map) class = leads_below PRIORITIES map.classes class

-- 2. A map in one text

-- a map, unless it has a fault
abbrev pub map_if_good : Result ClassMap MapFault → Option ClassMap
map_if_good (Ok map) = Some map
map_if_good (Err fault) = None

-- with the class of the next priority, if it is one
abbrev pub with_class : (ℕ → Option ClassMap) → Option ℕ → Option ClassMap
with_class on None = None
with_class on (Some class) = on class

-- The map with these classes of the first priorities, and behind them those that words say, each a number of 0 to 7: it has as many classes as that takes,
-- so many so far. No map has more than 16 priorities.
unfoldable pub map_on : ℕ → List ℕ → List (List ℕ) → Option ClassMap
map_on count classes [] = map_if_good (map_of count classes)
map_on count classes (w ∷ ws) =
    if nat_le PRIORITIES (length classes) then None
    else with_class (λ class. map_on (max count (class + 1)) (classes ++ class ∷ []) ws) (number_in 10 7 w)

-- the map that a text says: the class of each priority, from 0 up, divided by blanks
abbrev pub map_in : List ℕ → Option ClassMap
map_in text = map_on 0 [] (words_of text)

-- a value that is read, where it is given: none where none is given
abbrev pub where_given : {T : Type 0} → (List ℕ → Option T) → Option (List ℕ) → Option (Option T)
where_given read None = Some None
where_given read (Some text) = option_map (λ value. Some value) (read text)
