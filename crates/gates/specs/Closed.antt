-- What a place has until a list or a schedule is written to it.
use Rattle.std.specs.Prelude.{List, [], ◌∷◌}
use Rattle.gates.specs.declared.gate_list.Entry.{Entry}
use Rattle.gates.specs.Gate.{Plan}

-- a list of one entry, which closes all classes for a nanosecond
abbrev pub closed_entries : List Entry
closed_entries = record { mask = 0; interval = 1 } ∷ []

-- that list with no other times
abbrev pub closed_plan : Plan
closed_plan = record { entries = closed_entries; base = 0; cycle = 1; extension = 0 }
