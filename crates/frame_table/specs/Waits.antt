-- The frames that wait, by class, each with its arrival.
use Rattle.std.specs.Prelude.{ℕ, nat_lt, List, [], ◌∷◌, ◌++◌, drop, slice_get, slice_set, slice_index_or, Option, None, if◌then◌else◌}
use Rattle.abstract_port.specs.Eight.{eight}
use Rattle.frame_table.specs.declared.rows.Arrival.{Arrival}

-- nothing waits in any of the eight classes
abbrev pub none_wait : List (List Arrival)
none_wait = eight []

-- the frames of a class that wait, the first to go first
abbrev pub waiting_in : List (List Arrival) → ℕ → List Arrival
waiting_in classes class = slice_index_or classes class []

-- a frame of a class comes
abbrev pub comes : ℕ → Arrival → List (List Arrival) → List (List Arrival)
comes class arrival classes = if nat_lt class 8 then slice_set classes class (waiting_in classes class ++ arrival ∷ []) else classes

-- the first frame of a class that waits
abbrev pub first_came : ℕ → List (List Arrival) → Option Arrival
first_came class classes = if nat_lt class 8 then slice_get (waiting_in classes class) 0 else None

-- it waits no more
abbrev pub goes : ℕ → List (List Arrival) → List (List Arrival)
goes class classes = if nat_lt class 8 then slice_set classes class (drop 1 (waiting_in classes class)) else classes
