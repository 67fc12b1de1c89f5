-- When the frames that wait have come.
use Rattle.std.specs.Prelude.{ℕ, nat_lt, List, [], ◌∷◌, ◌++◌, length, drop, slice_get, slice_set, slice_index_or, Option, None, if◌then◌else◌}
use Rattle.abstract_port.specs.Eight.{eight}

-- the arrival moments of the frames of a class that wait, the first to go first, in picoseconds; and for how many there is room
pub record Waiting : Type 0 where
  pub moments : List ℕ
  pub room : ℕ

-- no frame waits
abbrev pub none_waits : ℕ → Waiting
none_waits room = record { moments = []; room = room }

-- one more, if there is room
abbrev pub with_arrival : ℕ → Waiting → Waiting
with_arrival moment w = if nat_lt (length w.moments) w.room then record w { moments = w.moments ++ moment ∷ [] } else w

-- the first waits no more
abbrev pub without_first : Waiting → Waiting
without_first w = record w { moments = drop 1 w.moments }

-- nothing waits in any of the eight classes
abbrev pub none_wait : ℕ → List Waiting
none_wait room = eight (none_waits room)

-- a class that isn't there
abbrev pub waiting_in : List Waiting → ℕ → Waiting
waiting_in classes class = slice_index_or classes class (none_waits 0)

-- a frame of a class comes
abbrev pub comes : ℕ → ℕ → List Waiting → List Waiting
comes class moment classes = if nat_lt class 8 then slice_set classes class (with_arrival moment (waiting_in classes class)) else classes

-- when the first frame of a class came
abbrev pub first_came : ℕ → List Waiting → Option ℕ
first_came class classes = if nat_lt class 8 then slice_get (waiting_in classes class).moments 0 else None

-- it waits no more
abbrev pub goes : ℕ → List Waiting → List Waiting
goes class classes = if nat_lt class 8 then slice_set classes class (without_first (waiting_in classes class)) else classes
