-- How a schedule keeps its table of open time.
use Rattle.std.specs.Prelude.{◌≡◌, ◌<◌, ◌≤◌, ◌+◌, ◌-◌, ◌*◌, ◌^◌, ℕ, Bool, true, false, ◌&&◌, if◌then◌else◌, List, [], ◌∷◌, length, nat_lt, slice_index, slice_index_or, take, drop, ◌++◌}
use Rattle.gates.specs.declared.gate_list.Entry.{Entry}
use Rattle.gates.specs.declared.gate_list.TheConstants.{MAX_ENTRIES}
use Rattle.gates.specs.declared.gate_list.Slot.{Slot}
use Rattle.gates.specs.declared.gate_list.Stay.{Stay}
use Rattle.gates.specs.declared.gate_list.Stay.TheVariants.{Lasts, Always}
use Rattle.gates.specs.declared.gate_list.table.Table.{Table}
use Rattle.gates.specs.Gate.{Plan, IsSchedule, in_ps, opens}
use Rattle.wire_time.specs.declared.TheConstants.{CLASSES}
use Rattle.gates.specs.Stay.{slots, stay, told_stay, length_of, run_of}

-- When slots begin that start one after another, from the start of the first.
abbrev pub AreStarts : List Slot → List ℕ → Type 0
AreStarts cycle starts = (i : ℕ) → i < length cycle → slice_index starts i ≡ length_of (take i cycle)

-- from the start of slot i to that of slot c, which is one of the next cycle where it is before slot i
abbrev pub time_between : List Slot → ℕ → ℕ → ℕ
time_between cycle i c =
    if nat_lt c i then length_of cycle - length_of (take i cycle) + length_of (take c cycle)
    else length_of (take c cycle) - length_of (take i cycle)

-- Going round the cycle from slot i on, slot c is the first that closes the class.
pub record Closes (cycle : List Slot) (class i c : ℕ) : Type 0 where
  pub listed : c < length cycle
  pub shut : opens (slice_index_or cycle c (record { mask = 0; span = 0 })).mask class ≡ false
  pub run : run_of (drop i cycle ++ cycle) class ≡ time_between cycle i c

-- what closes a class at a slot, as rows of eight have it
abbrev pub closing_at : List ℕ → ℕ → ℕ → ℕ
closing_at rows i class = slice_index rows (8 * i + class)

-- a row is that of a slot
abbrev pub IsRow : List ℕ → ℕ → List ℕ → Type 0
IsRow rows i row = (class : ℕ) → class < CLASSES → slice_index row class ≡ closing_at rows i class

-- the bit of each class in a mask
abbrev pub AreBits : List ℕ → Type 0
AreBits bits = (class : ℕ) → class < CLASSES → slice_index bits class ≡ 2 ^ class

-- every entry opens the class
abbrev pub all_open : List Entry → ℕ → Bool
all_open [] class = true
all_open (e ∷ es) class = opens e.mask class && all_open es class

-- the place of the first of the entries from place i on that closes the class, or another place where they all open it
abbrev pub next_shut : List Entry → ℕ → ℕ → ℕ → ℕ
next_shut [] class i last = last
next_shut (e ∷ es) class i last = if opens e.mask class then next_shut es class (i + 1) last else i

-- Rows have for each entry the one that closes the class next; past the last one the first one comes again.
abbrev pub GoesRound : List Entry → ℕ → List ℕ → Type 0
GoesRound entries class rows =
    (i : ℕ) → i < length entries → closing_at rows i class ≡ next_shut (drop i entries) class i (next_shut entries class 0 0)

-- the time from the start of a slot to the start of another, by a list of when the slots begin
abbrev pub time_to : ℕ → List ℕ → ℕ → ℕ → ℕ
time_to cycle starts i c =
    if nat_lt c i then cycle - slice_index starts i + slice_index starts c
    else slice_index starts c - slice_index starts i

-- what a table has for a class at an entry
abbrev pub stay_at : Table → ℕ → ℕ → Stay
stay_at table class i =
    if nat_lt i table.shown
    then if opens table.always class then Always
    else Lasts (time_to table.cycle table.starts i (closing_at table.closing i class))
    else Lasts 0

-- what it has to have there: 0 where no slot is
abbrev pub stay_told : List Slot → ℕ → ℕ → Stay
stay_told cycle i class = if nat_lt i (length cycle) then told_stay (stay cycle i class) else Lasts 0

-- a table has the stays of all classes
abbrev pub HasStays : List Slot → Table → Type 0
HasStays cycle table = (class i : ℕ) → class < CLASSES → stay_at table class i ≡ stay_told cycle i class

-- what a table says stands in the places of its slots
pub record IsWithin (table : Table) : Type 0 where
  pub few : table.shown ≤ MAX_ENTRIES
  pub listed : (class i : ℕ) → class < CLASSES → i < table.shown → opens table.always class ≡ false → closing_at table.closing i class < table.shown

-- a schedule with its table
pub record IsTabled (plan : Plan) (table : Table) : Type 0 where
  pub sound : IsSchedule plan
  pub stays : HasStays (slots plan.entries (in_ps plan.cycle)) table
  pub within : IsWithin table
