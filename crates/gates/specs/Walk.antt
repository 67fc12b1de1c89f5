-- List Execute (IEEE Std 802.1Q-2018, 8.6.9.2): a walk of the entries of a list, in picoseconds.
use Rattle.std.specs.Prelude.{◌≡◌, ◌<◌, ℕ, ◌+◌, ◌*◌, ◌⊎◌, Bool, true, false, min, if◌then◌else◌, nat_lt, List, Option, Some, None, length, slice_get}
use Rattle.gates.specs.Gate.{Plan, prefix, last_mask}
use Rattle.gates.specs.Visits.{greatest_count}
use Rattle.gates.specs.declared.gate_list.Entry.{Entry}

-- Where a walk of a list stands: in the cycle that began at `began` the entry `index`, from when and up to when, and the
-- mask of the hold, if there is one.
pub record Walk : Type 0 where
  pub began : ℕ
  pub index : ℕ
  pub start : ℕ
  pub until : Option ℕ
  pub entry : Entry
  pub held : Option ℕ

-- the classes that are open
abbrev pub walk_mask : Walk → ℕ
walk_mask walk = elim walk.held [ Some mask ↦ mask | None ↦ walk.entry.mask ]

-- the end of entry i of a cycle from a moment on; the last one has none
abbrev pub until_of : List Entry → ℕ → ℕ → Option ℕ
until_of entries began i = if nat_lt (i + 1) (length entries) then Some (began + prefix entries (i + 1)) else None

-- the end of an entry that starts at a moment, unless it is the last of its list
abbrev pub end_unless : Bool → ℕ → Entry → Option ℕ
end_unless is_last start entry = if is_last then None else Some (start + 1000 * entry.interval)

-- whether there is no end: the entry is the last
abbrev pub has_no_end : Option ℕ → Bool
has_no_end until = elim until [ Some u ↦ false | None ↦ true ]

-- the end of what is shown; the last entry and a hold have none
abbrev pub end_of : Walk → Option ℕ
end_of walk = elim walk.held [ Some mask ↦ None | None ↦ walk.until ]

-- The walk shows entry i of the plan, at its place in the cycle that began at a moment.
pub record ShowsEntry (plan : Plan) (began i : ℕ) (walk : Walk) : Type 0 where
  pub listed : i < length plan.entries
  pub began_then : walk.began ≡ began
  pub index_is : walk.index ≡ i
  pub start_is : walk.start ≡ began + prefix plan.entries i
  pub until_is : walk.until ≡ until_of plan.entries began i
  pub entry_is : slice_get plan.entries i ≡ Some walk.entry
  pub unheld : walk.held ≡ None

-- The walk shows the last mask of the plan, in the cycle that began at a moment.
pub record ShowsHold (plan : Plan) (began : ℕ) (walk : Walk) : Type 0 where
  pub began_then : walk.began ≡ began
  pub held_is : walk.held ≡ Some (last_mask plan.entries)

-- a walk that is put into the hold of a plan: it shows the last mask
abbrev pub in_hold : Plan → Walk → Walk
in_hold plan walk = record walk { held = Some (last_mask plan.entries) }

-- What the walk shows is of the plan: one of its entries, at its place, or its hold.
abbrev pub IsOf : Plan → Walk → Type 0
IsOf plan walk = ShowsEntry plan walk.began walk.index walk ⊎ ShowsHold plan walk.began walk

-- a count after so many more
abbrev pub more : ℕ → ℕ → ℕ
more n visits = min (n + visits) greatest_count
