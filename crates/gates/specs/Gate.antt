-- Gate control lists (IEEE Std 802.1Q-2018, 8.6.9.2 List Execute, 8.6.9.3 List Config).
use Rattle.std.specs.Prelude.{◌<◌, ℕ, zero, suc, ◌≤◌, ◌+◌, ◌-◌, ◌*◌, ◌/◌, ◌%◌, ◌^◌, ◌==◌, Bool, false, not, ◌||◌, if◌then◌else◌, nat_lt, nat_le, List, [], ◌∷◌, Option, Some, None, Result, Ok, Err, sum_by, length, All}
use Rattle.std.specs.List.{list_all, list_any}
use Rattle.gates.specs.declared.gate_list.GateFault.{GateFault}
use Rattle.gates.specs.declared.gate_list.GateFault.TheVariants.{NoEntries, TooManyEntries, ZeroInterval}
use Rattle.gates.specs.declared.gate_list.PlanFault.{PlanFault}
use Rattle.gates.specs.declared.gate_list.PlanFault.TheVariants.{IntervalTooShort, CycleTooShort, CycleTooLong, ExtensionTooLong, BaseTooLate}
use Rattle.gates.specs.declared.gate_list.Entry.{Entry}
use Rattle.gates.specs.declared.gate_list.TheConstants.{MAX_ENTRIES, MAX_CYCLE_NS, MAX_BASE_NS}

-- a moment in picoseconds of a time in nanoseconds
abbrev pub in_ps : ℕ → ℕ
in_ps ns = 1000 * ns

-- the time before entry i: the sum of the intervals before it
abbrev pub prefix : List Entry → ℕ → ℕ
prefix es zero = 0
prefix [] (suc i) = 0
prefix (e ∷ es) (suc i) = in_ps e.interval + prefix es i

-- What a list shows at a phase of its cycle: the entry that the phase falls in, and past them all the last.
-- A list with no entry, which no schedule has, opens nothing.
abbrev pub mask_at : List Entry → ℕ → ℕ
mask_at [] p = 0
mask_at (e ∷ []) p = e.mask
mask_at (e ∷ f ∷ es) p = if nat_lt p (in_ps e.interval) then e.mask else mask_at (f ∷ es) (p - in_ps e.interval)

-- Entry i is shown at the phase p: from the entry's start on, and before the start of the next where there is one.
pub record IsShownAt (es : List Entry) (p i : ℕ) : Type 0 where
  pub within : i < length es
  pub begun : prefix es i ≤ p
  pub before_next : i + 1 < length es → p < prefix es (i + 1)

-- what a list shows at its end
abbrev pub last_mask : List Entry → ℕ
last_mask [] = 0
last_mask (e ∷ []) = e.mask
last_mask (e ∷ f ∷ es) = last_mask (f ∷ es)

-- whether a mask opens a class
abbrev pub opens : ℕ → ℕ → Bool
opens mask class = (mask / 2 ^ class) % 2 == 1

-- a schedule, in nanoseconds
pub record Plan : Type 0 where
  pub entries : List Entry
  pub base : ℕ
  pub cycle : ℕ
  pub extension : ℕ

-- the least of start, start + cycle, start + 2 * cycle .. that is at least t
abbrev pub boundary_from : ℕ → ℕ → ℕ → ℕ
boundary_from start cycle t = start + cycle * ((t - start + cycle - 1) / cycle)

-- the moment from which a plan accepted for a lead moment is in force
abbrev pub change_of : Plan → ℕ → ℕ
change_of plan lead = boundary_from (in_ps plan.base) (in_ps plan.cycle) lead

-- whether a moment, if there is one, has come
abbrev pub has_come : Option ℕ → ℕ → Bool
has_come None m = false
has_come (Some t) m = nat_le t m

-- What a plan shows at m, whose cycles began at start, and whose last state is held from a moment on, if any.
-- Where there is no plan all classes are open.
abbrev pub mask_since : Option Plan → ℕ → Option ℕ → ℕ → ℕ
mask_since None start held m = 255
mask_since (Some plan) start held m =
    if has_come held m then last_mask plan.entries else mask_at plan.entries ((m - start) % in_ps plan.cycle)

-- 2. What a list may be

-- a gate control list: 1 to 256 entries, none of interval 0
pub record IsGateList (entries : List Entry) : Type 0 where
  pub some : 0 < length entries
  pub few : length entries ≤ MAX_ENTRIES
  pub timed : All (λ e. 0 < e.interval) entries

-- the first fault of a list of entries
abbrev pub gate_fault : List Entry → Option GateFault
gate_fault entries =
    if length entries == 0 then Some NoEntries
    else if nat_lt MAX_ENTRIES (length entries) then Some TooManyEntries
    else if list_any (λ e. e.interval == 0) entries then Some ZeroInterval
    else None

-- what is made, unless it has a fault
abbrev pub ok_unless : {T E : Type 0} → Option E → T → Result T E
ok_unless None made = Ok made
ok_unless (Some fault) made = Err fault

-- 3. What a schedule may be

-- a plan whose stays are reported: it has entries, and neither its cycle nor an interval is 0
pub record IsPlan (plan : Plan) : Type 0 where
  pub entries : 0 < length plan.entries
  pub cycle : 0 < plan.cycle
  pub intervals : All (λ e. 0 < e.interval) plan.entries

-- what holds of every schedule
pub record IsSchedule (plan : Plan) : Type 0 where
  pub plan_is : IsPlan plan
  pub few : length plan.entries ≤ MAX_ENTRIES
  pub cycle : plan.cycle ≤ MAX_CYCLE_NS
  pub extension : plan.extension ≤ MAX_CYCLE_NS
  pub base : plan.base ≤ MAX_BASE_NS

-- the least interval or cycle: the shortest frame without what surrounds it, in whole nanoseconds
abbrev pub least_interval : ℕ → ℕ
least_interval ps = (60 * ps) / 1000

-- a cycle of 0 means the sum of the intervals
abbrev pub cycle_of : List Entry → ℕ → ℕ
cycle_of entries cycle = if cycle == 0 then sum_by (λ e. e.interval) entries else cycle

-- the plan of a list with its times
abbrev pub plan_with : List Entry → ℕ → ℕ → ℕ → Plan
plan_with entries base cycle extension =
    record { entries = entries; base = base; cycle = cycle_of entries cycle; extension = extension }

-- the index of the first entry that is shorter
abbrev pub first_shorter : ℕ → ℕ → List Entry → Option ℕ
first_shorter least i [] = None
first_shorter least i (e ∷ rest) = if nat_lt e.interval least then Some i else first_shorter least (i + 1) rest

-- the first fault of the times of a plan
abbrev pub limits_fault : ℕ → Plan → Option PlanFault
limits_fault ps p =
    if nat_lt p.cycle (least_interval ps) then Some CycleTooShort
    else if nat_lt MAX_CYCLE_NS p.cycle then Some CycleTooLong
    else if nat_lt MAX_CYCLE_NS p.extension then Some ExtensionTooLong
    else if nat_lt MAX_BASE_NS p.base then Some BaseTooLate
    else None

-- the first fault of a schedule
abbrev pub plan_fault : ℕ → Plan → Option PlanFault
plan_fault ps p = elim (first_shorter (least_interval ps) 0 p.entries) [
  | Some i ↦ Some (IntervalTooShort i)
  | None ↦ limits_fault ps p
]

-- 4. Separation

-- whether every entry that opens the class opens none of the other seven
abbrev pub is_apart_in : ℕ → Entry → Bool
is_apart_in class e = not (opens e.mask class) || e.mask == 2 ^ class

-- whether every entry that opens a class opens no other
abbrev pub keeps_apart : List Entry → ℕ → Bool
keeps_apart entries class = list_all (is_apart_in class) entries
