-- How long a class stays open from the start of an entry, going round the cycle.
use Rattle.std.specs.Prelude.{◌≡◌, ◌<◌, ◌≤◌, ℕ, ◌+◌, ◌-◌, ◌*◌, Bool, true, false, ◌&&◌, if◌then◌else◌, nat_le, List, [], ◌∷◌, ◌++◌, Option, Some, None, drop, take, slice_get}
use Rattle.gates.specs.Gate.{Plan, IsShownAt, in_ps, prefix, mask_since, opens}
use Rattle.gates.specs.Open.{open_while}
use Rattle.wire_time.specs.declared.TheConstants.{CLASSES}
use Rattle.gates.specs.declared.gate_list.Entry.{Entry}
use Rattle.gates.specs.declared.gate_list.Slot.{Slot}
use Rattle.gates.specs.declared.gate_list.Stay.{Stay}
use Rattle.gates.specs.declared.gate_list.Stay.TheVariants.{Lasts, Always}

-- The slots of a cycle, which they fill: the list is cut at the cycle's end where it is longer, and its last entry
-- lasts until there where it is shorter. The entries that begin before the end have the slots, in order.
abbrev pub slots : List Entry → ℕ → List Slot
slots [] cycle = []
slots (e ∷ []) cycle = record { mask = e.mask; span = cycle } ∷ []
slots (e ∷ f ∷ es) cycle =
    if nat_le cycle (in_ps e.interval)
    then record { mask = e.mask; span = cycle } ∷ []
    else record { mask = e.mask; span = in_ps e.interval } ∷ slots (f ∷ es) (cycle - in_ps e.interval)

-- how long slots last together
abbrev pub length_of : List Slot → ℕ
length_of [] = 0
length_of (s ∷ rest) = s.span + length_of rest

-- for how long the class is open from the start of the first slot on: to the first that closes it
abbrev pub run_of : List Slot → ℕ → ℕ
run_of [] class = 0
run_of (s ∷ rest) class = if opens s.mask class then s.span + run_of rest class else 0

-- every slot opens the class
abbrev pub is_open_in_all : List Slot → ℕ → Bool
is_open_in_all [] class = true
is_open_in_all (s ∷ rest) class = opens s.mask class && is_open_in_all rest class

-- How long the class stays open from the start of slot i, going round the cycle; None: for ever.
abbrev pub stay : List Slot → ℕ → ℕ → Option ℕ
stay cycle i class = if is_open_in_all cycle class then None else Some (run_of (drop i cycle ++ cycle) class)

-- whether a stay is for ever, or at least so long
abbrev pub lasts : Option ℕ → ℕ → Bool
lasts None d = true
lasts (Some t) d = nat_le d t

-- at no moment from t on and below u the class is open for so long
abbrev pub NoneFrom : (ℕ → ℕ) → ℕ → ℕ → ℕ → ℕ → Type 0
NoneFrom mask class d t u = (n : ℕ) → t ≤ n → n < u → open_while mask class n d ≡ false

-- Of a plan alone, since start: from x after the start of slot i in cycle k on, a class is open for d just where its stay
-- there is for ever or at least x + d.
abbrev pub StayLaw : Plan → Type 0
StayLaw plan =
    (start k i class x d : ℕ) (slot : Slot) → slice_get (slots plan.entries (in_ps plan.cycle)) i ≡ Some slot → x < slot.span → 0 < d →
    open_while (mask_since (Some plan) start None) class (start + in_ps plan.cycle * k + length_of (take i (slots plan.entries (in_ps plan.cycle))) + x) d
    ≡ lasts (stay (slots plan.entries (in_ps plan.cycle)) i class) (x + d)

-- a stay as a row says it
abbrev pub told_stay : Option ℕ → Stay
told_stay None = Always
told_stay (Some t) = Lasts t

-- how long a class stays open from the start of entry i, as it is reported
abbrev pub stay_from : Plan → ℕ → ℕ → Stay
stay_from plan i class = told_stay (stay (slots plan.entries (in_ps plan.cycle)) i class)

-- for each class, how long it stays open from the start of entry i
abbrev pub AreStays : Plan → ℕ → List Stay → Type 0
AreStays plan i stays = (class : ℕ) → class < CLASSES → slice_get stays class ≡ Some (stay_from plan i class)

-- no class is open at all
abbrev pub AreClosed : List Stay → Type 0
AreClosed stays = (class : ℕ) → class < CLASSES → slice_get stays class ≡ Some (Lasts 0)

-- whether a stay is for ever, or at least so long
abbrev pub stay_lasts : Stay → ℕ → Bool
stay_lasts Always d = true
stay_lasts (Lasts t) d = nat_le d t

-- Of a plan alone, repeated for ever since start: from x after the start of entry i in cycle k, where that entry is shown,
-- the class is open through d just where its stay is for ever or x + d is at most the stay.
abbrev pub TellsOpenTime : Plan → ℕ → ℕ → Stay → Type 0
TellsOpenTime plan i class told =
    (start k x d : ℕ) → prefix plan.entries i + x < in_ps plan.cycle → IsShownAt plan.entries (prefix plan.entries i + x) i → 0 < d →
    open_while (mask_since (Some plan) start None) class (start + in_ps plan.cycle * k + (prefix plan.entries i + x)) d
    ≡ stay_lasts told (x + d)

-- each class has in a list of stays the stay that says how long it is open from an entry on
abbrev pub TellOpenTime : Plan → ℕ → List Stay → Type 0
TellOpenTime plan i stays =
    (class : ℕ) (told : Stay) → class < CLASSES → slice_get stays class ≡ Some told → TellsOpenTime plan i class told
