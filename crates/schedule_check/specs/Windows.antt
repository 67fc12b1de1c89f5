-- What a schedule gives a class: how long its gate stays open and closed, by the gates of its plan alone, which go on for ever
-- (IEEE Std 802.1Q-2018, 8.6.8.4, 8.6.9.2).
use Rattle.std.specs.Prelude.{◌≡◌, ◌<◌, ◌≤◌, ◌⊎◌, ℕ, zero, suc, ◌+◌, ◌-◌, Bool, true, false, map, Some, None, if◌then◌else◌}
use Rattle.wire_time.specs.Wire.{occupancy_of}
use Rattle.gates.specs.Gate.{Plan, in_ps, mask_since, opens, prefix}
use Rattle.gates.specs.Open.{open_while}
use Rattle.gates.specs.Stay.{TellsOpenTime, stay_lasts}
use Rattle.gates.specs.declared.gate_list.Entry.{Entry}
use Rattle.gates.specs.declared.gate_list.Stay.{Stay}
use Rattle.gates.specs.declared.gate_list.Stay.TheVariants.{Lasts, Always}
use Rattle.schedule_check.specs.declared.windows.Longest.{Longest}
use Rattle.schedule_check.specs.declared.windows.Longest.TheVariants.{NoFrame, Octets, AnyFrame}
use Rattle.schedule_check.specs.declared.windows.Window.{Window}

-- what a plan shows at each picosecond, alone and for ever, from the moment 0 on
abbrev pub alone : Plan → ℕ → ℕ
alone plan = mask_since (Some plan) 0 None

-- a mask of eight bits that opens what another closes
abbrev pub turned_mask : ℕ → ℕ
turned_mask mask = 255 - mask

-- masks, moment by moment, that open what others close
abbrev pub turned : (ℕ → ℕ) → ℕ → ℕ
turned mask m = turned_mask (mask m)

-- the entry that opens what another closes, for as long
abbrev pub turned_entry : Entry → Entry
turned_entry e = record { mask = turned_mask e.mask; interval = e.interval }

-- the plan whose entries open what those of another close
abbrev pub turned_plan : Plan → Plan
turned_plan plan = record { entries = map turned_entry plan.entries; base = plan.base; cycle = plan.cycle; extension = plan.extension }

-- the longest time, in picoseconds, that a class is open: for so long from some moment on, and from no moment on for longer
pub record IsLongestOpen (mask : ℕ → ℕ) (class d : ℕ) : Type 0 where
  pub reached : (x : ℕ) × (open_while mask class x d ≡ true)
  pub most : (x e : ℕ) → open_while mask class x e ≡ true → e ≤ d

-- a stay is the longest time that a class is open, or for ever where the class is always open
abbrev pub IsOpenStay : (ℕ → ℕ) → ℕ → Stay → Type 0
IsOpenStay mask class (Lasts d) = IsLongestOpen mask class d
IsOpenStay mask class Always = (x d : ℕ) → open_while mask class x d ≡ true

-- a stay is the longer of two: it lasts as long as each of them
pub record IsLonger (one other longer : Stay) : Type 0 where
  pub either : (longer ≡ one) ⊎ (longer ≡ other)
  pub first : (d : ℕ) → stay_lasts one d ≡ true → stay_lasts longer d ≡ true
  pub second : (d : ℕ) → stay_lasts other d ≡ true → stay_lasts longer d ≡ true

-- Where it is looked at, the stay of a class from the start of entry i on takes the place of a shorter one: 0 where the entry is never shown. Else nothing does.
abbrev pub IsLengthened : Plan → ℕ → Bool → ℕ → (old new : Stay) → Type 0
IsLengthened plan i true class old new =
    (told : Stay) × TellsOpenTime plan i class told × (in_ps plan.cycle ≤ prefix plan.entries i → told ≡ Lasts 0) × IsLonger old told new
IsLengthened plan i false class old new = new ≡ old

-- at how many of the first picoseconds the class is open
unfoldable pub open_total : (ℕ → ℕ) → ℕ → ℕ → ℕ
open_total mask class zero = 0
open_total mask class (suc n) = open_total mask class n + (if opens (mask n) class then 1 else 0)

-- A frame of so many octets can start at some moment, at a rate in picoseconds an octet: from then on the class is open for as long
-- as the frame occupies the wire.
abbrev pub CanStart : ℕ → (ℕ → ℕ) → ℕ → ℕ → Type 0
CanStart ps mask class len = (x : ℕ) × (open_while mask class x (occupancy_of ps len) ≡ true)

-- the longest frame that can ever start, in octets without check sequence; every frame where the class never closes
abbrev pub IsLongestFrame : ℕ → (ℕ → ℕ) → ℕ → Longest → Type 0
IsLongestFrame ps mask class NoFrame = (len : ℕ) → CanStart ps mask class len → ⊥
IsLongestFrame ps mask class (Octets n) = CanStart ps mask class n × ((len : ℕ) → CanStart ps mask class len → len ≤ n)
IsLongestFrame ps mask class AnyFrame = (len : ℕ) → CanStart ps mask class len

-- what a schedule gives a class, at a rate in picoseconds an octet
pub record IsWindow (ps : ℕ) (plan : Plan) (class : ℕ) (w : Window) : Type 0 where
  pub open_time : IsOpenStay (alone plan) class w.open_time
  pub closed_time : IsOpenStay (turned (alone plan)) class w.closed_time
  pub share : w.share ≡ open_total (alone plan) class (in_ps plan.cycle)
  pub cycle : w.cycle ≡ in_ps plan.cycle
  pub longest_frame : IsLongestFrame ps (alone plan) class w.longest_frame

-- functions that say of a plan what it gives a class, at a rate in picoseconds an octet
abbrev pub Teller : Type 0
Teller = ℕ → Plan → ℕ → Window

-- To each plan that has a cycle, and each class, what the plan gives the class at each rate. There is one such function, since there is
-- just one such window (`one_teller`).
abbrev pub IsTeller : Teller → Type 0
IsTeller tell = (ps : ℕ) (plan : Plan) (class : ℕ) → 0 < plan.cycle → IsWindow ps plan class (tell ps plan class)
