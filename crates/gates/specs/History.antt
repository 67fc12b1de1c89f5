-- The gates at a moment, by the history of accepted commands.
use Rattle.std.specs.Prelude.{◌≡◌, ◌<◌, ◌≤◌, ℕ, ◌-◌, ◌%◌, Bool, true, false, ◌&&◌, if◌then◌else◌, nat_lt, nat_le, List, [], ◌∷◌, Option, Some, None, MatchOption, filter}
use Rattle.std.specs.Option.{option_or}
use Rattle.gates.specs.Gate.{Plan, in_ps, mask_at, last_mask, opens}
use Rattle.gates.specs.Open.{open_while}

-- An accepted command. No gate changes by it before its lead moment. A command with no plan is a deletion.
pub record Accepted : Type 0 where
  pub lead : ℕ
  pub change : ℕ
  pub plan : Option Plan

-- the last of a list
abbrev pub last : List Accepted → Option Accepted
last [] = None
last (a ∷ rest) = option_or (last rest) (Some a)

-- whether a command is in time: with a follower, only where its change moment is at or before the follower's lead
abbrev pub is_in_time : Accepted → List Accepted → Bool
is_in_time a [] = true
is_in_time a (b ∷ rest) = nat_le a.change b.lead

-- the last command that has come into force by m
abbrev pub in_force : List Accepted → ℕ → Option Accepted
in_force [] m = None
in_force (a ∷ rest) m = option_or (in_force rest m) (if nat_le a.change m && is_in_time a rest then Some a else None)

-- a command, if it passes
abbrev pub only_if : (Accepted → Bool) → Option Accepted → Option Accepted
only_if p None = None
only_if p (Some a) = if p a then Some a else None

-- the last command whose lead moment has come
abbrev pub latest : List Accepted → ℕ → Option Accepted
latest history m = last (filter (λ a. nat_le a.lead m) history)

-- the last command whose lead moment has come, if its change moment has not
abbrev pub pending : List Accepted → ℕ → Option Accepted
pending history m = only_if (λ a. nat_lt m a.change) (latest history m)

-- the last command, if its lead moment has not come
abbrev pub announced : List Accepted → ℕ → Option Accepted
announced history m = only_if (λ a. nat_lt m a.lead) (last history)

-- the last boundary of cycles from start, at or before m
abbrev pub cycle_start : ℕ → ℕ → ℕ → ℕ
cycle_start start cycle m = m - (m - start) % cycle

-- Whether the last state is held at the boundary s, of cycles that began at start, for a change that is pending.
abbrev pub is_held : ℕ → ℕ → ℕ → Option Accepted → Bool
is_held start extension s None = false
is_held start extension s (Some next) = nat_lt start s && nat_le next.lead s && nat_le (next.change - s) extension

-- what the plan in force since start shows at m, with this change pending
abbrev pub planned_mask : Plan → ℕ → Option Accepted → ℕ → ℕ
planned_mask plan start next m =
    let s = cycle_start start (in_ps plan.cycle) m in
    if is_held start (in_ps plan.extension) s next then last_mask plan.entries else mask_at plan.entries (m - s)

-- no plan, before the first or after a deletion: all eight classes
abbrev pub mask_of_plan : Option Plan → ℕ → Option Accepted → ℕ → ℕ
mask_of_plan None start next m = 255
mask_of_plan (Some plan) start next m = planned_mask plan start next m

-- the plan of a command, if there is one
abbrev pub plan_of : Option Accepted → Option Plan
plan_of None = None
plan_of (Some a) = a.plan

-- since when a command is in force
abbrev pub start_of : Option Accepted → ℕ
start_of None = 0
start_of (Some a) = a.change

-- what the command in force shows at m, with this change pending
abbrev pub mask_under : Option Accepted → Option Accepted → ℕ → ℕ
mask_under a next m = mask_of_plan (plan_of a) (start_of a) next m

-- the classes that are open at m
abbrev pub gates : List Accepted → ℕ → ℕ
gates history m = mask_under (in_force history m) (pending history m) m

-- whether a class is open at m
abbrev pub is_open : List Accepted → ℕ → ℕ → Bool
is_open history class m = opens (gates history m) class

-- whether a class is open at every picosecond from s on, for so long
abbrev pub open_through : List Accepted → ℕ → ℕ → ℕ → Bool
open_through history class s d = open_while (gates history) class s d

-- a command, if there is one, before others
abbrev pub cons_some : Option Accepted → List Accepted → List Accepted
cons_some None rest = rest
cons_some (Some a) rest = a ∷ rest

-- the commands in force, pending and announced at m: what counts from then on
abbrev pub kept : List Accepted → ℕ → List Accepted
kept history m = cons_some (in_force history m) (cons_some (pending history m) (cons_some (announced history m) []))

-- a command that can have been accepted: a deletion changes at its lead moment, and a plan has a cycle
pub record IsSound (a : Accepted) : Type 0 where
  pub timely : a.lead ≤ a.change
  pub planned : MatchOption a.plan (a.change ≡ a.lead) (λ plan. 0 < plan.cycle)

-- each lead moment is below the next, the first is after `earlier`, and each command is sound
abbrev pub IsRising : ℕ → List Accepted → Type 0
IsRising earlier [] = Unit {0}
IsRising earlier (a ∷ rest) = (earlier < a.lead) × IsSound a × IsRising a.lead rest

-- Every command but the last has its lead moment at or before m.
abbrev pub ArePast : ℕ → List Accepted → Type 0
ArePast m [] = Unit {0}
ArePast m (a ∷ []) = Unit {0}
ArePast m (a ∷ b ∷ rest) = (a.lead ≤ m) × ArePast m (b ∷ rest)

-- ---- the three commands that a history comes down to

-- the command in force at m, if any, before the commands r
abbrev pub IsOld : ℕ → Option Accepted → List Accepted → Type 0
IsOld m None r = Unit {0}
IsOld m (Some a) r = (a.lead ≤ m) × (a.change ≤ m) × (is_in_time a r ≡ true)

-- a command that is pending at m
abbrev pub IsWaiting : ℕ → Option Accepted → Type 0
IsWaiting m None = Unit {0}
IsWaiting m (Some a) = (a.lead ≤ m) × (m < a.change)

-- a command that is announced at m
abbrev pub IsAhead : ℕ → Option Accepted → Type 0
IsAhead m None = Unit {0}
IsAhead m (Some a) = (m < a.lead) × (m < a.change)

-- the three commands that count from m on
abbrev pub three : Option Accepted → Option Accepted → Option Accepted → List Accepted
three f p x = cons_some f (cons_some p (cons_some x []))

-- the commands in force, pending and announced at m
pub record IsSettled (m : ℕ) (f p x : Option Accepted) : Type 0 where
  pub old : IsOld m f (cons_some p (cons_some x []))
  pub waiting : IsWaiting m p
  pub ahead : IsAhead m x
