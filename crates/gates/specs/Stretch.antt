-- The gates from a moment on, as stretches of one plan each.
use Rattle.std.specs.Prelude.{ℕ, ◌+◌, ◌-◌, max, min, if◌then◌else◌, List, [], ◌∷◌, Option, Some, None}
use Rattle.gates.specs.Gate.{Plan, in_ps, boundary_from, has_come, mask_since}
use Rattle.gates.specs.History.{Accepted, plan_of, start_of, is_in_time, in_force, pending, announced, cons_some}

-- The gates are those of the plan, whose cycles began at start, up to the moment until (None: for ever), and of its last
-- entry from the moment held_from on. Where there is no plan all classes are open.
pub record Stretch : Type 0 where
  pub plan : Option Plan
  pub start : ℕ
  pub held_from : Option ℕ
  pub until : Option ℕ

-- what a stretch shows at m
abbrev pub mask_of : Stretch → ℕ → ℕ
mask_of stretch m = mask_since stretch.plan stretch.start stretch.held_from m

-- the mask at m, by the first stretch that is not over
abbrev pub mask_in : List Stretch → ℕ → ℕ
mask_in [] m = 255
mask_in (s ∷ rest) m = if has_come s.until m then mask_in rest m else mask_of s m

-- those that are not over at m
abbrev pub left_at : List Stretch → ℕ → List Stretch
left_at [] m = []
left_at (s ∷ rest) m = if has_come s.until m then left_at rest m else s ∷ rest

-- The first boundary at which the last state is held for the change next: after start, from next's lead moment on, and
-- no further from its change than the extension.
abbrev pub hold_of : Option Plan → ℕ → Accepted → Option ℕ
hold_of None start next = None
hold_of (Some plan) start next =
    Some (boundary_from start (in_ps plan.cycle) (max (start + 1) (max next.lead (next.change - in_ps plan.extension))))

-- the command now in force, if any, up to a moment, where next is the change that it is held for
abbrev pub stretch_to : Option Accepted → Accepted → ℕ → Stretch
stretch_to now next until =
    record { plan = plan_of now; start = start_of now; held_from = hold_of (plan_of now) (start_of now) next; until = Some until }

-- the command now in force, for ever
abbrev pub last_stretch : Option Accepted → Stretch
last_stretch now = record { plan = plan_of now; start = start_of now; held_from = None; until = None }

-- The moment up to which a command is awaited: its change moment, or where it is not in time the lead of its follower.
abbrev pub awaited_to : Accepted → List Accepted → ℕ
awaited_to a [] = a.change
awaited_to a (b ∷ rest) = min a.change b.lead

-- the stretches from when a command is in force, through the commands that follow
abbrev pub stretches_from : Option Accepted → List Accepted → List Stretch
stretches_from now [] = last_stretch now ∷ []
stretches_from now (a ∷ rest) =
    stretch_to now a (awaited_to a rest) ∷ stretches_from (if is_in_time a rest then Some a else now) rest

-- the stretches of a history from m on: at most three
abbrev pub stretches : List Accepted → ℕ → List Stretch
stretches history m =
    stretches_from (in_force history m) (cons_some (pending history m) (cons_some (announced history m) []))
