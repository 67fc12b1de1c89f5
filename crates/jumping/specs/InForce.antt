-- Where the list of the command in force stands, and what shows with a change pending (IEEE Std 802.1Q-2018, 8.6.9.1 to 8.6.9.3).
use Rattle.std.specs.Prelude.{◌≡◌, ℕ, min, Option, Some, None, option_map}
use denote.Bor.{Bor}
use Rattle.gates.specs.Gate.{Plan, last_mask, mask_since}
use Rattle.gates.specs.History.{Accepted, plan_of, start_of}
use Rattle.gates.specs.Stretch.{hold_of}
use Rattle.gates.specs.Current.{Clocked}
use Rattle.gates.specs.Walk.{walk_mask}
use Rattle.jumping.specs.declared.list_position.Position.{Position}
use Rattle.jumping.specs.Position.{IsPlaced, boundary_of}
use Rattle.jumping.specs.declared.accepted_commands.command.AcceptedList.{AcceptedList}
use Rattle.jumping.specs.declared.accepted_commands.command.AcceptedCommand.{AcceptedCommand}
use Rattle.jumping.specs.declared.accepted_commands.command.AcceptedCommand.TheVariants.{Install, Delete}
use Rattle.jumping.specs.Commands.{Commands, accepted_in, history_of}

-- the boundary from which the last state is held for the change that is pending, if one is
abbrev pub hold_for : Option Plan → ℕ → Option Accepted → Option ℕ
hold_for plan start None = None
hold_for plan start (Some next) = hold_of plan start next

-- a position is where the plan since start stands at n, held from a moment on; without a plan there is none
abbrev pub StandsAs : Option Plan → ℕ → Option ℕ → ℕ → Option Position → Type 0
StandsAs None start held n position = position ≡ None
StandsAs (Some plan) start held n None = ⊥
StandsAs (Some plan) start held n (Some position) = IsPlaced plan start held n position

-- a position is where the plan since start stands at n with a change pending; without a plan there is none
abbrev pub StandsUnder : Option Plan → ℕ → Option Accepted → ℕ → Option Position → Type 0
StandsUnder plan start next n position = StandsAs plan start (hold_for plan start next) n position

-- The list of the command in force stands so at n, held from a moment on; there is none where all classes are open.
abbrev pub StandsHeld : Option Accepted → Option ℕ → ℕ → Option Position → Type 0
StandsHeld now held n position = StandsAs (plan_of now) (start_of now) held n position

-- the moment from which the command in force is held for the change that is pending, if one is
abbrev pub held_under : Option Accepted → Option Accepted → Option ℕ
held_under now next = hold_for (plan_of now) (start_of now) next

-- The list of the command in force stands so at n; there is none where all classes are open.
abbrev pub Stands : Option Accepted → Option Accepted → ℕ → Option Position → Type 0
Stands now next n position = StandsHeld now (held_under now next) n position

-- The next boundary of the list of the command in force.
abbrev pub boundary_under : Option Plan → ℕ → Option Accepted → Option Position → Option ℕ
boundary_under None start next position = None
boundary_under (Some plan) start next None = None
boundary_under (Some plan) start next (Some position) = boundary_of (hold_for (Some plan) start next) position

-- the next boundary of the command in force, with a change pending
abbrev pub boundary_in_force : Option Accepted → Option Accepted → Option Position → Option ℕ
boundary_in_force now next position = boundary_under (plan_of now) (start_of now) next position

-- what the command in force shows, with this change pending
abbrev pub shows_under : Option Accepted → Option Accepted → ℕ → ℕ
shows_under now next m = mask_since (plan_of now) (start_of now) (held_under now next) m

-- the earlier of two moments, if any
abbrev pub earlier : Option ℕ → Option ℕ → Option ℕ
earlier None b = b
earlier (Some s) None = Some s
earlier (Some s) (Some t) = Some (min s t)

-- the mask that is shown where a list stands so
abbrev pub shown_by : Option Position → ℕ
shown_by None = 255
shown_by (Some position) = walk_mask position.walk

-- The next moment at which a boundary of the list comes, or a command does.
abbrev pub edge_at : Commands → Option Position → Option ℕ
edge_at c position =
    earlier (boundary_in_force c.in_force c.pending position) (earlier (option_map (λ a. a.change) c.pending) (option_map (λ a. a.lead) c.announced))

-- ---- the places that commands carry

-- where the list of a command stands, if it has one
abbrev pub position_in : AcceptedCommand → Option Position
position_in (Install list) = Some list.position
position_in (Delete lead) = None

-- the position that a command in force carries, if there is a command
abbrev pub option_position : Option AcceptedCommand → Option Position
option_position None = None
option_position (Some command) = position_in command

-- the position that a borrowed command carries, if there is a command
abbrev pub position_lent : Option (Bor AcceptedCommand) → Option Position
position_lent None = None
position_lent (Some command) = position_in command.now

-- where a list stands, as it is lent
abbrev pub lent_position : Option (Bor Position) → Option Position
lent_position None = None
lent_position (Some position) = Some position.now

-- what an accepted list is in a history
abbrev pub accepted_list : AcceptedList → Accepted
accepted_list list = accepted_in (Install list)

-- the list of a command and where it stands, if it has one
abbrev pub IsListOf : Option Accepted → Option Position → Option (Bor AcceptedList) → Type 0
IsListOf command position None = (plan_of command ≡ None) × (position ≡ None)
IsListOf command position (Some list) = (command ≡ Some (accepted_list list.now)) × (position ≡ Some list.now.position)

-- the position of a list has the list's last mask
abbrev pub EndsBy : Option Plan → Option Position → Type 0
EndsBy None position = Unit {0}
EndsBy (Some plan) None = Unit {0}
EndsBy (Some plan) (Some position) = position.last_mask ≡ last_mask plan.entries

-- a position ends where the plan of the command in force says
abbrev pub EndsSo : Option Accepted → Option Position → Type 0
EndsSo command position = EndsBy (plan_of command) position

-- a list stands at the moment from which it is to be in force
abbrev pub IsFirst : AcceptedCommand → Type 0
IsFirst command = Stands (Some (accepted_in command)) None (accepted_in command).change (position_in command)

-- the commands that count, and where the list in force stands
pub record Standing : Type 0 where
  pub commands : Commands
  pub position : Option Position

-- the history and the moment of the commands that count
abbrev pub clocked : Standing → Clocked
clocked s = record { history = history_of s.commands; moment = s.commands.moment }
