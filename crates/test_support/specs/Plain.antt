-- What the commands of the list mean.
use Rattle.std.specs.Prelude.{◌≤◌, ℕ, Bool, true, false, ◌&&◌, if◌then◌else◌, nat_lt, List, [], ◌∷◌, Option, option_map, map}
use Rattle.std.specs.Option.{is_none}
use denote.Bor.{Bor}
use Rattle.gates.specs.Current.{Clocked}
use Rattle.gates.specs.History.{Accepted, in_force, is_in_time, latest}
use Rattle.test_support.specs.declared.reference.accepted.RecordedCommand.{RecordedCommand}

-- the command that a value stands for
abbrev pub accepted_in : RecordedCommand → Accepted
accepted_in a = record { lead = a.lead; change = a.change; plan = a.schedule }

-- the borrowed command, if any
abbrev pub command_of : Option (Bor RecordedCommand) → Option Accepted
command_of lent = option_map (λ (a : Bor RecordedCommand). accepted_in a.now) lent

-- whether a list has no command
abbrev pub has_none : List Accepted → Bool
has_none [] = true
has_none (a ∷ rest) = false

-- whether a command counts at m, where those of the list follow it: as the one announced, pending or in force
abbrev pub counts : Accepted → List Accepted → ℕ → Bool
counts a rest m =
    if nat_lt m a.lead then has_none rest
    else if nat_lt m a.change then is_none (latest rest m)
    else is_none (in_force rest m) && is_in_time a rest

-- what holds of each command of a list
abbrev pub AreSound : List Accepted → Type 0
AreSound [] = Unit {0}
AreSound (a ∷ rest) = (a.lead ≤ a.change) × AreSound rest

-- a value by its list and its moment
abbrev pub clocked : List RecordedCommand → ℕ → Clocked
clocked commands m = record { history = map accepted_in commands; moment = m }
