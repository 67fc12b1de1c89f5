-- What a gates value is, and what it answers to commands.
use Rattle.std.specs.Prelude.{◌≡◌, ◌<◌, ◌≤◌, ℕ, max, List, [], ◌∷◌, ◌++◌, length, Option, Some, None, Result, Ok, Err}
use Rattle.wire_time.specs.Moment.{greatest_moment}
use Rattle.gates.specs.Gate.{Plan, change_of}
use Rattle.gates.specs.History.{Accepted, gates, announced, kept, IsRising, ArePast}
use Rattle.gates.specs.declared.list_config.Installed.{Installed}
use Rattle.gates.specs.declared.list_config.NotNow.{NotNow}
use Rattle.gates.specs.declared.list_config.NotNow.TheVariants.{Busy}

-- a history that can be at the moment m, and holds nothing that is past
pub record IsCurrent (history : List Accepted) (m : ℕ) : Type 0 where
  pub within : m ≤ greatest_moment
  pub rising : IsRising 0 history
  pub past : ArePast m history
  pub kept_whole : kept history m ≡ history

-- what a contract sees of gates: a history and a moment
pub record Clocked : Type 0 where
  pub history : List Accepted
  pub moment : ℕ

-- the gates show one mask from a moment up to another
abbrev pub IsSteady : List Accepted → ℕ → ℕ → Type 0
IsSteady history from upto = (m : ℕ) → from ≤ m → m < upto → gates history m ≡ gates history from

-- how many entries a plan has, if there is one
abbrev pub entry_count : Option Plan → ℕ
entry_count None = 0
entry_count (Some plan) = length plan.entries

-- the greatest length of a list of a history
abbrev pub longest : List Accepted → ℕ
longest [] = 0
longest (a ∷ rest) = max (entry_count a.plan) (longest rest)

-- the command of a plan with a lead moment
abbrev pub accepted_at : ℕ → Plan → Accepted
accepted_at lead plan = record { lead = lead; change = change_of plan lead; plan = Some plan }

-- the deletion with a lead moment
abbrev pub deletion_at : ℕ → Accepted
deletion_at lead = record { lead = lead; change = lead; plan = None }

-- the change moment of a command at m, unless one waits for its lead moment
abbrev pub answer_by : Option Accepted → Accepted → Result ℕ NotNow
answer_by None a = Ok a.change
answer_by (Some waits) a = Err (Busy waits.lead)

-- what a command answers at a moment
abbrev pub answer_to : List Accepted → ℕ → Accepted → Result ℕ NotNow
answer_to history m a = answer_by (announced history m) a

-- the history with that command, if it is accepted
abbrev pub with_command_by : Option Accepted → List Accepted → Accepted → List Accepted
with_command_by None history a = history ++ a ∷ []
with_command_by (Some waits) history a = history

-- the history after a command at a moment
abbrev pub with_command : List Accepted → ℕ → Accepted → List Accepted
with_command history m a = with_command_by (announced history m) history a

-- a command as it is reported
abbrev pub installed_plan : ℕ → Option Plan → Installed
installed_plan change None = record { change = change; base_ns = 0; cycle_ns = 0; extension_ns = 0; entries = 0 }
installed_plan change (Some plan) = record { change = change; base_ns = plan.base; cycle_ns = plan.cycle; extension_ns = plan.extension; entries = length plan.entries }

-- a command as it is reported
abbrev pub installed_of : Accepted → Installed
installed_of a = installed_plan a.change a.plan
