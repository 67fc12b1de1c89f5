-- The commands that count at a moment (IEEE Std 802.1Q-2018, 8.6.9.3 List Config).
use Rattle.std.specs.Prelude.{◌<◌, ◌≤◌, ℕ, ◌*◌, ◌&&◌, nat_le, nat_lt, List, [], Option, Some, None, option_map}
use denote.Bor.{Bor}
use Rattle.std.specs.Option.{ForSome, option_or}
use Rattle.wire_time.specs.Moment.{greatest_moment}
use Rattle.gates.specs.Gate.{IsSchedule}
use Rattle.gates.specs.History.{Accepted, cons_some, only_if, is_in_time, three, IsSettled, IsRising}
use Rattle.gates.specs.Current.{deletion_at}
use Rattle.gates.specs.Stretch.{Stretch, mask_in, stretches_from}
use Rattle.jumping.specs.declared.accepted_commands.command.AcceptedCommand.{AcceptedCommand}
use Rattle.jumping.specs.declared.accepted_commands.command.AcceptedCommand.TheVariants.{Install, Delete}

-- what a command that is kept stands for
abbrev pub accepted_in : AcceptedCommand → Accepted
accepted_in (Install list) = record { lead = list.lead; change = list.change; plan = Some list.schedule }
accepted_in (Delete lead) = deletion_at lead

-- the borrowed command, if any
abbrev pub command_of : Option (Bor AcceptedCommand) → Option Accepted
command_of lent = option_map (λ (c : Bor AcceptedCommand). accepted_in c.now) lent

-- the commands in force, pending and announced at a moment
pub record Commands : Type 0 where
  pub moment : ℕ
  pub in_force : Option Accepted
  pub pending : Option Accepted
  pub announced : Option Accepted

-- at moment 0, before the first command
abbrev pub no_commands : Commands
no_commands = record { moment = 0; in_force = None; pending = None; announced = None }

-- the history that the three slots stand for, oldest first
abbrev pub history_of : Commands → List Accepted
history_of c = three c.in_force c.pending c.announced

-- what the gates show from their moment on
abbrev pub stretches_of : Commands → List Stretch
stretches_of c = stretches_from c.in_force (cons_some c.pending (cons_some c.announced []))

-- the mask that they show at a moment from theirs on
abbrev pub mask_ahead : Commands → ℕ → ℕ
mask_ahead c = mask_in (stretches_of c)

-- a command whose schedule, if it has one, can be walked
pub record IsUsable (a : Accepted) : Type 0 where
  pub timely : a.lead ≤ a.change
  pub near : a.change ≤ 2 * greatest_moment
  pub planned : ForSome a.plan IsSchedule

-- what holds of them
pub record AreCommands (c : Commands) : Type 0 where
  pub within : c.moment ≤ greatest_moment
  pub settled : IsSettled c.moment c.in_force c.pending c.announced
  pub rising : IsRising 0 (history_of c)
  pub in_force_usable : ForSome c.in_force IsUsable
  pub pending_usable : ForSome c.pending IsUsable
  pub announced_usable : ForSome c.announced IsUsable

-- the command in force at n, by those in force, pending and announced before
abbrev pub in_force_by : Option Accepted → Option Accepted → Option Accepted → ℕ → Option Accepted
in_force_by f p x n = option_or (only_if (λ a. nat_le a.change n) x) (option_or (only_if (λ a. nat_le a.change n && is_in_time a (cons_some x [])) p) f)

-- the command that is pending at n, of those in force, pending and announced at an earlier moment
abbrev pub pending_by : Option Accepted → Option Accepted → Option Accepted → ℕ → Option Accepted
pending_by f p x n = only_if (λ a. nat_lt n a.change) (option_or (only_if (λ a. nat_le a.lead n) x) (option_or p f))

-- the command that is still announced at n
abbrev pub announced_by : Option Accepted → ℕ → Option Accepted
announced_by x n = only_if (λ a. nat_lt n a.lead) x

-- those that count at a later moment
abbrev pub settled_at : Commands → ℕ → Commands
settled_at c n = record {
  moment = n;
  in_force = in_force_by c.in_force c.pending c.announced n;
  pending = pending_by c.in_force c.pending c.announced n;
  announced = announced_by c.announced n;
}

-- the one that is pending changes the gates later, and the lead moment of the one that is announced is later
abbrev pub NoneBy : Option Accepted → Option Accepted → ℕ → Type 0
NoneBy p x m = ForSome p (λ a. m < a.change) × ForSome x (λ a. m < a.lead)
