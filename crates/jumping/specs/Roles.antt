-- Which commands are in force, pending and announced, each in a place of its own (IEEE Std 802.1Q-2018, 8.6.9.3 List Config).
use Rattle.std.specs.Prelude.{◌≡◌, ◌≢◌, ◌<◌, ℕ, if◌then◌else◌, List, slice_index_or, Option, Some, None, option_map}
use denote.Bor.{Bor}
use Rattle.std.specs.Option.{ForSome}
use Rattle.jumping.specs.declared.accepted_commands.command.AcceptedCommand.{AcceptedCommand}
use Rattle.jumping.specs.declared.accepted_commands.command.AcceptedCommand.TheVariants.{Delete}
use Rattle.jumping.specs.declared.accepted_commands.roles.Role.{Role}
use Rattle.jumping.specs.Commands.{AreCommands, Commands, accepted_in, command_of}
use Rattle.jumping.specs.InForce.{EndsSo, IsFirst, option_position, position_lent}

-- the commands in force, pending and announced, as they are kept
pub record Kept : Type 0 where
  pub in_force : Option AcceptedCommand
  pub pending : Option AcceptedCommand
  pub announced : Option AcceptedCommand

-- the command that has a role, if one has
abbrev pub kept_in : List AcceptedCommand → Role → Option AcceptedCommand
kept_in places role = if role.is_taken then Some (slice_index_or places role.place (Delete 0)) else None

-- each role has one of three places to itself
pub record AreApart (in_force pending announced : ℕ) : Type 0 where
  pub first : in_force < 3
  pub second : pending < 3
  pub third : announced < 3
  pub others : (in_force ≢ pending) × (pending ≢ announced) × (in_force ≢ announced)

-- the commands that count at a moment, by those that are kept
abbrev pub commands_at : ℕ → Kept → Commands
commands_at n kept = record {
  moment = n;
  in_force = option_map accepted_in kept.in_force;
  pending = option_map accepted_in kept.pending;
  announced = option_map accepted_in kept.announced;
}

-- what holds of the commands that are kept at a moment
pub record AreKept (n : ℕ) (kept : Kept) : Type 0 where
  pub sound : AreCommands (commands_at n kept)
  pub ends : EndsSo (option_map accepted_in kept.in_force) (option_position kept.in_force)
  pub next : ForSome kept.pending IsFirst
  pub last : ForSome kept.announced IsFirst

-- a command that is kept, if there is one, is lent
pub record IsLent (kept : Option AcceptedCommand) (lent : Option (Bor AcceptedCommand)) : Type 0 where
  pub command : command_of lent ≡ option_map accepted_in kept
  pub position : position_lent lent ≡ option_position kept
  pub first : ForSome kept IsFirst → ForSome lent (λ c. IsFirst c.now)
