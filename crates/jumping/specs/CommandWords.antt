-- The words of contracts and proofs, from one place.
pub use Rattle.wire_time.specs.Moment.{greatest_lead, greatest_moment}
pub use Rattle.gates.specs.Gate.{IsSchedule, Plan, boundary_from, in_ps, last_mask, mask_since, opens}
unfoldable pub use Rattle.gates.specs.Open.{open_while}
pub use Rattle.gates.specs.Visits.{one_more}
pub use Rattle.gates.specs.Walk.{more, walk_mask}
pub use Rattle.gates.specs.Current.{accepted_at, deletion_at, entry_count, installed_of}
pub use Rattle.gates.specs.Event.{IsGateEvent}
pub use Rattle.gates.specs.History.{Accepted, cons_some, gates, is_in_time, plan_of, start_of}
pub use Rattle.gates.specs.Stretch.{hold_of, mask_in, mask_of, stretches_from}
pub use Rattle.jumping.specs.Position.{BeginsAtMost, IsFlat, IsPlaced, StoodBy, boundary_of}
pub use Rattle.jumping.specs.declared.list_position.Position.{Position}
pub use Rattle.jumping.specs.Commands.{AreCommands, Commands, IsUsable, NoneBy, accepted_in, command_of, history_of, mask_ahead, no_commands, settled_at, stretches_of}
pub use Rattle.jumping.specs.Leg.{AreReady, DoFollow, Following, IsReady, IsStanding, from_of, lent_leg, lent_rest, rest_of, stretch_in, stretch_held, stretch_of, stretch_under, stretches_ahead, until_of}
pub use Rattle.jumping.specs.Resume.{Resumes}
pub use Rattle.jumping.specs.Roles.{AreKept, IsLent, Kept, commands_at, kept_in}
pub use Rattle.jumping.specs.InForce.{EndsSo, IsFirst, IsListOf, Standing, Stands, StandsHeld, StandsUnder, accepted_list, boundary_in_force, earlier, edge_at, held_under, hold_for, lent_position, option_position, position_in, position_lent, shown_by, shows_under}
pub use Rattle.jumping.specs.declared.accepted_commands.command.AcceptedCommand.{AcceptedCommand}
pub use Rattle.jumping.specs.declared.accepted_commands.command.AcceptedCommand.TheVariants.{Delete, Install}
pub use Rattle.jumping.specs.declared.accepted_commands.leg.Leg.TheVariants.{Listed}
pub use Rattle.jumping.specs.declared.accepted_commands.leg.ListedLeg.{ListedLeg}
