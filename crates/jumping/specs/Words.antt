-- The words of contracts and proofs, from one place.
pub use Rattle.wire_time.specs.Moment.{greatest_moment}
pub use Rattle.gates.specs.Gate.{IsSchedule, IsShownAt, Plan, has_come, in_ps, mask_since, opens, prefix}
unfoldable pub use Rattle.gates.specs.Open.{open_while}
pub use Rattle.gates.specs.Stay.{NoneFrom}
pub use Rattle.gates.specs.Cycle.{Cycle}
pub use Rattle.gates.specs.Walk.{end_of}
pub use Rattle.gates.specs.Current.{Clocked, IsCurrent, entry_count, longest, with_command}
pub use Rattle.gates.specs.Event.{IsGateEvent}
pub use Rattle.gates.specs.History.{Accepted, cons_some, gates, kept, open_through, plan_of, start_of, three}
pub use Rattle.gates.specs.Stretch.{Stretch, mask_in, mask_of, stretches_from}
pub use Rattle.jumping.specs.Position.{BeginsAtMost, IsFlat, IsPlaced, boundary_in}
pub use Rattle.jumping.specs.declared.list_position.Position.{Position}
pub use Rattle.jumping.specs.Commands.{AreCommands, Commands, NoneBy, history_of, mask_ahead, settled_at, stretches_of}
pub use Rattle.jumping.specs.Leg.{AreReady, DoFollow, Following, IsReady, from_of, lent_leg, lent_rest, stretch_in, stretch_of, stretches_ahead, stretches_in, until_of}
pub use Rattle.jumping.specs.Resume.{Resumes}
pub use Rattle.jumping.specs.InForce.{Stands, edge_at, shown_by}
pub use Rattle.jumping.specs.declared.accepted_commands.leg.Leg.TheVariants.{Listed}
pub use Rattle.jumping.specs.declared.accepted_commands.leg.ListedLeg.{ListedLeg}
pub use Rattle.jumping.specs.Alone.{AreAsked, IsLoneList, IsPlace, IsShown, repeated, shows_alone}
pub use Rattle.jumping.specs.Edge.{IsEdge, NothingComes, OneEntryComes}
pub use Rattle.jumping.specs.Search.{Fits, IsSearch, NoneFits, Searched, most_in, most_visits, up_to}
