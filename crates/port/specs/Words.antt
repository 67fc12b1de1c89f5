-- The words of contracts and proofs, from one place.
pub use Rattle.wire_time.specs.Moment.{greatest_lead, greatest_moment}
pub use Rattle.wire_time.specs.Wire.{lead_of, occupancy_of, sdu_of}
pub use Rattle.wire_time.specs.declared.Frame.{Frame}
pub use Rattle.abstract_port.specs.Eight.{eight}
pub use Rattle.gates.specs.Gate.{plan_fault}
pub use Rattle.gates.specs.Current.{IsCurrent, longest}
pub use Rattle.gates.specs.History.{gates}
pub use Rattle.abstract_port.specs.Queue.{IsRoom, Queue, empty_queue}
pub use Rattle.abstract_port.specs.AbstractPort.{AbstractPort, changes_map, changes_queues, default_class, first_over, head_need, installs_by, judged, plan_asked, queue_of, refusal}
pub use Rattle.abstract_port.specs.FrameCounts.{AreCapped, AreCounted, count_dropped, no_counts}
pub use Rattle.abstract_port.specs.Sound.{FitsLead, IsMtu, IsSoundPort}
pub use Rattle.abstract_port.specs.declared.Answer.{Answer}
pub use Rattle.abstract_port.specs.declared.Refused.{Refused}
pub use Rattle.abstract_port.specs.declared.Refused.TheVariants.{Schedule}
pub use Rattle.abstract_port.specs.Hindsight.{IsOpenInHindsight}
pub use Rattle.port.specs.Limits.{is_mtu, is_room}
pub use Rattle.port.specs.View.{IsKept, busy_of, frames_of, no_queue, queue_at, with_frames}
