-- The words of contracts and proofs, from one place.
pub use Rattle.wire_time.specs.Moment.{greatest_lead, greatest_moment}
pub use Rattle.wire_time.specs.Wire.{lead_of}
pub use Rattle.gates.specs.Gate.{opens, plan_fault}
pub use Rattle.gates.specs.Current.{IsCurrent, IsSteady, accepted_at, deletion_at, longest, with_command}
pub use Rattle.gates.specs.Event.{IsGateEvent}
pub use Rattle.gates.specs.History.{Accepted, gates, kept}
pub use Rattle.abstract_port.specs.AbstractPort.{AbstractPort, installs, plan_asked}
pub use Rattle.abstract_port.specs.declared.Command.{Command}
pub use Rattle.picture.specs.Bands.{Going, after}
unfoldable pub use Rattle.picture.specs.Bands.{bands_from}
unfoldable pub use Rattle.gates.specs.Open.{open_while}
unfoldable pub use Rattle.picture.specs.Drawn.{mixed_pieces, opens_within, whole_pieces}
pub use Rattle.picture.specs.Drawn.{AreBoundaries, ArePieces, AreUsedUp, ClassLane, Drawing, IsBoundary, IsDrawnInPieces, IsGoneOn, IsPiece, begun, class_at, drawn, drawn_mixed, drawn_whole, first_drawn, history_with, is_mixed, most_asked, most_mixed, most_moved, new_drawing, no_bands, no_needs, no_classes, piece_of, stepped, up_to, with_bands, with_plan}
pub use Rattle.picture.specs.Lanes.{AreEarly, Filled, are_joined, band_pushed, bunched, distance, is_near, is_short, join, join_all_by, join_from, joined, joined_at, no_shapes, pixel_to, pushed, roomy, wider}
unfoldable pub use Rattle.picture.specs.Lanes.{join_by, least_distance, put}
pub use Rattle.picture.specs.Laws.{AreBands, AreLongKept, IsLaneOf, Joins}
unfoldable pub use Rattle.picture.specs.Laws.{push_shapes}
pub use Rattle.picture.specs.Ticks.{IsTickStep, name_of, ps_of, unit_of}
pub use Rattle.picture.specs.Viewports.{cut_to, pixel_of, viewport_of, x_in}
pub use Rattle.picture.specs.declared.TheConstants.{MAX_WIDTH, MOST_BOUNDARIES, MOST_SHAPES}
pub use Rattle.picture.specs.declared.span.Shape.{Shape}
pub use Rattle.picture.specs.declared.span.Span.{Span}
