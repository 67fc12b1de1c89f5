-- The words of contracts and proofs, from one place.
pub use Rattle.wire_time.specs.Moment.{greatest_moment}
pub use Rattle.abstract_port.specs.AbstractPort.{AbstractPort, installs, settled}
pub use Rattle.abstract_port.specs.Answers.{answers_to}
pub use Rattle.abstract_port.specs.Asked.{answers_left}
pub use Rattle.abstract_port.specs.Sound.{IsSoundPort}
pub use Rattle.abstract_port.specs.declared.Command.{Command}
pub use Rattle.capture.specs.CaptureReader.{left}
pub use Rattle.capture.specs.Records.{Entry}
pub use Rattle.capture.specs.declared.fault.CapFault.{CapFault}
pub use Rattle.capture.specs.declared.reader.End.{End}
pub use Rattle.text.specs.LineReader.{script_left}
pub use Rattle.text.specs.Script.{Script}
pub use Rattle.port_text.specs.Reader.{IsReader}
pub use Rattle.port_text.specs.declared.tc_reader.fault.TcFault.{TcFault}
pub use Rattle.job.specs.declared.fault.Fault.{Fault}
pub use Rattle.picture.specs.Lanes.{Filled, joined_at, no_shapes}
pub use Rattle.picture.specs.Viewports.{pixel_of, x_in}
pub use Rattle.picture.specs.declared.TheConstants.{MOST_SHAPES}
pub use Rattle.replay.specs.KeptScript.{kept_requests}
pub use Rattle.replay.specs.Merge.{came_from, merged, timed_from}
pub use Rattle.replay.specs.Outcome.{ReadsAs, is_too_late}
pub use Rattle.replay.specs.RecordsLeft.{Comes, EndsSo}
pub use Rattle.replay.specs.RunEnd.{run_end}
pub use Rattle.replay.specs.Texts.{replay_telling}
pub use Rattle.replay.specs.declared.faults.ReplayInput.{ReplayInput}
pub use Rattle.script.specs.ScriptEnd.{settings_given}
pub use Rattle.script.specs.Given.{octets_of, words_of_values}
pub use Rattle.script.specs.Outcome.{Reading, reading_of}
pub use Rattle.script.specs.Requests.{Asks, Request, tc_request}
pub use Rattle.script.specs.declared.faults.BadLine.{BadLine}
pub use Rattle.drawing.specs.Course.{Course, nothing_seen, seen_all, seen_at}
unfoldable pub use Rattle.drawing.specs.Course.{all_wait_on}
pub use Rattle.drawing.specs.PictureEnd.{BandsOf, ForSomeBands, IsDrawEnding, IsDrawn, IsDrawnFrom, WhereDrawn, WhereOk, outcome_drawn, picture_after, picture_of}
pub use Rattle.drawing.specs.Given.{words_of_draws}
pub use Rattle.drawing.specs.Layout.{label_at, place_of, top_of}
pub use Rattle.drawing.specs.Options.{beginning_in, end_in, is_open, options_of, origin_of, view_of, viewport_shown, width_in, width_where}
pub use Rattle.drawing.specs.Scope.{frame_came, schedule_given, view_in}
pub use Rattle.drawing.specs.Shapes.{IsJoined, change_drawn, in_time, drawn_in, empty_lanes, frame_drawn, is_drawn, lane_at, lane_of, nothing_shown, shape_count, shape_of, wait_drawn}
unfoldable pub use Rattle.drawing.specs.Shapes.{bands_to, shapes_to, waits_on}
pub use Rattle.drawing.specs.Taken.{course_on, last_moment, port_on, seen_by}
pub use Rattle.drawing.specs.View.{shows}
pub use Rattle.drawing.specs.OfCapture.{BandsOfBoth, IsCapturePicture, IsDrawnBeside, IsDrawnWhole, WhereWhole, asked_to, picture_of_capture, picture_read}
pub use Rattle.drawing.specs.Walk.{Draws, DrawsAll, DrawsOne, Place, drawn_place, first_place}
pub use Rattle.drawing.specs.Arrivals.{none_wait, none_waits, waiting_in, with_arrival, without_first}
