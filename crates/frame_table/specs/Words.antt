-- The words of contracts and proofs, from one place.
pub use Rattle.wire_time.specs.Moment.{greatest_moment}
pub use Rattle.abstract_port.specs.AbstractPort.{AbstractPort, settled}
pub use Rattle.abstract_port.specs.Answers.{answers_to}
pub use Rattle.abstract_port.specs.Laws.{starts_in}
pub use Rattle.abstract_port.specs.Sound.{IsSoundPort}
pub use Rattle.abstract_port.specs.declared.Command.{Command}
pub use Rattle.abstract_port.specs.declared.Event.{Event}
pub use Rattle.abstract_port.specs.declared.Event.TheVariants.{Arrive, Clock, Count, Install, Query}
pub use Rattle.text.specs.Words.{words_of}
pub use Rattle.text.specs.Writes.{FallsShort, Sent, Writes}
pub use Rattle.text.specs.LineReader.{Advances, current_line, current_number, most_lines, script_left}
pub use Rattle.text.specs.Script.{Script}
pub use Rattle.port_text.specs.Reader.{IsReader}
pub use Rattle.port_text.specs.declared.tc_reader.fault.TcFault.{TcFault}
pub use Rattle.job.specs.Lines.{Steps}
pub use Rattle.job.specs.Outcome.{Outcome, Runs, RunsOut}
pub use Rattle.job.specs.declared.fault.Fault.{Fault}
pub use Rattle.script.specs.ScriptEnd.{IsEnding, settings_given}
pub use Rattle.script.specs.Given.{words_of_values}
pub use Rattle.script.specs.Outcome.{Reading, asked_in, bad_line, long_line, reading_of}
pub use Rattle.script.specs.Requests.{Asks, NoCommand, Request, request_of, said_in, tc_request}
pub use Rattle.script.specs.Responses.{events_of, responses_to}
pub use Rattle.script.specs.declared.faults.BadLine.{BadLine}
pub use Rattle.script.specs.declared.faults.ScriptFault.{ScriptFault}
pub use Rattle.frame_table.specs.ByStream.{IsByStreamEnding, frames_by_stream, frames_in, frames_unless, of_script, script_input, script_inputs, script_run}
pub use Rattle.capture.specs.CaptureReader.{left}
pub use Rattle.capture.specs.Record.{entry, frame_of}
pub use Rattle.capture.specs.Records.{Entry}
pub use Rattle.capture.specs.declared.fault.CapFault.{CapFault}
pub use Rattle.capture.specs.declared.reader.End.{End}
pub use Rattle.replay.specs.KeptScript.{IsKept, kept_request, kept_requests}
pub use Rattle.replay.specs.LinesLeft.{lines_left}
pub use Rattle.replay.specs.Merge.{Timed, all_requests, before_end, came_from, lines_after, lines_by, lines_past, merged, requests_of, timed_from, to_run_end}
pub use Rattle.replay.specs.Outcome.{ReadsAs, end_fault, is_too_late}
pub use Rattle.replay.specs.RecordsLeft.{Comes, EndsSo}
pub use Rattle.replay.specs.RunEnd.{run_end}
pub use Rattle.replay.specs.Texts.{replay_telling}
pub use Rattle.replay.specs.declared.faults.ReplayInput.{ReplayInput}
pub use Rattle.frame_table.specs.OfCapture.{IsCaptureEnding, RunsBoth, fault_of, frames_of_capture, run_of, run_of_both, table_of_both}
pub use Rattle.frame_table.specs.Alerts.{IsWatchedByStream, IsWatchedCapture, IsWatchedFrames, WatchedRun, alerts_after, alerts_from, alerts_in, asked_alerts, by_stream_alerts, capture_alerts, ending_alerts, frames_alerts, judged_row, judged_rows, left_alerts, request_alerts}
pub use Rattle.frame_table.specs.Walk.{Carries, EndsHere, GoesOn, Place, Stands, alerts_at, place, table_at}
pub use Rattle.frame_table.specs.TakenRows.{StopsKept, TakesKept, TakesRows}
pub use Rattle.frame_table.specs.Outcome.{IsAfter, ending_text, frames_by, frames_of, rows_told, run_of_halt, table_after, table_by, table_from, table_unless, whole_frames, with_head}
pub use Rattle.frame_table.specs.RowText.{head_line, row_line, rows_text}
pub use Rattle.frame_table.specs.Deadline.{has_deadlines}
pub use Rattle.frame_table.specs.StreamOf.{has_frame, ids_table, stream_in}
pub use Rattle.frame_table.specs.Rows.{arrival_at, arrives, departs, left_row, left_rows, rows_at, rows_by, rows_of, sent_row, table_of}
unfoldable pub use Rattle.frame_table.specs.Rows.{left_from}
pub use Rattle.frame_table.specs.Waits.{comes, first_came, goes, none_wait, waiting_in}
pub use Rattle.frame_table.specs.declared.rows.Arrival.{Arrival}
pub use Rattle.frame_table.specs.declared.rows.FrameRow.{FrameRow}
pub use Rattle.traffic.specs.Faults.{streams_telling}
pub use Rattle.traffic.specs.Table.{Table}
pub use Rattle.traffic.specs.declared.faults.StreamsInput.{StreamsInput}
pub use Rattle.traffic.specs.declared.table.Stream.{Stream}
