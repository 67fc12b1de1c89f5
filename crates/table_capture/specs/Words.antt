-- The words of contracts and proofs, from one place.
pub use Rattle.wire_time.specs.Moment.{greatest_moment}
pub use Rattle.text.specs.LineReader.{script_left}
pub use Rattle.text.specs.Writes.{Sent, Writes}
pub use Rattle.capture.specs.CaptureWriter.{written_format, written_header}
pub use Rattle.capture.specs.Layout.{spelled_record}
pub use Rattle.capture.specs.declared.format.TheConstants.{MAX_RECORD_OCTETS}
pub use Rattle.capture.specs.declared.writer.TheConstants.{CAPTURE_END}
pub use Rattle.job.specs.Outcome.{Runs}
pub use Rattle.job.specs.declared.fault.Fault.{Fault}
pub use Rattle.traffic.specs.Words.{AreCounted, IsKept, IsSaid, IsTournament, crowded, judged, left_of_all, plan_frames, stream_alert, table_alerts}
pub use Rattle.traffic.specs.declared.table.Stream.{Stream}
pub use Rattle.table_capture.specs.Alerts.{IsWatchedEnding, IsWatchedRun, WatchedRun}
pub use Rattle.table_capture.specs.CaptureEnd.{IsCaptureEnding}
pub use Rattle.table_capture.specs.Carried.{AreCarried, IsCarried, carried, ends_in_time, is_told}
pub use Rattle.table_capture.specs.Law.{CaptureLaw}
pub use Rattle.table_capture.specs.Octets.{captured_of, filled, frame_octets, front_of, has_tag, record_of}
pub use Rattle.table_capture.specs.Outcome.{capture_of, outcome_by_lines, outcome_counted, outcome_of, records_of, whole_capture}
pub use Rattle.table_capture.specs.Room.{IsRoom}
