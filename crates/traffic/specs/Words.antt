-- The words of contracts and proofs, from one place.
pub use Rattle.wire_time.specs.Moment.{greatest_moment}
pub use Rattle.text.specs.Words.{words_of}
pub use Rattle.text.specs.WordsLeft.{words_left}
pub use Rattle.text.specs.Writes.{Sent, Writes}
pub use Rattle.text.specs.LineReader.{Advances, most_lines, script_left}
pub use Rattle.text.specs.Script.{Broken, End, Line, Script}
pub use Rattle.text.specs.declared.line_reader.lines.Limit.{Limit}
pub use Rattle.text.specs.declared.line_reader.lines.LineFault.{LineFault}
pub use Rattle.job.specs.Outcome.{Runs}
pub use Rattle.job.specs.declared.fault.Fault.{Fault}
pub use Rattle.script.specs.Given.{octets_of}
pub use Rattle.script.specs.Outcome.{limit_fault}
pub use Rattle.traffic.specs.StreamsEnd.{IsStreamsEnding, drawn_where, from_given, plan_given, timing_given, words_of_streams}
pub use Rattle.traffic.specs.Faults.{script_fault, streams_telling, table_fault}
pub use Rattle.traffic.specs.Frames.{IsCourse, first_of, frame_after, frames_in_turn, frames_of, late_by, length_of_frame, moment_after, next_of_stream}
unfoldable pub use Rattle.traffic.specs.Frames.{by_moment, frames_after, reached_by}
pub use Rattle.traffic.specs.Merge.{clock_after, clock_in, clock_said, latest, line_end, line_text, passed_line}
unfoldable pub use Rattle.traffic.specs.Merge.{frames_before, frames_from}
pub use Rattle.traffic.specs.Outcome.{crowded, merging, outcome_among, outcome_by_lines, outcome_in, outcome_of}
pub use Rattle.traffic.specs.Room.{AreCounted, IsCount, IsRoomFor, IsRoomLeft, clock_count, counted_line, counted_with, crowded_line, frame_count, limit_passed, line_feeds, lines_known, lines_taken, room_beside, unless_passed}
unfoldable pub use Rattle.traffic.specs.Room.{counted_in, line_count, passed_on}
pub use Rattle.traffic.specs.Alerts.{alerts_judged, alerts_said, stream_alert, table_alerts}
pub use Rattle.traffic.specs.TableRead.{IsTaken, IsUntaken, ReadsTable, TakesLine}
pub use Rattle.traffic.specs.Table.{HasTimes, IsSaid, Table, earliest, has_ids, line_judged, line_said, offset_in, shortest_of, stream_in_words, stream_said}
pub use Rattle.traffic.specs.Plan.{IsKept, IsStream, course_of, courses_from, greatest_offset, judged, offset_drawn, plan_frames, table_of}
pub use Rattle.traffic.specs.declared.course.Course.{Course}
pub use Rattle.traffic.specs.declared.plan.Plan.{Plan}
unfoldable pub use Rattle.traffic.specs.Table.{table_by}
pub use Rattle.traffic.specs.Parts.{ends_in, is_part, length_of, said_by, tagged_in, time_of, values_in}
unfoldable pub use Rattle.traffic.specs.Parts.{are_parts, value_of}
pub use Rattle.traffic.specs.Tournament.{IsBefore, IsNode, IsTournament, first_of_two, found_at, head_of, is_before}
unfoldable pub use Rattle.traffic.specs.Tournament.{heads_from}
pub use Rattle.traffic.specs.Turns.{earlier, left_of, left_of_all}
unfoldable pub use Rattle.traffic.specs.Turns.{first_place}
pub use Rattle.traffic.specs.Written.{clock_line, clock_to, frame_line}
unfoldable pub use Rattle.traffic.specs.Written.{lines_of}
pub use Rattle.traffic.specs.declared.faults.StreamsInput.{StreamsInput}
pub use Rattle.traffic.specs.declared.frame_count.FrameCount.{FrameCount}
pub use Rattle.traffic.specs.declared.frame_count.FrameCount.TheVariants.{Few, Many}
pub use Rattle.traffic.specs.declared.table.Stream.{Stream}
pub use Rattle.traffic.specs.declared.course.Coming.{Coming}
pub use Rattle.traffic.specs.declared.turn.Turn.{Turn}
