-- The words of contracts and proofs, from one place.
pub use Rattle.wire_time.specs.declared.Frame.{Frame}
pub use Rattle.wire_time.specs.declared.TheConstants.{MIN_MTU, MIN_PS_PER_OCTET}
pub use Rattle.abstract_port.specs.AbstractPort.{AbstractPort, PortState, after_arrival, new_port, queue_of, settled, starts_until, waiting}
pub use Rattle.abstract_port.specs.Answers.{answers_to, arrival_answer, port_after}
pub use Rattle.abstract_port.specs.Sound.{IsSoundPort}
pub use Rattle.abstract_port.specs.declared.Answer.{Answer}
pub use Rattle.abstract_port.specs.declared.Command.{Command}
pub use Rattle.abstract_port.specs.declared.Dropped.{Dropped}
pub use Rattle.abstract_port.specs.declared.Event.{Event}
pub use Rattle.abstract_port.specs.declared.Event.TheVariants.{Arrive}
pub use Rattle.text.specs.Words.{words_of}
pub use Rattle.text.specs.Writes.{FallsShort, Writes}
pub use Rattle.text.specs.LineReader.{script_left}
pub use Rattle.text.specs.Script.{script_of}
pub use Rattle.port_text.specs.Reader.{IsReader}
pub use Rattle.port_text.specs.declared.tc_reader.fault.TcFault.{TcFault}
pub use Rattle.port_text.specs.AnswerLines.{answer_lines}
pub use Rattle.job.specs.Texts.{IsTold}
pub use Rattle.job.specs.declared.fault.Fault.{Fault}
pub use Rattle.capture.specs.CaptureReader.{IsNewReader, Left, Next, left}
pub use Rattle.capture.specs.Captures.{AreRecords}
pub use Rattle.capture.specs.Record.{entry, frame_of}
pub use Rattle.capture.specs.Records.{Entry}
pub use Rattle.capture.specs.declared.fault.CapFault.{CapFault}
pub use Rattle.capture.specs.declared.format.Format.{Format}
pub use Rattle.capture.specs.declared.format.TheConstants.{MAX_RECORDS, MAX_RECORD_OCTETS}
pub use Rattle.capture.specs.declared.reader.End.{End}
pub use Rattle.capture.specs.declared.reader.End.TheVariants.{Broken, Whole}
pub use Rattle.capture.specs.declared.writer.TheConstants.{CAPTURE_END}
pub use Rattle.capture.specs.Stored.{Kept, Stored, kept, kept_at, new_store}
pub use Rattle.summary.specs.Observed.{Observed}
pub use Rattle.summary.specs.Wanted.{noted, noted_all, watched}
pub use Rattle.script.specs.Outcome.{IsFaithful, Reading, bad_line}
pub use Rattle.script.specs.Requests.{Asks, NoCommand, Request, tc_request}
pub use Rattle.script.specs.Responses.{Gave, Response, events_of, noted_by, responses_of, responses_to}
pub use Rattle.script.specs.Setup.{Setup}
pub use Rattle.script.specs.declared.faults.BadLine.{BadLine}
pub use Rattle.replay.specs.ReplayEnd.{IsReplayEnding}
pub use Rattle.replay.specs.Faults.{fault_of_stop, script_limited}
pub use Rattle.replay.specs.WholeScript.{GivesScript, IsScriptFault, ReadsRest}
pub use Rattle.replay.specs.KeptScript.{AreKept, IsKept, IsKept-prop, kept_clock, kept_request, kept_requests}
pub use Rattle.replay.specs.Lines.{IsEarly, begins_with_frame, line_in, line_request, line_said, reading_of, request_in}
pub use Rattle.replay.specs.LinesLeft.{GivesLine, lines_left}
pub use Rattle.replay.specs.Merge.{Came, Timed, all_requests, before_end, came_from, latest_clock, lines_after, lines_by, lines_past, merged, requests_of, timed_from, to_run_end}
pub use Rattle.replay.specs.Outcome.{AppendsBoth, Ends, IsOpenFault, Outcome, ReadsAs, end_fault, end_of, ended_by, header, is_too_late, open_fault, outcome_of, refused, timed_outcome, told_to_end}
pub use Rattle.replay.specs.Outputs.{Got, Origin, Output, PutsBoth, SentBoth, answer_record, got, joined, kept_in, nothing, output, response_record, start_record}
pub use Rattle.replay.specs.RecordsLeft.{Comes, ComesMoved, EndsSo, found}
pub use Rattle.replay.specs.RunEnd.{counted_to, last_end, rest_moment, run_end}
pub use Rattle.replay.specs.RunState.{Answers, AnswersStarts, IsTogether, Keeps, State, first_kept, state, state_of}
pub use Rattle.replay.specs.Separated.{IsSeparatedBy}
pub use Rattle.replay.specs.Sources.{MergeLaw}
pub use Rattle.replay.specs.Shifts.{moved, moved_moment, moved_reading}
pub use Rattle.replay.specs.Stamps.{gap_of, rounded_up, stamp_given, stamped, stamping_at}
pub use Rattle.replay.specs.Texts.{capture_fault_name, capture_status, capture_text, header_text, open_text, record_text, replay_telling}
pub use Rattle.replay.specs.declared.faults.ReplayInput.{ReplayInput}
pub use Rattle.replay.specs.declared.faults.Stop.{Stop}
pub use Rattle.replay.specs.declared.kept_script.KeptLine.{KeptLine}
pub use Rattle.replay.specs.declared.kept_script.KeptLine.TheVariants.{Tc}
pub use Rattle.replay.specs.declared.shifts.Shift.{Shift}
pub use Rattle.replay.specs.declared.stamps.Stamp.{Stamp}
pub use Rattle.replay.specs.declared.stamps.Stamping.{Stamping}
pub use Rattle.replay.specs.declared.timing.Timing.{Timing}
