-- The words of contracts and proofs, from one place.
pub use Rattle.wire_time.specs.Moment.{greatest_moment}
pub use Rattle.wire_time.specs.declared.TheConstants.{MIN_MTU, MIN_PS_PER_OCTET}
pub use Rattle.abstract_port.specs.Queue.{IsRoom}
pub use Rattle.abstract_port.specs.AbstractPort.{AbstractPort, PortState, counters_of, new_port, queue_of, settled}
pub use Rattle.abstract_port.specs.Answers.{answers_to, command_answer}
pub use Rattle.abstract_port.specs.Asked.{answers_left}
pub use Rattle.abstract_port.specs.Sound.{IsMtu, IsSoundPort}
pub use Rattle.abstract_port.specs.declared.Answer.{Answer}
pub use Rattle.abstract_port.specs.declared.Command.{Command}
pub use Rattle.abstract_port.specs.declared.Event.{Event}
pub use Rattle.abstract_port.specs.declared.Event.TheVariants.{Arrive, Clock}
pub use Rattle.text.specs.Numbers.{behind_first}
pub use Rattle.text.specs.Words.{words_of}
pub use Rattle.text.specs.WordsLeft.{words_left}
pub use Rattle.text.specs.Writes.{Sent, Writes}
pub use Rattle.text.specs.LineReader.{Advances, most_lines, script_left}
pub use Rattle.text.specs.Script.{Script, script_of}
pub use Rattle.port_text.specs.Reader.{IsReader}
pub use Rattle.port_text.specs.declared.tc_reader.fault.TcFault.{TcFault}
pub use Rattle.port_text.specs.AnswerLines.{answer_lines}
pub use Rattle.job.specs.Outcome.{RunsOut}
pub use Rattle.job.specs.Texts.{IsTold}
pub use Rattle.job.specs.declared.fault.Fault.{Fault}
pub use Rattle.summary.specs.Lines.{class_text, summary_lines, wire_text}
unfoldable pub use Rattle.summary.specs.Lines.{classes_from}
pub use Rattle.summary.specs.Observed.{Observed, class_at, seen_all}
pub use Rattle.summary.specs.Wanted.{noted_after, noted_all, noted_at}
pub use Rattle.script.specs.Answered.{HasFewVisits, IsAnswered}
pub use Rattle.script.specs.ScriptEnd.{IsEnding, IsRefusal, settings_given, settings_or_usual, whole_script}
pub use Rattle.script.specs.Given.{octets_of, words_of_values}
pub use Rattle.script.specs.Kinds.{line_kind, script_kind, table_kind, value_kind}
pub use Rattle.script.specs.Outcome.{IsFaithfulTo, asked_in, bad_line, ending_text, limit_fault, long_line, outcome_after, outcome_from, outcome_of, reading_of}
pub use Rattle.script.specs.Plain.{BeginsWithEvent, BeginsWithLine, HasLine, IsCommandInHand, tag_text}
pub use Rattle.script.specs.Requests.{Asks, NoCommand, Request, clock_event, count_event, frame_event, frame_with, query_event, request_of, said_in, tag_in, tc_request}
pub use Rattle.script.specs.Responses.{Gave, end_lines, events_of, left_lines, left_text, lines_of, noted_by, responses_to}
unfoldable pub use Rattle.script.specs.Responses.{left_from}
pub use Rattle.script.specs.Separated.{IsSeparatedIn}
pub use Rattle.script.specs.Settings.{is_until, mtu_in, rate_in, room_in, settings_of, settings_with, with_summary}
pub use Rattle.script.specs.Setup.{Setup}
pub use Rattle.script.specs.Texts.{line_text, option_name, script_fault_name, script_telling, value_text}
pub use Rattle.script.specs.declared.faults.BadLine.{BadLine}
pub use Rattle.script.specs.declared.faults.ScriptFault.{ScriptFault}
