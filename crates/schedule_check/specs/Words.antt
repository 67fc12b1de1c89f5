-- The words of contracts and proofs, from one place.
pub use Rattle.wire_time.specs.Wire.{occupancy_of}
pub use Rattle.wire_time.specs.declared.TheConstants.{CLASSES}
pub use Rattle.gates.specs.Gate.{IsShownAt, Plan, in_ps, mask_at, ok_unless, opens, plan_fault, plan_with, prefix}
unfoldable pub use Rattle.gates.specs.Open.{open_while}
pub use Rattle.gates.specs.Stay.{stay_lasts}
pub use Rattle.gates.specs.declared.gate_list.Entry.{Entry}
pub use Rattle.gates.specs.declared.gate_list.PlanFault.{PlanFault}
pub use Rattle.gates.specs.declared.gate_list.Stay.{Stay}
pub use Rattle.gates.specs.declared.gate_list.Stay.TheVariants.{Always, Lasts}
pub use Rattle.abstract_port.specs.AbstractPort.{plan_asked}
pub use Rattle.abstract_port.specs.declared.Command.{Command}
pub use Rattle.text.specs.Words.{words_of}
pub use Rattle.text.specs.Writes.{Sent, Writes}
pub use Rattle.text.specs.LineReader.{current_number, script_left}
pub use Rattle.port_text.specs.Reader.{IsReader}
pub use Rattle.port_text.specs.declared.tc_reader.fault.TcFault.{TcFault}
pub use Rattle.port_text.specs.Part.{text_of}
pub use Rattle.job.specs.Outcome.{RunsOut}
pub use Rattle.script.specs.ScriptEnd.{IsEnding}
pub use Rattle.script.specs.Given.{octets_of}
pub use Rattle.script.specs.Outcome.{bad_line, long_line}
pub use Rattle.schedule_check.specs.Apart.{apart_line, change_lines, class_count, class_line, itself_apart, some_line, verdict_lines}
unfoldable pub use Rattle.schedule_check.specs.Apart.{classes_apart}
pub use Rattle.schedule_check.specs.Checked.{checked_in, checked_of, is_command, whole_check}
pub use Rattle.schedule_check.specs.Shares.{class_word, is_sharing, itself_sharing, share_windows, shares_line, sharing_line, with_line}
unfoldable pub use Rattle.schedule_check.specs.Shares.{classes_sharing, open_both}
pub use Rattle.schedule_check.specs.WindowLines.{asked_lines, frame_text, given_wait_text, longest_wait_of, never_line, time_text, told_line, wait_text, waits_text, window_line}
unfoldable pub use Rattle.schedule_check.specs.WindowLines.{open_lines}
pub use Rattle.schedule_check.specs.Windows.{IsLengthened, IsLongestFrame, IsLonger, IsLongestOpen, IsOpenStay, IsTeller, IsWindow, Teller, alone, turned, turned_entry, turned_mask, turned_plan}
unfoldable pub use Rattle.schedule_check.specs.Windows.{open_total}
pub use Rattle.schedule_check.specs.declared.windows.Window.{Window}
pub use Rattle.arrayvec.specs.ArrayVec.{array_vec_len}
