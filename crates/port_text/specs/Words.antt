-- The words of contracts and proofs, from one place.
pub use Rattle.wire_time.specs.declared.TheConstants.{CLASSES}
pub use Rattle.gates.specs.declared.gate_list.Entry.{Entry}
pub use Rattle.abstract_port.specs.declared.Command.{Command}
pub use Rattle.text.specs.Numbers.{at_most, digit_in, is_digits, number_in}
unfoldable pub use Rattle.text.specs.Numbers.{value_behind}
pub use Rattle.text.specs.Words.{words_of}
pub use Rattle.text.specs.WordsLeft.{words_left, words_taken}
pub use Rattle.port_text.specs.Capped.{FailsOne, StandsPlainly, Takes, TakesEntry, TakesInterval, TakesOne, capped, first_ones, view, with_front}
pub use Rattle.port_text.specs.Cursor.{Moves, Word, total}
pub use Rattle.port_text.specs.Ends.{change_given, classes_of, closed_change, command_given, eight_limits, heads_missing, ranges_of}
pub use Rattle.port_text.specs.Grammar.{AreNewHeads, IsCommand, head_words, heads_before}
pub use Rattle.port_text.specs.Heads.{Head, ReadsHeads, dev, handle, head_at, is_dev, is_handle, is_parent, named, parent, root, usual_heads}
pub use Rattle.port_text.specs.TcLines.{HasFault, ReadsLine, ReadsOptions, ReadsRest, deletion_before, replacement_of, verb_at, verb_of}
pub use Rattle.port_text.specs.TcNames.{is_unsupported, option_named, word_of}
pub use Rattle.port_text.specs.Options.{Item, Options, allowed, base_time, begins, clock, clock_item, cycle_time, extension, flags, is_given, limits, no_options, num_tc, priorities, ranges, sched_entry, value_or, with_item, ◌>>=◌}
unfoldable pub use Rattle.port_text.specs.Options.{command_at, entry_at, flags_at, item_at, run_at, some_at, value_at, values_at}
pub use Rattle.port_text.specs.Reader.{IsReader}
pub use Rattle.port_text.specs.Reads.{Reads, SoFar, given_by}
pub use Rattle.port_text.specs.Seen.{HeadTakes, behind_heads, seen_of}
pub use Rattle.port_text.specs.Values.{after_0x, hex_in, is_clock, is_range, is_sign, limit_at, limit_in, range_of}
pub use Rattle.port_text.specs.declared.tc_reader.capped.TheConstants.{KEPT_ENTRIES, KEPT_PRIORITIES, KEPT_RANGES}
pub use Rattle.port_text.specs.declared.tc_reader.fault.Opt.{Opt}
pub use Rattle.port_text.specs.declared.tc_reader.fault.Opt.TheVariants.{BaseTime, Clockid, CycleTime, CycleTimeExtension, Dev, Flags, Fp, Handle, Map, MaxSdu, NumTc, Parent, Queues, SchedEntry, TxtimeDelay}
pub use Rattle.port_text.specs.declared.tc_reader.fault.TcFault.{TcFault}
pub use Rattle.port_text.specs.declared.tc_reader.line.Verb.{Verb}
pub use Rattle.port_text.specs.declared.tc_reader.line.Verb.TheVariants.{Delete, Replace}
pub use Rattle.port_text.specs.declared.tc_reader.values.TheConstants.{MAX_SDU_VALUES}
