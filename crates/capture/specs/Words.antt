-- The words of contracts and proofs, from one place.
pub use Rattle.text.specs.Writes.{Writes}
pub use Rattle.capture.specs.CaptureReader.{left}
pub use Rattle.capture.specs.CaptureWriter.{written_format, written_header}
pub use Rattle.capture.specs.Captures.{AnswersRecords, AreRecords, HasOneReading}
pub use Rattle.capture.specs.FileHeader.{IsHeaderFault, format_by_magic, format_of, header_format, is_header_fault, resolution_of}
pub use Rattle.capture.specs.Numbers.{u16_at, u32_at, u32_octets}
pub use Rattle.capture.specs.ReadAhead.{held, last_given}
pub use Rattle.capture.specs.Record.{entry, frame_of, is_tagged}
pub use Rattle.capture.specs.Records.{Entry, entry_at, fault_at, fault_with, fraction_of, fractions_of, header_at, header_fault, holds_record, moment_of, ok_unless, rest_after}
pub use Rattle.capture.specs.Layout.{IsSpelling}
unfoldable pub use Rattle.capture.specs.Layout.{spelled_record_header}
pub use Rattle.capture.specs.Step.{Step, is_record_fault}
pub use Rattle.capture.specs.declared.fault.CapFault.{CapFault}
pub use Rattle.capture.specs.declared.fault.CapFault.TheVariants.{BadFraction, BadLink, BadMagic, BadShift, BadVersion, LongRecord, Memory, Read, ShortHeader, ShortRecord, TooManyRecords, Write}
pub use Rattle.capture.specs.declared.format.Endian.{Endian}
pub use Rattle.capture.specs.declared.format.Endian.TheVariants.{Big, Little}
pub use Rattle.capture.specs.declared.format.Format.{Format}
pub use Rattle.capture.specs.declared.format.RecordHeader.{RecordHeader}
pub use Rattle.capture.specs.declared.format.Resolution.{Resolution}
pub use Rattle.capture.specs.declared.format.Resolution.TheVariants.{Micros, Nanos}
pub use Rattle.capture.specs.declared.format.TheConstants.{MAX_RECORDS, MAX_RECORD_OCTETS}
pub use Rattle.capture.specs.declared.read_ahead.ReadAhead.{ReadAhead}
pub use Rattle.capture.specs.declared.read_ahead.TheConstants.{ROOM}
pub use Rattle.capture.specs.declared.reader.End.TheVariants.{Whole}
pub use Rattle.capture.specs.declared.writer.TheConstants.{CAPTURE_END}
pub use Rattle.byteorder.specs.Numbers.{big_from-append, little_from-append}
