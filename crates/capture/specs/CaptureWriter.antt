-- What is written of a capture: little-endian, in nanoseconds.
use Rattle.std.specs.Prelude.{ℕ, List, length, Bool}
use Rattle.capture.specs.declared.format.Endian.TheVariants.{Little}
use Rattle.capture.specs.declared.format.Resolution.TheVariants.{Nanos}
use Rattle.capture.specs.declared.format.Format.{Format}
use Rattle.capture.specs.declared.writer.CaptureWriter.{CaptureWriter}
use Rattle.capture.specs.Layout.{spelled_header, spelled_record}
use Rattle.capture.specs.declared.format.TheConstants.{MAX_RECORD_OCTETS}

-- whether a write of it failed
abbrev pub has_failed : CaptureWriter → Bool
has_failed w = w.failed

-- what is written is little-endian, with nanoseconds
abbrev pub written_format : Format
written_format = record { endian = Little; resolution = Nanos }

-- no zone, no accuracy, and the most octets of a record as snapshot length
abbrev pub written_header : List ℕ
written_header = spelled_header written_format 0 0 MAX_RECORD_OCTETS

-- a record as it is written
abbrev pub written_record : ℕ → ℕ → List ℕ → List ℕ
written_record moment original octets = spelled_record written_format (record {
  moment = moment;
  captured = length octets;
  original = original;
  octets = octets;
})
