use Rattle.std.proofs.Common.{◌≡◌, ◌-◌, List, ℕ, None}
use Rattle.capture.specs.CaptureReader.{left}
use Rattle.capture.specs.Records.{Entry}
use Rattle.capture.specs.declared.format.TheConstants.{MAX_RECORDS}
use Rattle.capture.specs.declared.reader.End.{End}
use Rattle.compare.specs.Frames.{records_reading}
use Rattle.compare.specs.Payloads.{AreNumbered}
use Rattle.compare.specs.Read.{Comes}
use Rattle.compare.proofs.RecordLaws.{Stands}
use Rattle.compare.proofs.records.read_records.Given as goal

abbrev pub invariant-records : goal.invariant-records
invariant-records g l = record {
  going : (left l.records).ended ≡ None;
  numbered : (left l.records).number ≡ l.number;
  at : (seen : List (List ℕ)) → AreNumbered seen l.fn.numbers → (entries : List Entry) (last : End) → Comes g.R.Read.remaining (left l.fn.records) entries last →
      Stands l.by (records_reading l.by seen 0 entries last) last l.fn.frames.items g.R.Read.remaining l.frames.items (left l.records) l.number l.numbers;
}

abbrev pub decreases-records : goal.decreases-records
decreases-records g l = MAX_RECORDS - l.number
