-- One record of a stream of octets.
use Rattle.std.specs.Prelude.{◌≡◌, ◌≢◌, ℕ, List, [], drop, take, Option, Some, None, Bool, true, false, Result, Ok, Err}
use Rattle.capture.specs.declared.fault.CapFault.{CapFault}
use Rattle.capture.specs.declared.fault.CapFault.TheVariants.{ShortRecord, LongRecord, BadFraction, TooManyRecords, Read}
use Rattle.capture.specs.declared.format.Format.{Format}
use Rattle.capture.specs.declared.format.RecordHeader.{RecordHeader}
use Rattle.capture.specs.declared.read_ahead.ReadAhead.{ReadAhead}
use Rattle.capture.specs.ReadAhead.{last_given}
use Rattle.capture.specs.Records.{header_at, rest_after, fault_at}

-- the faults of a record, and a read that failed
abbrev pub is_record_fault : CapFault → Bool
is_record_fault ShortRecord = true
is_record_fault LongRecord = true
is_record_fault BadFraction = true
is_record_fault TooManyRecords = true
is_record_fault Read = true
is_record_fault _ = false

-- octets of which a record was taken, so that its octets were given last and `after` is known to come
abbrev pub Step : {A : Type 0} → Format → ℕ → List ℕ → Result (Option RecordHeader) CapFault → ReadAhead A → Option (List ℕ) → Type 0
Step format number octets (Ok (Some header)) ahead after = (fault_at format number octets ≡ None) × (header ≡ header_at format octets)
    × (last_given ahead header.captured ≡ take header.captured (drop 16 octets)) × (after ≡ Some (rest_after format octets))
Step format number octets (Ok None) ahead after = octets ≡ []
Step format number octets (Err f) ahead after = f ≢ Read → (octets ≢ []) × (fault_at format number octets ≡ Some f)
