-- What a reader of a capture has left, and what its next answer is.
use Rattle.std.specs.Prelude.{◌≡◌, ◌≢◌, ◌≤◌, ℕ, ◌+◌, List, [], drop, Option, Some, None, IsTrue, Result, Ok, Err, IfSome, MatchOption, option_map}
use Rattle.std.specs.Io.KnownBytes.{prepend_known}
use Rattle.capture.specs.declared.fault.CapFault.{CapFault}
use Rattle.capture.specs.declared.fault.CapFault.TheVariants.{ShortRecord, Read}
use Rattle.capture.specs.declared.format.Format.{Format}
use Rattle.capture.specs.declared.format.RecordHeader.{RecordHeader}
use Rattle.capture.specs.declared.reader.End.{End}
use Rattle.capture.specs.declared.reader.End.TheVariants.{Whole, Broken}
use Rattle.capture.specs.declared.record.Record.{Record}
use Rattle.capture.specs.declared.reader.CaptureReader.{CaptureReader}
use Rattle.capture.specs.FileHeader.{format_of}
use Rattle.capture.specs.ReadAhead.{held, last_given}
use Rattle.capture.specs.Step.{is_record_fault}
use Rattle.capture.specs.Record.{entry}
use Rattle.capture.specs.Records.{Entry, IsWithin, moment_of, entry_at, rest_after, fault_at}

-- a reader as its user sees it: how many records it gave, the octets that it read and hasn't given, and how it ended
pub record Left (R : Type 0) : Type 0 where
  pub format : Format
  pub number : ℕ
  pub in_hand : List ℕ
  pub source : R
  pub ended : Option End

-- what a contract sees of a reader
abbrev pub left : {R A : Type 0} → CaptureReader R A → Left R
left r = record { format = r.format; number = r.number; in_hand = held r.ahead; source = r.source; ended = r.ended }

-- the octets that are still to come, where the source says
abbrev pub octets_left : {R : Type 0} → (R → Option (List ℕ)) → Left R → Option (List ℕ)
octets_left remaining l = prepend_known l.in_hand (remaining l.source)

-- a reader after the header of these octets
abbrev pub IsNewReader : {R : Type 0} → (R → Option (List ℕ)) → Option (List ℕ) → Left R → Type 0
IsNewReader remaining known l = (l.number ≡ 0) × (l.ended ≡ None) × (l.in_hand ≡ [])
    × IfSome known (λ octets. (format_of octets ≡ Ok l.format) × (remaining l.source ≡ Some (drop 24 octets)))

-- the octets in hand end before the next record does, so they don't decide the next answer
abbrev pub IsWanting : {R : Type 0} → Left R → Type 0
IsWanting l = fault_at l.format l.number l.in_hand ≡ Some ShortRecord

-- an answer of `next`, with the record's octets in place of the loan
abbrev pub answer : Result (Option Record) CapFault → Result (Option Entry) CapFault
answer (Ok o) = Ok (option_map entry o)
answer (Err f) = Err f

-- the octets after this header were given last
abbrev pub HasGiven : {R A : Type 0} → CaptureReader R A → RecordHeader → Type 0
HasGiven r header = header.captured ≤ r.ahead.start

-- the record of a header whose octets were given last
abbrev pub record_shown : {R A : Type 0} → CaptureReader R A → RecordHeader → Entry
record_shown r header = record {
  moment = moment_of r.format header;
  captured = header.captured;
  original = header.original;
  octets = last_given r.ahead header.captured;
}

-- an answer of `advance`, with the record in place of the header
abbrev pub shown : {R A : Type 0} → CaptureReader R A → Result (Option RecordHeader) CapFault → Result (Option Entry) CapFault
shown r (Ok o) = Ok (option_map (record_shown r) o)
shown r (Err f) = Err f

-- what is answered once the end was met
abbrev pub again : End → Result (Option Entry) CapFault
again Whole = Ok None
again (Broken f) = Err f

-- the answer of a reader that has not met its end, and what it leaves
abbrev pub ReadsNext : {R : Type 0} → (R → Option (List ℕ)) → Left R → Result (Option Entry) CapFault → Left R → Type 0
ReadsNext remaining old (Ok (Some e)) new = (new.ended ≡ None) × (new.number ≡ old.number + 1) × IsWithin e
    × IfSome (octets_left remaining old) (λ octets.
    (fault_at old.format old.number octets ≡ None) × (e ≡ entry_at old.format octets)
    × (octets_left remaining new ≡ Some (rest_after old.format octets)))
ReadsNext remaining old (Ok None) new = (new.ended ≡ Some Whole) × (new.number ≡ old.number)
    × IfSome (octets_left remaining old) (λ octets. octets ≡ [])
ReadsNext remaining old (Err f) new = (new.ended ≡ Some (Broken f)) × (new.number ≡ old.number) × IsTrue (is_record_fault f)
    × (f ≡ Read → IsWanting old)
    × IfSome (octets_left remaining old) (λ octets. f ≢ Read → (octets ≢ []) × (fault_at old.format old.number octets ≡ Some f))

-- the next answer; a read is made only where it is wanted, and the same answer comes for ever once the end was met
abbrev pub Next : {R : Type 0} → (R → Option (List ℕ)) → Left R → Result (Option Entry) CapFault → Left R → Type 0
Next remaining old result new = MatchOption old.ended
    (ReadsNext remaining old result new × (new.format ≡ old.format) × ((IsWanting old → ⊥) → new.source ≡ old.source))
    (λ e. (result ≡ again e) × (new ≡ old))
