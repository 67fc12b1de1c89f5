-- What octets are as a capture: a header, whole records, and a rest that is empty or has a first fault.
use Rattle.std.specs.Prelude.{◌≡◌, ◌≢◌, ℕ, ◌+◌, List, [], ◌∷◌, drop, Option, Some, None, Result, Ok, Err, ◌⊎◌}
use Rattle.capture.specs.declared.fault.CapFault.{CapFault}
use Rattle.capture.specs.declared.fault.CapFault.TheVariants.{Read}
use Rattle.capture.specs.declared.format.Format.{Format}
use Rattle.capture.specs.declared.reader.End.{End}
use Rattle.capture.specs.declared.reader.End.TheVariants.{Whole, Broken}
use Rattle.capture.specs.FileHeader.{format_of}
use Rattle.capture.specs.Records.{Entry, entry_at, rest_after, fault_at}
use Rattle.capture.specs.CaptureReader.{Left, octets_left, again, Next}

-- after so many records these come, one after another, and then this end
abbrev pub AreRecords : Format → ℕ → List ℕ → List Entry → End → Type 0
AreRecords format number octets [] Whole = octets ≡ []
AreRecords format number octets [] (Broken fault) = (octets ≢ []) × (fault_at format number octets ≡ Some fault)
AreRecords format number octets (e ∷ es) end = (fault_at format number octets ≡ None) × (e ≡ entry_at format octets)
    × AreRecords format (number + 1) (rest_after format octets) es end

-- octets are a file header of this format, these whole records, and an end
abbrev pub IsCapture : List ℕ → Format → List Entry → End → Type 0
IsCapture octets format es end = (format_of octets ≡ Ok format) × AreRecords format 0 (drop 24 octets) es end

-- octets have records and an end, and no two of them
abbrev pub HasOneReading : Type 0
HasOneReading = (format : Format) (number : ℕ) (octets : List ℕ) → (es : List Entry) × (end : End) × AreRecords format number octets es end
    × ((fs : List Entry) (last : End) → AreRecords format number octets fs last → (fs ≡ es) × (last ≡ end))

-- calls of `next`, one after another, with their answers
abbrev pub Calls : {R : Type 0} → (R → Option (List ℕ)) → Left R → List (Result (Option Entry) CapFault) → Type 0
Calls remaining l [] = Unit {0}
Calls {R} remaining l (a ∷ later) = (after : Left R) × Next remaining l a after × Calls remaining after later

-- what the next call answers where these records are still to come
abbrev pub next_answer : List Entry → End → Result (Option Entry) CapFault
next_answer [] end = again end
next_answer (e ∷ es) end = Ok (Some e)

-- all answers are that a read failed
abbrev pub AreFailed : List (Result (Option Entry) CapFault) → Type 0
AreFailed [] = Unit {0}
AreFailed (a ∷ later) = (a ≡ Err Read) × AreFailed later

-- the records and then the end for ever, or, from a read that fails on, that fault
abbrev pub AreAnswers : List Entry → End → List (Result (Option Entry) CapFault) → Type 0
AreAnswers es end [] = Unit {0}
AreAnswers es end (a ∷ later) = ((a ≡ next_answer es end) × AreAnswers (drop 1 es) end later) ⊎ AreFailed (a ∷ later)

-- calls from here on answer the records that come and their end
abbrev pub AnswersRecords : {R : Type 0} → (R → Option (List ℕ)) → Left R → Type 0
AnswersRecords remaining l = (octets : List ℕ) (es : List Entry) (end : End) (answers : List (Result (Option Entry) CapFault))
    → l.ended ≡ None → octets_left remaining l ≡ Some octets → AreRecords l.format l.number octets es end
    → Calls remaining l answers → AreAnswers es end answers
