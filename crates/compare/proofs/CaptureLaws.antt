-- A capture, whose header may have a fault.
use Rattle.std.proofs.Common.{◌≡◌, ℕ, List, [], drop, Option, Some, None, Result, Ok, Err, refl, sym, ap, ◌∙◌, subst}
use Rattle.std.specs.Prelude.{IfSome}
use Rattle.std.specs.HashMap.{HashMap}
use Rattle.std.specs.Io.KnownBytes.{prepend_known}
use Rattle.std.specs.declared.vec.Vec.{Vec}
use Rattle.capture.specs.Captures.{AreRecords}
use Rattle.capture.specs.CaptureReader.{IsNewReader, Left}
use Rattle.capture.specs.FileHeader.{IsHeaderFault, format_of}
use Rattle.capture.specs.Records.{Entry}
use Rattle.capture.specs.declared.fault.CapFault.{CapFault}
use Rattle.capture.specs.declared.fault.CapFault.TheVariants as Caps
use Rattle.capture.specs.declared.format.Format.{Format}
use Rattle.capture.specs.declared.reader.End.{End}
use Rattle.job.specs.declared.fault.Fault.{Fault}
use Rattle.job.specs.declared.fault.Fault.TheVariants as Faults
use Rattle.compare.specs.Frames.{Reading, ReadsAs, capture_reading, records_reading}
use Rattle.compare.specs.Payloads.{ReadsNumbered}
use Rattle.compare.specs.Read.{Comes, header_stopped}
use Rattle.compare.specs.declared.faults.Trouble.{Trouble}
use Rattle.compare.specs.declared.faults.Trouble.TheVariants as Troubles
use Rattle.compare.specs.declared.frame.Frame.{Frame}
use Rattle.compare.specs.declared.settings.By.{By}

-- the records of a capture come from a reader that was made for it
comes_new : {R : Type 0} (remaining : R → Option (List ℕ)) (octets : List ℕ) (l : Left R) (entries : List Entry) (last : End) → IsNewReader remaining (Some octets) l
    → (format : Format) → format_of octets ≡ Ok format → AreRecords format 0 (drop 24 octets) entries last → Comes remaining l entries last
comes_new remaining octets l entries last new format is are =
    let same : Ok format ≡ Ok l.format = sym is ∙ new.3.0 in
    let formats : format ≡ l.format = cc in
    record {
      octets = drop 24 octets;
      known = ap (λ (x : List ℕ). prepend_known x (remaining l.source)) new.2 ∙ ap (prepend_known []) new.3.1;
      are = subst (λ (f : Format). AreRecords f l.number (drop 24 octets) entries last) formats (subst (λ (n : ℕ). AreRecords format n (drop 24 octets) entries last) (sym new.0) are);
    }

module _ {A S : Type 0} (by : By) (seen : List (List ℕ)) (old now : List Frame) (numbers : HashMap (Vec ℕ A) ℕ S) where
  -- what is read of a capture with a good header
  read_at : {R : Type 0} (remaining : R → Option (List ℕ)) (octets : List ℕ) (l : Left R) (r : Result (Unit {0}) (Fault Trouble)) (said : Result (List Entry × End) CapFault) → IsNewReader remaining (Some octets) l → ReadsAs octets said
      → ((entries : List Entry) (last : End) → Comes remaining l entries last → ReadsNumbered r (records_reading by seen 0 entries last) old now numbers) → ReadsNumbered r (capture_reading by seen said) old now numbers
  read_at remaining octets l r (Ok records) new reads w = w records.0 records.1 (comes_new remaining octets l records.0 records.1 new reads.0 reads.1.0 reads.1.1)
  read_at remaining octets l r (Err fault) new reads w = absurd (let both = sym reads ∙ new.3.0 in cc)

  pub read_all : {R : Type 0} (remaining : R → Option (List ℕ)) (known : Option (List ℕ)) (l : Left R) (r : Result (Unit {0}) (Fault Trouble)) → IsNewReader remaining known l
      → ((entries : List Entry) (last : End) → Comes remaining l entries last → ReadsNumbered r (records_reading by seen 0 entries last) old now numbers)
      → IfSome known (λ octets. (said : Result (List Entry × End) CapFault) → ReadsAs octets said → ReadsNumbered r (capture_reading by seen said) old now numbers)
  read_all remaining None l r new w = tt
  read_all remaining (Some octets) l r new w = λ said reads. read_at remaining octets l r said new reads w

  -- the header has this fault
  headed_by : (octets : List ℕ) (f : CapFault) (r : Result (Unit {0}) (Fault Trouble)) (said : Result (List Entry × End) CapFault) → format_of octets ≡ Err f → ReadsAs octets said
      → r ≡ Err (Faults.Input (Troubles.Header f)) → ReadsNumbered r (capture_reading by seen said) old now numbers
  headed_by octets f r (Ok records) is reads h = absurd (let both = sym is ∙ reads.1.0 in cc)
  headed_by octets f r (Err fault) is reads h =
      let same : Err f ≡ Err fault = sym is ∙ reads in
      let faults : f ≡ fault = cc in
      let P : Result (Unit {0}) (Fault Trouble) → Type 0 = λ x. ReadsNumbered x (capture_reading by seen (Err fault)) old now numbers in
      subst P (sym h) (record { reads = ap (λ (x : CapFault). Some (Troubles.Header x)) (sym faults); numbered = tt })

  failed : (f : Fault Trouble) (r : Result (Unit {0}) (Fault Trouble)) (reading : Reading) → (f ≡ Faults.Read) → r ≡ Err f → ReadsNumbered r reading old now numbers
  failed f r reading e h =
      let P : Result (Unit {0}) (Fault Trouble) → Type 0 = λ x. ReadsNumbered x reading old now numbers in
      subst P (sym (h ∙ ap Err e)) (record { reads = tt; numbered = tt })

  starved : (f : Fault Trouble) (r : Result (Unit {0}) (Fault Trouble)) (reading : Reading) → (f ≡ Faults.Memory) → r ≡ Err f → ReadsNumbered r reading old now numbers
  starved f r reading e h =
      let P : Result (Unit {0}) (Fault Trouble) → Type 0 = λ x. ReadsNumbered x reading old now numbers in
      subst P (sym (h ∙ ap Err e)) (record { reads = tt; numbered = tt })

  -- there is no reader
  unheaded : (octets : List ℕ) (f : CapFault) (r : Result (Unit {0}) (Fault Trouble)) (said : Result (List Entry × End) CapFault) → IsHeaderFault (Some octets) f → ReadsAs octets said → r ≡ Err (header_stopped f)
      → ReadsNumbered r (capture_reading by seen said) old now numbers
  unheaded octets Caps.ShortHeader r said is reads h = headed_by octets Caps.ShortHeader r said is reads h
  unheaded octets Caps.BadMagic r said is reads h = headed_by octets Caps.BadMagic r said is reads h
  unheaded octets Caps.BadVersion r said is reads h = headed_by octets Caps.BadVersion r said is reads h
  unheaded octets Caps.BadLink r said is reads h = headed_by octets Caps.BadLink r said is reads h
  unheaded octets Caps.Read r said is reads h = failed Faults.Read r (capture_reading by seen said) refl h
  unheaded octets Caps.Memory r said is reads h = starved Faults.Memory r (capture_reading by seen said) refl h
  unheaded octets Caps.ShortRecord r said is reads h = absurd is
  unheaded octets Caps.LongRecord r said is reads h = absurd is
  unheaded octets Caps.BadFraction r said is reads h = absurd is
  unheaded octets Caps.TooManyRecords r said is reads h = absurd is
  unheaded octets Caps.BadShift r said is reads h = absurd is
  unheaded octets Caps.Write r said is reads h = absurd is

  pub no_reader : (known : Option (List ℕ)) (f : CapFault) (r : Result (Unit {0}) (Fault Trouble)) → IsHeaderFault known f → r ≡ Err (header_stopped f)
      → IfSome known (λ octets. (said : Result (List Entry × End) CapFault) → ReadsAs octets said → ReadsNumbered r (capture_reading by seen said) old now numbers)
  no_reader None f r is h = tt
  no_reader (Some octets) f r is h = λ said reads. unheaded octets f r said is reads h
