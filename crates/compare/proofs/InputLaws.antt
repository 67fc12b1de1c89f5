-- An input, by its first octets.
use Rattle.std.proofs.Common.{◌≡◌, ◌⊎◌, ℕ, List, Bool, true, false, Option, Some, None, Result, Ok, Err, inl, inr, sym, ap, ◌∙◌, subst}
use Rattle.std.specs.Prelude.{IfSome, MatchBool}
use Rattle.std.specs.HashMap.{HashMap}
use Rattle.std.specs.declared.vec.Vec.{Vec}
use Rattle.std.specs.Fmt.{option_append}
use Rattle.capture.specs.Records.{Entry}
use Rattle.capture.specs.declared.fault.CapFault.{CapFault}
use Rattle.capture.specs.declared.reader.End.{End}
use Rattle.text.specs.Script.{script_of}
use Rattle.job.specs.declared.fault.Fault.{Fault}
use Rattle.job.specs.declared.fault.Fault.TheVariants as Faults
use Rattle.compare.specs.Frames.{Reading, ReadsAs, Says, begins_capture, capture_reading, table_reading}
use Rattle.compare.specs.Payloads.{AreNumbered, ReadsNumbered}
use Rattle.compare.specs.Read.{IsFront, Reads}
use Rattle.compare.specs.declared.faults.Trouble.{Trouble}
use Rattle.compare.specs.declared.frame.Frame.{Frame}
use Rattle.compare.specs.declared.settings.By.{By}
use Rattle.compare.proofs.FrontLaws.{same_begin}

module _ {A S : Type 0} (by : By) (seen : List (List ℕ)) (old new : List Frame) (numbers : HashMap (Vec ℕ A) ℕ S) where
  -- what is read of known octets
  abbrev ReadOf : Result (Unit {0}) (Fault Trouble) → Option (List ℕ) → Type 0
  ReadOf r known = IfSome known (λ octets. (reading : Reading) → Says by seen octets reading → ReadsNumbered r reading old new numbers)

  -- a read or memory failed
  pub front_fails : {r : Result (Unit {0}) (Fault Trouble)} (known : Option (List ℕ)) (fault : Fault Trouble) → (fault ≡ Faults.Read) ⊎ (fault ≡ Faults.Memory) → r ≡ Err fault → ReadOf r known
  front_fails None fault e h = tt
  front_fails {r} (Some octets) fault (inl e) h = λ reading says.
      let P : Result (Unit {0}) (Fault Trouble) → Type 0 = λ x. ReadsNumbered x reading old new numbers in
      subst P (sym (h ∙ ap Err e)) (record { reads = tt; numbered = tt })
  front_fails {r} (Some octets) fault (inr e) h = λ reading says.
      let P : Result (Unit {0}) (Fault Trouble) → Type 0 = λ x. ReadsNumbered x reading old new numbers in
      subst P (sym (h ∙ ap Err e)) (record { reads = tt; numbered = tt })

  capture_at : (r : Result (Unit {0}) (Fault Trouble)) (octets : List ℕ) (reading : Reading) → begins_capture octets ≡ true → Says by seen octets reading
      → ((said : Result (List Entry × End) CapFault) → ReadsAs octets said → ReadsNumbered r (capture_reading by seen said) old new numbers) → ReadsNumbered r reading old new numbers
  capture_at r octets reading e says w =
      let P : Bool → Type 0 = λ b. MatchBool b ((records : Result (List Entry × End) CapFault) × ReadsAs octets records × (reading ≡ capture_reading by seen records))
      (reading ≡ record (table_reading by (script_of octets)) { payloads = seen }) in
      let said = subst P e says in
      let Q : Reading → Type 0 = λ x. ReadsNumbered r x old new numbers in
      subst Q (sym said.2) (w said.0 said.1)

  -- it is a capture
  pub capture_in : (r : Result (Unit {0}) (Fault Trouble)) (known after joined : Option (List ℕ)) (front : List ℕ) → IsFront known front after → joined ≡ option_append (Some front) after → begins_capture front ≡ true
      → IfSome joined (λ octets. (said : Result (List Entry × End) CapFault) → ReadsAs octets said → ReadsNumbered r (capture_reading by seen said) old new numbers) → ReadOf r known
  capture_in r None after joined front is join e w = tt
  capture_in r (Some octets) after joined front is join e w = λ reading says.
      let whole : joined ≡ Some octets = join ∙ ap (option_append (Some front)) is.known ∙ ap Some (sym is.parts) in
      let P : Option (List ℕ) → Type 0 = λ o. IfSome o (λ octets. (said : Result (List Entry × End) CapFault) → ReadsAs octets said → ReadsNumbered r (capture_reading by seen said) old new numbers) in
      capture_at r octets reading (same_begin octets front is.rest is.parts is.enough ∙ e) says (subst P whole w)

  with_seen : (r : Result (Unit {0}) (Fault Trouble)) (reading : Reading) → AreNumbered seen numbers → Reads r reading old new → ReadsNumbered r (record reading { payloads = seen }) old new numbers
  with_seen (Ok x) reading are w = record { reads = w; numbered = are }
  with_seen (Err (Faults.Input trouble)) reading are w = record { reads = w; numbered = tt }
  with_seen (Err Faults.Read) reading are w = record { reads = tt; numbered = tt }
  with_seen (Err Faults.Write) reading are w = absurd w
  with_seen (Err Faults.Memory) reading are w = record { reads = tt; numbered = tt }

  table_at : (r : Result (Unit {0}) (Fault Trouble)) (octets : List ℕ) (reading : Reading) → begins_capture octets ≡ false → Says by seen octets reading → AreNumbered seen numbers
      → Reads r (table_reading by (script_of octets)) old new → ReadsNumbered r reading old new numbers
  table_at r octets reading e says are w =
      let P : Bool → Type 0 = λ b. MatchBool b ((records : Result (List Entry × End) CapFault) × ReadsAs octets records × (reading ≡ capture_reading by seen records))
      (reading ≡ record (table_reading by (script_of octets)) { payloads = seen }) in
      let Q : Reading → Type 0 = λ x. ReadsNumbered r x old new numbers in
      subst Q (sym (subst P e says)) (with_seen r (table_reading by (script_of octets)) are w)

  -- it is a table
  pub table_in : (r : Result (Unit {0}) (Fault Trouble)) (known after joined : Option (List ℕ)) (front : List ℕ) → IsFront known front after → joined ≡ option_append (Some front) after → begins_capture front ≡ false
      → AreNumbered seen numbers → IfSome joined (λ octets. Reads r (table_reading by (script_of octets)) old new) → ReadOf r known
  table_in r None after joined front is join e are w = tt
  table_in r (Some octets) after joined front is join e are w = λ reading says.
      let whole : joined ≡ Some octets = join ∙ ap (option_append (Some front)) is.known ∙ ap Some (sym is.parts) in
      let P : Option (List ℕ) → Type 0 = λ o. IfSome o (λ octets. Reads r (table_reading by (script_of octets)) old new) in
      table_at r octets reading (same_begin octets front is.rest is.parts is.enough ∙ e) says are (subst P whole w)
