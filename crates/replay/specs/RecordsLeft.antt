-- The records of a capture that are still to come.
use Rattle.std.specs.Prelude.{◌≡◌, ℕ, List, Option, Some, None, Result, Ok, Err, length}
use Rattle.capture.specs.Captures.{AreRecords}
use Rattle.capture.specs.CaptureReader.{Left, octets_left}
use Rattle.capture.specs.Records.{Entry}
use Rattle.capture.specs.declared.fault.CapFault.{CapFault}
use Rattle.capture.specs.declared.fault.CapFault.TheVariants.{Read}
use Rattle.capture.specs.declared.reader.End.{End}
use Rattle.capture.specs.declared.reader.End.TheVariants.{Whole, Broken}
use Rattle.replay.specs.Shifts.{moved}
use Rattle.replay.specs.declared.faults.Stop.{Stop}
use Rattle.replay.specs.declared.faults.Stop.TheVariants as Stops
use Rattle.replay.specs.declared.shifts.Shift.{Shift}

-- these records come, and then this end
pub record Comes {R : Type 0} (remaining : R → Option (List ℕ)) (l : Left R) (entries : List Entry) (last : End) : Type 0 where
  pub octets : List ℕ
  pub known : octets_left remaining l ≡ Some octets
  pub are : AreRecords l.format l.number octets entries last

-- of these records, moved so, these come, and then this end
pub record ComesMoved {R : Type 0} (shift : Option Shift) (remaining : R → Option (List ℕ)) (l : Left R) (entries : List Entry) (last : End) : Type 0 where
  pub read : List Entry
  pub read_last : End
  pub comes : Comes remaining l read read_last
  pub are_moved : moved shift read read_last ≡ (entries, last)

-- how they end: with no fault, or with this one after so many
abbrev pub ending : List Entry → End → Option (ℕ × CapFault)
ending entries Whole = None
ending entries (Broken fault) = Some (length entries, fault)

-- they end so
abbrev pub EndsSo : List Entry → End → Option (ℕ × CapFault) → Type 0
EndsSo entries last found = found ≡ ending entries last

-- a fault that was found after so many records, or that a read failed
abbrev pub found : ℕ → CapFault → Result (Option (ℕ × CapFault)) Stop
found number Read = Err Stops.Read
found number fault = Ok (Some (number, fault))
