-- The texts of faults, and the exit statuses that go with them.
use Rattle.std.specs.Prelude.{List, ℕ, [], Bool, true, false, Option, Result, Ok, Err, codes}
use Rattle.std.specs.Io.KnownBytes.{Appends}
use Rattle.text.specs.Writes.{FallsShort}
use Rattle.job.specs.Report.{Telling}
use Rattle.job.specs.declared.fault.Fault.{Fault}
use Rattle.job.specs.declared.fault.Fault.TheVariants as Faults

-- the text of a fault
abbrev pub fault_text : {I : Type 0} → Telling I → Fault I → List ℕ
fault_text telling (Faults.Input fault) = telling.text fault
fault_text telling Faults.Read = codes "taprio_port: read failed\n"
fault_text telling Faults.Write = codes "taprio_port: write failed\n"
fault_text telling Faults.Memory = codes "taprio_port: out of memory\n"

-- the exit status that goes with it; 4: a read, a write or memory failed
abbrev pub fault_status : {I : Type 0} → Telling I → Fault I → ℕ
fault_status telling (Faults.Input fault) = telling.status fault
fault_status telling Faults.Read = 4
fault_status telling Faults.Write = 4
fault_status telling Faults.Memory = 4

-- the exit status of a run: 0 where there is no fault
abbrev pub run_status : {I T : Type 0} → Telling I → Result T (Fault I) → ℕ
run_status telling (Ok x) = 0
run_status telling (Err fault) = fault_status telling fault

-- what is reported of a run: nothing where there is no fault
abbrev pub run_text : {I T : Type 0} → Telling I → Result T (Fault I) → List ℕ
run_text telling (Ok x) = []
run_text telling (Err fault) = fault_text telling fault

-- whether a text was reported: all of it was written; or not all of it, but a prefix
abbrev pub IsTold : Bool → Option (List ℕ) → Option (List ℕ) → List ℕ → Type 0
IsTold true old new text = Appends old new text
IsTold false old new text = FallsShort old new text
