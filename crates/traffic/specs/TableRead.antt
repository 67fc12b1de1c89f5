-- What reading a table leaves with who takes its streams.
use Rattle.std.specs.Prelude.{◌≡◌, ⊤, ℕ, List, [], ◌∷◌, ◌++◌, Option, Some, None, Result, Ok, Err}
use Rattle.job.specs.declared.fault.Fault.{Fault}
use Rattle.job.specs.declared.fault.Fault.TheVariants as Faults
use Rattle.script.specs.Outcome.{bad_line}
use Rattle.script.specs.declared.faults.BadLine.{BadLine}
use Rattle.script.specs.declared.faults.ScriptFault.{ScriptFault}
use Rattle.traffic.specs.Table.{Table}
use Rattle.traffic.specs.declared.table.Stream.{Stream}
use Rattle.traffic.specs.declared.table_reader.Untaken.{Untaken}
use Rattle.traffic.specs.declared.table_reader.Untaken.TheVariants as Untakens

-- a stream is taken behind the others as it is judged; or the fault is what it is judged to have
abbrev pub IsTaken : Result Stream Untaken → Result Stream ScriptFault → List Stream → List Stream → Type 0
IsTaken (Ok s) said old new = (said ≡ Ok s) × (new ≡ old ++ s ∷ [])
IsTaken (Err (Untakens.Fault fault)) said old new = said ≡ Err fault
IsTaken (Err Untakens.Memory) said old new = ⊤

-- the stream of a line is taken; nothing is, where the line is skipped
abbrev pub TakesLine : Result (Option Stream) Untaken → Result (Option Stream) ScriptFault → List Stream → List Stream → Type 0
TakesLine (Ok None) said old new = (said ≡ Ok None) × (new ≡ old)
TakesLine (Ok (Some s)) said old new = (said ≡ Ok (Some s)) × (new ≡ old ++ s ∷ [])
TakesLine (Err (Untakens.Fault fault)) said old new = said ≡ Err fault
TakesLine (Err Untakens.Memory) said old new = ⊤

-- the fault of a line whose stream isn't taken
abbrev pub IsUntaken : ℕ → Untaken → Fault BadLine → Type 0
IsUntaken number (Untakens.Fault fault) why = why ≡ Faults.Input (bad_line number fault)
IsUntaken number Untakens.Memory why = why ≡ Faults.Memory

-- at Ok the table's streams come after those that were taken; a fault of a line is the table's
abbrev pub ReadsTable : {T : Type 0} → Result T (Fault BadLine) → Table → List Stream → List Stream → Type 0
ReadsTable (Ok x) table old new = (table.fault ≡ None) × (new ≡ old ++ table.streams)
ReadsTable (Err (Faults.Input bad)) table old new = table.fault ≡ Some (bad.line, bad.fault)
ReadsTable (Err Faults.Read) table old new = ⊤
ReadsTable (Err Faults.Write) table old new = ⊥
ReadsTable (Err Faults.Memory) table old new = ⊤
