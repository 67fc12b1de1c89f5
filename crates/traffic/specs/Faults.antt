-- Faults of a run on a table and a script, from those of their lines, and what is reported of them.
use Rattle.std.specs.Prelude.{List, ℕ, codes}
use Rattle.text.specs.declared.line_reader.lines.LineFault.{LineFault}
use Rattle.job.specs.Lines.{fault_of_line}
use Rattle.job.specs.Report.{Telling}
use Rattle.job.specs.declared.fault.Fault.{Fault}
use Rattle.job.specs.declared.fault.Fault.TheVariants as Faults
use Rattle.job.specs.declared.kind.FaultKind.{FaultKind}
use Rattle.job.specs.declared.kind.FaultKind.TheVariants as Kinds
use Rattle.script.specs.Kinds.{line_kind, table_kind}
use Rattle.script.specs.Outcome.{limit_fault}
use Rattle.script.specs.Texts.{line_text}
use Rattle.script.specs.declared.faults.BadLine.{BadLine}
use Rattle.traffic.specs.declared.faults.StreamsInput.{StreamsInput}
use Rattle.traffic.specs.declared.faults.StreamsInput.TheVariants as Inputs

-- a fault that reading a table has, as one of the job
abbrev pub table_fault : Fault BadLine → Fault StreamsInput
table_fault (Faults.Input bad) = Faults.Input (Inputs.Table bad.line bad.fault)
table_fault Faults.Read = Faults.Read
table_fault Faults.Write = Faults.Write
table_fault Faults.Memory = Faults.Memory

-- a fault that the lines of a script have, as a fault of the job
abbrev pub script_fault : LineFault → Fault StreamsInput
script_fault fault = fault_of_line (λ number limit. Inputs.Script number (limit_fault limit)) fault

-- the text of a fault
abbrev pub streams_text : StreamsInput → List ℕ
streams_text (Inputs.Table line fault) = line_text (codes "taprio_port: table line ") line fault
streams_text (Inputs.Script line fault) = line_text (codes "taprio_port: script line ") line fault

-- what a fault is, where the faults of all jobs are told apart
abbrev pub streams_kind : StreamsInput → FaultKind
streams_kind (Inputs.Table line fault) = Kinds.Line (table_kind fault)
streams_kind (Inputs.Script line fault) = Kinds.Line (line_kind fault)

-- what is reported of a fault; 3: an input is refused
abbrev pub streams_telling : Telling StreamsInput
streams_telling = record { text = streams_text; status = λ fault. 3 }
