-- Faults of runs on inputs that are read line by line.
use Rattle.std.specs.Prelude.{◌≡◌, ℕ, List, Bool, Option, Result, Ok, Err}
use Rattle.text.specs.LineReader.{Advances}
use Rattle.text.specs.Script.{Script}
use Rattle.text.specs.declared.line_reader.lines.Limit.{Limit}
use Rattle.text.specs.declared.line_reader.lines.LineFault.{LineFault}
use Rattle.text.specs.declared.line_reader.lines.LineFault.TheVariants as LineFaults
use Rattle.job.specs.declared.fault.Fault.{Fault}
use Rattle.job.specs.declared.fault.Fault.TheVariants as Faults

-- the fault of a run whose line can not be read, by the fault of a line that passes a limit
abbrev pub fault_of_line : {I : Type 0} → (ℕ → Limit → I) → LineFault → Fault I
fault_of_line limited (LineFaults.Limit number limit) = Faults.Input (limited number limit)
fault_of_line limited LineFaults.Read = Faults.Read

-- A step to the next line, where what was written is let out first: a step of the lines, or nothing could be let out.
abbrev pub Steps : {I : Type 0} → (ℕ → Limit → I) → Option Script → Result Bool (Fault I) → ℕ → List ℕ → Option Script → Type 0
Steps limited old (Ok more) number line new = Advances old (Ok more) number line new
Steps limited old (Err (Faults.Input fault)) number line new =
    (n : ℕ) × (limit : Limit) × (fault ≡ limited n limit) × Advances old (Err (LineFaults.Limit n limit)) number line new
Steps limited old (Err Faults.Read) number line new = Advances old (Err LineFaults.Read) number line new
Steps limited old (Err Faults.Write) number line new = Unit {0}
Steps limited old (Err Faults.Memory) number line new = ⊥
