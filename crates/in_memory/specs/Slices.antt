-- What a call over memory reports, and what it leaves in its two slices.
use Rattle.std.specs.Prelude.{◌≡◌, ◌<◌, ◌⊎◌, List, ℕ, [], ◌++◌, drop, length, Option, Some, None, Result, Ok, Err}
use Rattle.job.specs.Outcome.{Outcome}
use Rattle.job.specs.Report.{Telling}
use Rattle.job.specs.declared.fault.Fault.{Fault}
use Rattle.job.specs.declared.fault.Fault.TheVariants as Faults
use Rattle.script.specs.Texts.{value_text}
use Rattle.script.specs.declared.settings.BadValue.{BadValue}
use Rattle.in_memory.specs.declared.jobs.Ran.{Ran}

-- 1. What is reported

-- a status, an output, and the text of a fault, which is empty where there is none
pub record Told : Type 0 where
  pub status : ℕ
  pub output : List ℕ
  pub fault : List ℕ

-- the status that goes with the fault of an input, 0 where there is none
abbrev pub status_of : {I : Type 0} → Telling I → Option I → ℕ
status_of telling None = 0
status_of telling (Some fault) = telling.status fault

-- its text
abbrev pub text_of : {I : Type 0} → Telling I → Option I → List ℕ
text_of telling None = []
text_of telling (Some fault) = telling.text fault

-- an output with the fault that ends it
abbrev pub told_of : {I : Type 0} → Telling I → Outcome I → Told
told_of telling whole = record { status = status_of telling whole.fault; output = whole.text; fault = text_of telling whole.fault }

-- a bad value, with status 2 and no output
abbrev pub refused : BadValue → Told
refused value = record { status = 2; output = []; fault = value_text value }

-- by what values say: what is to be written by them, or the first that is bad
abbrev pub told_by : {S I : Type 0} → Telling I → (S → Outcome I) → Result S BadValue → Told
told_by telling whole (Ok given) = told_of telling (whole given)
told_by telling whole (Err value) = refused value

-- 2. What is left in the slices

-- the text stands at the front of a slice, and the rest of it is as it was
abbrev pub IsPut : List ℕ → List ℕ → List ℕ → Type 0
IsPut old new text = new ≡ text ++ drop (length text) old

-- what the two slices hold
pub record Slices : Type 0 where
  pub output : List ℕ
  pub fault : List ℕ

-- what stands in two slices, as a record
abbrev pub slices : List ℕ → List ℕ → Slices
slices output fault = record { output = output; fault = fault }

-- all is reported: the output and the text of the fault stand at the front of their slices
pub record IsWhole (told : Told) (ran : Ran) (old new : Slices) : Type 0 where
  pub status : ran.status ≡ told.status
  pub output : IsPut old.output new.output told.output
  pub output_length : ran.output ≡ length told.output
  pub fault : IsPut old.fault new.fault told.fault
  pub fault_length : ran.fault ≡ length told.fault

-- A slice has too little room: nothing is written, and how much room both want is reported.
pub record HasNoRoom (told : Told) (ran : Ran) (old new : Slices) : Type 0 where
  pub status : ran.status ≡ 5
  pub lacking : (length old.output < length told.output) ⊎ (length old.fault < length told.fault)
  pub output_length : ran.output ≡ length told.output
  pub fault_length : ran.fault ≡ length told.fault
  pub kept : new ≡ old

-- Out of memory: nothing is written.
pub record HasNoMemory (ran : Ran) (old new : Slices) : Type 0 where
  pub ended : ran ≡ record { output = 0; fault = 0; status = 4 }
  pub kept : new ≡ old

-- a run that ended by the fault of a call, and not of an input
abbrev pub IsFailed : {I T : Type 0} → Result T (Fault I) → Type 0
IsFailed (Ok x) = ⊥
IsFailed (Err (Faults.Input fault)) = ⊥
IsFailed (Err why) = Unit {0}

-- one of the three
abbrev pub Answers : Told → Ran → Slices → Slices → Type 0
Answers told ran old new = IsWhole told ran old new ⊎ (HasNoRoom told ran old new ⊎ HasNoMemory ran old new)
