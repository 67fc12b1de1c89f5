-- What is written by a run of a job, and the fault of an input that ends it.
use Rattle.std.specs.Prelude.{◌≡◌, List, ℕ, Option, Some, None, Result, Ok, Err}
use Rattle.std.specs.Io.KnownBytes.{Appends}
use Rattle.text.specs.Writes.{AppendsFront, FallsShort}
use Rattle.job.specs.declared.fault.Fault.{Fault}
use Rattle.job.specs.declared.fault.Fault.TheVariants as Faults

-- the whole output, and the fault of an input that ends it
pub record Outcome (I : Type 0) : Type 0 where
  pub text : List ℕ
  pub fault : Option I

-- At Ok and at the fault of an input the whole output is written, and the fault is that one; at the other faults a prefix of the output, and
-- after a failed write not all of it.
abbrev pub Runs : {I T : Type 0} → Result T (Fault I) → Option (List ℕ) → Option (List ℕ) → Outcome I → Type 0
Runs (Ok x) old new whole = (whole.fault ≡ None) × Appends old new whole.text
Runs (Err (Faults.Input fault)) old new whole = (whole.fault ≡ Some fault) × Appends old new whole.text
Runs (Err Faults.Read) old new whole = AppendsFront old new whole.text
Runs (Err Faults.Write) old new whole = FallsShort old new whole.text
Runs (Err Faults.Memory) old new whole = AppendsFront old new whole.text

-- What is written by a run that lets out its output before its end, or whose output goes through a buffer: as of any run, but after a failed
-- write a prefix, whose last octets the buffer still has.
abbrev pub RunsOut : {I T : Type 0} → Result T (Fault I) → Option (List ℕ) → Option (List ℕ) → Outcome I → Type 0
RunsOut (Ok x) old new whole = (whole.fault ≡ None) × Appends old new whole.text
RunsOut (Err (Faults.Input fault)) old new whole = (whole.fault ≡ Some fault) × Appends old new whole.text
RunsOut (Err Faults.Read) old new whole = AppendsFront old new whole.text
RunsOut (Err Faults.Write) old new whole = AppendsFront old new whole.text
RunsOut (Err Faults.Memory) old new whole = AppendsFront old new whole.text
