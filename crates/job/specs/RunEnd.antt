-- What a run of a job leaves: its exit status, what the writer got, and the text of a fault.
use Rattle.std.specs.Prelude.{◌≡◌, ◌⊎◌, List, ℕ, [], Option, Result, Err}
use Rattle.std.specs.Io.KnownBytes.{Keeps, append_known}
use Rattle.job.specs.Report.{Telling}
use Rattle.job.specs.Texts.{IsTold, run_status, run_text}
use Rattle.job.specs.declared.fault.Fault.{Fault}
use Rattle.job.specs.declared.fault.Fault.TheVariants as Faults
use Rattle.job.specs.declared.report.Ended.{Ended}

-- What a writer got, with what no write let out, is as this says; and all is let out but after a failed write.
pub record IsLetOut {I : Type 0} (run : Result (Unit {0}) (Fault I)) (got : Option (List ℕ)) (Wrote : Option (List ℕ) → Type 0) : Type 0 where
  pub unwritten : List ℕ
  pub let_out : (unwritten ≡ []) ⊎ (run ≡ Err Faults.Write)
  pub wrote : Wrote (append_known got unwritten)

-- The end of a run: the status and the reported text are those of a result of the run, and with that result it left what this says.
pub record IsRunEnding {I : Type 0} (telling : Telling I) (Left : Result (Unit {0}) (Fault I) → Type 0) (ended : Ended) (errors_old errors_new : Option (List ℕ)) : Type 0 where
  pub run : Result (Unit {0}) (Fault I)
  pub status : ended.status ≡ run_status telling run
  pub told : IsTold ended.told errors_old errors_new (run_text telling run)
  pub left : Left run

-- a run's result, or that of a write after it, which failed
abbrev pub IsOrFails : {I : Type 0} → Result (Unit {0}) (Fault I) → Result (Unit {0}) (Fault I) → Type 0
IsOrFails run before = (run ≡ before) ⊎ (run ≡ Err Faults.Write)

-- The end of a run with this result, which left these octets in a writer and its buffer: they stay, and the result is its own or that of a last write
-- that failed.
abbrev pub IsEndOf : {I : Type 0} → Telling I → Result (Unit {0}) (Fault I) → Option (List ℕ) → Ended → (got errors_old errors_new : Option (List ℕ)) → Type 0
IsEndOf telling before mid ended got errors_old errors_new =
    IsRunEnding telling (λ run. IsOrFails run before × IsLetOut run got (Keeps mid)) ended errors_old errors_new

-- An end before anything is written: the status of this number, this text is reported, and the writer has got what it had, with what no write let out.
pub record IsUnanswered (number : ℕ) (text : List ℕ) (ended : Ended) (old got : Option (List ℕ)) (errors_old errors_new : Option (List ℕ)) : Type 0 where
  pub status : ended.status ≡ number
  pub told : IsTold ended.told errors_old errors_new text
  pub unwritten : List ℕ
  pub wrote : append_known got unwritten ≡ old
