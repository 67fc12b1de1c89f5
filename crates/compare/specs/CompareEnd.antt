-- What a run of the program on two inputs leaves.
use Rattle.std.specs.Prelude.{List, ℕ, [], Option, IfSome}
use Rattle.job.specs.Outcome.{Outcome, RunsOut}
use Rattle.job.specs.RunEnd.{IsLetOut, IsRunEnding}
use Rattle.job.specs.declared.report.Ended.{Ended}
use Rattle.compare.specs.Faults.{compare_telling}
use Rattle.compare.specs.Frames.{Reading, Says}
use Rattle.compare.specs.Outcome.{outcome_of}
use Rattle.compare.specs.declared.faults.CompareInput.{CompareInput}
use Rattle.compare.specs.declared.settings.CompareSettings.{CompareSettings}

-- what is to be written for the octets of both inputs is so
abbrev pub ForOutcome : CompareSettings → (first second : Option (List ℕ)) → (Outcome CompareInput → Type 0) → Type 0
ForOutcome s first second P = IfSome first (λ x. IfSome second (λ y.
    (a b : Reading) → Says s.by [] x a → Says s.by a.payloads y b → P (outcome_of s.within a b)))

-- The end of a run: what the writer got, with what no write let out, is what is to be written for the octets of both inputs, or after a fault of a
-- call's a prefix of it.
abbrev pub IsCompareEnding : CompareSettings → (first second : Option (List ℕ)) → Ended → (old got errors_old errors_new : Option (List ℕ)) → Type 0
IsCompareEnding s first second ended old got errors_old errors_new =
    IsRunEnding compare_telling (λ run. IsLetOut run got (λ out. ForOutcome s first second (λ whole. RunsOut run old out whole))) ended errors_old errors_new
