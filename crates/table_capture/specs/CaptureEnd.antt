-- What a run of the program on a table leaves that writes a capture.
use Rattle.std.specs.Prelude.{List, ℕ, Option, IfSome}
use Rattle.job.specs.Outcome.{RunsOut}
use Rattle.job.specs.RunEnd.{IsLetOut, IsRunEnding}
use Rattle.job.specs.declared.report.Ended.{Ended}
use Rattle.traffic.specs.Faults.{streams_telling}
use Rattle.traffic.specs.declared.plan.Plan.{Plan}
use Rattle.table_capture.specs.Outcome.{outcome_of}

-- The end of a run by a plan: what the writer of the capture got, with what no write let out, is what is to be written for the octets of the table, or
-- after a fault of a call's a prefix of it.
abbrev pub IsCaptureEnding : Plan → (table : Option (List ℕ)) → Ended → (old got errors_old errors_new : Option (List ℕ)) → Type 0
IsCaptureEnding plan table ended old got errors_old errors_new =
    IsRunEnding streams_telling (λ run. IsLetOut run got (λ out. IfSome table (λ octets. RunsOut run old out (outcome_of plan octets)))) ended errors_old errors_new
