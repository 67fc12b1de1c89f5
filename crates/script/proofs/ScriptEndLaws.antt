-- The end of a run whose whole output is known, from what its parts leave.
use Rattle.std.proofs.Common.{List, ℕ, Option, Result}
use Rattle.std.specs.Prelude.{IfSome}
use Rattle.script.specs.Words.{Command, RunsOut, Fault, IsReader, TcFault, script_telling, BadLine}
use Rattle.job.specs.RunEnd.{IsEndOf}
use Rattle.job.specs.declared.report.Ended.{Ended}
use Rattle.job.proofs.RunEndLaws.{ended, out_of_input}
use Rattle.script.specs.ScriptEnd.{IsWholeEnding, Whole}

pub whole_ending : (whole : Whole) (input old mid got errors_old errors_new : Option (List ℕ)) (end : Ended) (before : Result (Unit {0}) (Fault BadLine))
    → ((read : List (List ℕ) → Result Command TcFault) → IsReader read → IfSome input (λ octets. RunsOut before old mid (whole read octets)))
    → IsEndOf script_telling before mid end got errors_old errors_new → IsWholeEnding whole input end old got errors_old errors_new
whole_ending whole input old mid got errors_old errors_new end before runs is_end =
    ended script_telling before mid end got errors_old errors_new _ is_end
    (λ run out same keeps read is. out_of_input input (whole read) old mid out before run keeps same (runs read is))
