use Rattle.std.proofs.Common.{take}
use Rattle.program.proofs.NameLaws.{NameNone}
use Rattle.program.proofs.calls.job_of.Given as goal

-- the words name none of the jobs so far
abbrev pub invariant-loop-job : goal.invariant-loop-job
invariant-loop-job l = NameNone l.matches (take l.job-index l.job-items)
