use Rattle.std.proofs.Common.{◌≡◌, fold, take}
use Rattle.clap.specs.Words.{app_of}
use Rattle.program.specs.Table.{bare_app, with_job}
use Rattle.program.proofs.options.command.Given as goal

abbrev pub invariant-loop-job : goal.invariant-loop-job
invariant-loop-job l = app_of l.program ≡ fold with_job bare_app (take l.job-index l.job-items)
