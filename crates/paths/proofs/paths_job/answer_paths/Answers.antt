use Rattle.job.proofs.RunEndLaws.{ended}
use Rattle.script.specs.Given.{octets_of}
use Rattle.paths.specs.Faults.{paths_telling}
use Rattle.paths.proofs.EndLaws.{let_out}
use Rattle.paths.proofs.paths_job.answer_paths.Goals as goal

pub returns : goal.returns
returns g c =
    let schedules = g.R.Read.remaining c.args.reader.now in
    let network = g.S.Read.remaining c.args.network in
    ended paths_telling _ _ _ _ _ _ _ c.end_run.ensures
    (λ run out same keeps read is. let_out c.args.settings.now (octets_of c.args.next) read network schedules _ _ out _ run keeps same (c.paths-run.ensures read is))
