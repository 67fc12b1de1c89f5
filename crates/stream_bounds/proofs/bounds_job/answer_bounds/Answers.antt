use Rattle.job.proofs.RunEndLaws.{ended}
use Rattle.stream_bounds.specs.Faults.{bounds_telling}
use Rattle.stream_bounds.proofs.CommandLaws.{let_out}
use Rattle.stream_bounds.proofs.bounds_job.answer_bounds.Goals as goal

pub returns : goal.returns
returns g c =
    let schedules = g.R.Read.remaining c.args.reader.now in
    let table = g.S.Read.remaining c.args.table in
    ended bounds_telling _ _ _ _ _ _ _ c.end_run.ensures
    (λ run out same keeps read is. let_out read c.args.settings table schedules _ _ out _ run keeps same (c.bounds-run.ensures read is))
