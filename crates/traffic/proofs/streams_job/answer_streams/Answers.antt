use Rattle.job.proofs.RunEndLaws.{ended, out_of_inputs}
use Rattle.traffic.specs.Words.{streams_telling, outcome_of}
use Rattle.traffic.proofs.streams_job.answer_streams.Goals as goal

pub returns-in-Ok-clause-ending : goal.returns-in-Ok-clause-ending
returns-in-Ok-clause-ending g c =
    let table = g.R.Read.remaining c.args.reader.now in
    let script = g.S.Read.remaining c.args.script in
    rw (← c.in-Ok.ensures.given) (ended streams_telling _ _ _ _ _ _ _ c.end_run.ensures
    (λ run out same keeps. out_of_inputs table script (outcome_of c.in-Ok.plan) _ _ out _ run keeps same c.write_streams-run.ensures))
