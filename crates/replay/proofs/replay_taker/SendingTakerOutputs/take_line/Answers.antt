use Rattle.std.proofs.Common.{Err, ap, ◌∙◌}
use Rattle.std.proofs.lemmas.Result.{err_from_is_err_and}
use Rattle.replay.proofs.replay_taker.SendingTakerOutputs.take_line.Goals as goal

pub returns-in_err-put_line-clause-taken : goal.returns-in_err-put_line-clause-taken
returns-in_err-put_line-clause-taken g c = λ read is es.
    let p = err_from_is_err_and c.from_residual.result c.from_residual.ensures.1 in
    rw (p.1 ∙ ap Err p.2)
    (λ together origin are k. c.in_err-put_line.ensures.answers read is origin k)

pub returns-clause-taken : goal.returns-clause-taken
returns-clause-taken g c = λ read is es. λ together. (c.in_ok-put_line.ensures.together, λ origin are k. c.in_ok-put_line.ensures.answers read is origin k)
