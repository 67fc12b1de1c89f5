use Rattle.std.proofs.Common.{Err, ap, ◌∙◌}
use Rattle.std.proofs.lemmas.Result.{err_from_is_err_and}
use Rattle.replay.specs.Words.{kept_in}
use Rattle.replay.proofs.replay_taker.SendingTakerOutputs.take_record.Goals as goal

pub returns-in_err-put_record-clause-taken : goal.returns-in_err-put_record-clause-taken
returns-in_err-put_record-clause-taken g c = λ es is.
    let p = err_from_is_err_and c.from_residual.result c.from_residual.ensures.1 in
    rw (p.1 ∙ ap Err p.2)
    (λ together origin are k. c.in_err-put_record.ensures.answers origin (ap (λ entries. kept_in entries c.args.number) are ∙ is) k)

pub returns-clause-taken : goal.returns-clause-taken
returns-clause-taken g c = λ es is. λ together. (c.in_ok-put_record.ensures.together, λ origin are k. c.in_ok-put_record.ensures.answers origin (ap (λ entries. kept_in entries c.args.number) are ∙ is) k)
