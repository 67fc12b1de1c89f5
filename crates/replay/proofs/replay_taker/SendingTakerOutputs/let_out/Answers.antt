use Rattle.std.proofs.Common.{Err, ap, ◌∙◌}
use Rattle.std.proofs.lemmas.Result.{err_from_is_err_and}
use Rattle.replay.specs.Beside.{beside_kept, beside_not_kept}
use Rattle.replay.specs.Words.{got, state_of}
use Rattle.replay.proofs.replay_taker.SendingTakerOutputs.let_out.Goals as goal

pub returns-in_err-flush_both-clause-taken : goal.returns-in_err-flush_both-clause-taken
returns-in_err-flush_both-clause-taken g c = λ es.
    let p = err_from_is_err_and c.from_residual.result c.from_residual.ensures.1 in
    let new = got (g.V.Write.contents c.flush_both.new.outputs.report) (g.W.Write.contents c.flush_both.new.outputs.departures) in
    rw (p.1 ∙ ap Err p.2)
    (beside_not_kept es (state_of g.V.Write.contents g.W.Write.contents c.args.self.now c.args.out.now) new c.flush_both.ensures.report c.flush_both.ensures.departures c.in_err-flush_both.field-0.0)

pub returns-clause-taken : goal.returns-clause-taken
returns-clause-taken g c = λ es.
    let new = got (g.V.Write.contents c.flush_both.new.outputs.report) (g.W.Write.contents c.flush_both.new.outputs.departures) in
    beside_kept es (state_of g.V.Write.contents g.W.Write.contents c.args.self.now c.args.out.now) new c.flush_both.ensures.report c.flush_both.ensures.departures
