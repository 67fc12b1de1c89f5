use Rattle.std.proofs.Common.{Err, ap, ◌∙◌}
use Rattle.std.proofs.lemmas.Result.{err_from_is_err_and}
use Rattle.traffic.proofs.OutcomeLaws.{starved}
use Rattle.traffic.proofs.streams.write_streams_read.Goals as goal

pub returns-in_err-turns : goal.returns-in_err-turns
returns-in_err-turns g c =
    let p = err_from_is_err_and c.from_residual.result c.from_residual.ensures.1 in
    starved {T = Unit {0}} _ _ _ _ (p.1 ∙ ap Err p.2)

pub returns-in_err-uncounted : goal.returns-in_err-uncounted
returns-in_err-uncounted g c =
    let p = err_from_is_err_and c.from_residual-in_err-uncounted.result c.from_residual-in_err-uncounted.ensures.1 in
    starved {T = Unit {0}} _ _ _ _ (p.1 ∙ ap Err p.2)

pub returns-in_err-room : goal.returns-in_err-room
returns-in_err-room g c =
    let p = err_from_is_err_and c.from_residual-in_err-room.result c.from_residual-in_err-room.ensures.1 in
    starved {T = Unit {0}} _ _ _ _ (p.1 ∙ ap Err p.2)

pub returns-in_err-nodes : goal.returns-in_err-nodes
returns-in_err-nodes g c =
    let p = err_from_is_err_and c.from_residual-in_err-nodes.result c.from_residual-in_err-nodes.ensures.1 in
    starved {T = Unit {0}} _ _ _ _ (p.1 ∙ ap Err p.2)
