use Rattle.std.proofs.Common.{refl}
use Rattle.std.proofs.lemmas.Result.{err_from_is_err_and}
use Rattle.text.proofs.Fronts.{sent_none, sent_more, sent_exit, sent_last}
use Rattle.summary.proofs.tally.Summary.put_wire.Goals as goal

pub returns-in_err-put_wire_line : goal.returns-in_err-put_wire_line
returns-in_err-put_wire_line g c =
    let exit = err_from_is_err_and c.from_residual.result c.from_residual.ensures.1 in
    rw (← c.busy_by.ensures.busy, ← c.self.view_is) (sent_exit _ _ _ exit.1 (sent_none _ _) refl c.in_err-put_wire_line.ensures)

pub returns : goal.returns
returns g c =
    rw (← c.busy_by.ensures.busy, ← c.self.view_is) (sent_last _ _ (sent_more _ _ _ (sent_none _ _) refl c.in_ok-put_wire_line.ensures) c.put_open_text.ensures)
