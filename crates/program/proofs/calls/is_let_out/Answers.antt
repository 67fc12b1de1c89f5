use Rattle.std.proofs.Common.{sym, ◌∙◌}
use Rattle.program.proofs.ToldLaws.{told}
use Rattle.program.proofs.calls.is_let_out.Goals as goal

pub returns-clause-told : goal.returns-clause-told
returns-clause-told g c =
    told c.is_ok.result c.put.result _ _ _ _ (sym c.is_err.ensures.value ∙ c.if-is_err.false) (rw c.as_bytes.ensures.value at c.put.ensures) c.flush.ensures.bytes
