use Rattle.std.proofs.Common.{sym, ◌∙◌}
use Rattle.program.proofs.ToldLaws.{told, untold}
use Rattle.program.proofs.progress.put_out.Goals as goal

pub returns-then-is_err : goal.returns-then-is_err
returns-then-is_err g c = untold c.put_parts.result _ _ _ (sym c.is_err.ensures.value ∙ c.if-is_err.true) c.put_parts.ensures

pub returns : goal.returns
returns g c = told c.is_ok.result c.put_parts.result _ _ _ _ (sym c.is_err.ensures.value ∙ c.if-is_err.false) c.put_parts.ensures c.flush.ensures.bytes
