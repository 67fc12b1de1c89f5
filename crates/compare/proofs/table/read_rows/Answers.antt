use Rattle.std.proofs.Common.{◌∙◌, ap, sym, Ok, List, ℕ}
use Rattle.compare.specs.Frames.{frame_in}
use Rattle.compare.proofs.RowLaws.{goes_on}
use Rattle.compare.proofs.table.read_rows.Goals as goal

pub rows-preserved : goal.rows-preserved
rows-preserved g c =
    let a = rw c.if-not-more.false at c.in-Ok.ensures.line in
    let says = ap (λ (line : List ℕ). frame_in c.args.by c.args.columns line) (sym c.line.ensures) ∙ sym c.frame_in.ensures ∙ c.in-Ok-Some.is ∙ ap Ok c.in-Ok-Some.field-0-is in
    goes_on c.args.by c.args.columns _ c.advance.new.self.line.items _ _ _ _ _ _ c.in-Ok-Some.frame c.rows.invariant a says c.in-Ok-push.ensures.items
