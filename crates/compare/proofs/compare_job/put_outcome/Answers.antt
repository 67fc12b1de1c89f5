use Rattle.std.proofs.Common.{List, ◌∙◌, subst}
use Rattle.text.specs.Writes.{FallsShort}
use Rattle.text.proofs.Fronts.{sent_none}
use Rattle.compare.specs.Lines.{compared_text}
use Rattle.compare.specs.Pairs.{compared}
use Rattle.compare.specs.declared.pairs.Comparison.{Comparison}
use Rattle.compare.proofs.compare_job.put_outcome.Goals as goal

pub returns-in_default : goal.returns-in_default
returns-in_default g c =
    let text = compared_text (compared c.args.first.now c.args.second.now) in
    (text, sent_none _ text)

pub returns-in_default-put_compared : goal.returns-in_default-put_compared
returns-in_default-put_compared g c =
    let P : List Comparison → Type 0 = λ all. FallsShort (g.W.Write.contents c.args.writer.now) (g.W.Write.contents c.put_compared.new.writer) (compared_text all) in
    subst P (c.as_slice-all.ensures.value ∙ c.in-Ok.ensures) c.in_default-put_compared.ensures
