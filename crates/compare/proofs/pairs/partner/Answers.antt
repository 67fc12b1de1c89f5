use Rattle.std.proofs.Common.{◌∙◌}
use Rattle.compare.proofs.pairs.partner.Goals as goal

pub returns : goal.returns
returns g c = λ all at. c.copied.ensures ∙ c.get-found.ensures.value ∙ at c.args.counted.now.frame.key c.args.counted.now.nth
