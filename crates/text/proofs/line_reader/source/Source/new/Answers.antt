use Rattle.std.proofs.Common.{◌≡◌, ℕ, List, Option, Some, None, refl}
use Rattle.std.specs.Prelude.{option_map}
use Rattle.text.proofs.line_reader.source.Source.new.Goals as goal

same : (o : Option (List ℕ)) → option_map (λ xs. xs) o ≡ o
same None = refl
same (Some xs) = refl

pub returns-clause-left : goal.returns-clause-left
returns-clause-left g c = same (g.R.Read.remaining c.args.reader)
