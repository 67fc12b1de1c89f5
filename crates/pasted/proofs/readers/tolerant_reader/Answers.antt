use Rattle.std.proofs.Common.{◌∙◌, List, ℕ, ap}
use Rattle.std.specs.Prelude.{option_map}
use Rattle.pasted.proofs.readers.tolerant_reader.Goals as goal

pub returns : goal.returns
returns g c = c.new-3.ensures ∙ ap (λ (f : List ℕ → List ℕ). option_map f (g.R.Read.remaining c.args.source)) c.new-2.ensures.meaning
