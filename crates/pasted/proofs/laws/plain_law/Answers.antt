use Rattle.std.proofs.Common.{[]}
use Rattle.pasted.specs.declared.place.Place.TheVariants.{First}
use Rattle.pasted.proofs.PlainLaws.{lines_same}
use Rattle.pasted.proofs.laws.plain_law.Goals as goal

pub returns : goal.returns
returns c = λ octets plain. lines_same First [] octets plain
