use Rattle.std.proofs.Common.{◌∙◌, [], arith}
use Rattle.pasted.specs.declared.place.Place.TheVariants.{First}
use Rattle.pasted.proofs.FeedCounts.{device_feeds}
use Rattle.pasted.proofs.laws.device_feeds_law.Goals as goal

pub returns : goal.returns
returns c = λ name octets. device_feeds name First [] octets ∙ omega arith
