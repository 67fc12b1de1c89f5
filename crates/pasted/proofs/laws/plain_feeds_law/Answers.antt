use Rattle.std.proofs.Common.{[], refl}
use Rattle.pasted.specs.declared.place.Place.TheVariants.{First}
use Rattle.pasted.proofs.FeedCounts.{plain_feeds}
use Rattle.pasted.proofs.laws.plain_feeds_law.Goals as goal

pub returns : goal.returns
returns c = λ octets. plain_feeds First [] octets (record { none = refl })
