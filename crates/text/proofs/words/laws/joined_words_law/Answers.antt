use Rattle.text.proofs.JoinedLaws.{joined_words}
use Rattle.text.proofs.words.laws.joined_words_law.Goals as goal

pub returns : goal.returns
returns c = joined_words
