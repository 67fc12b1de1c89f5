use Rattle.std.proofs.Common.{rules}
use Rattle.text.proofs.MovedDigits.{joined_is, joined_small, moved_word}
use Rattle.text.proofs.words.numbers.eight_digits.Goals as goal

pub returns-clause-value : goal.returns-clause-value
returns-clause-value c = joined_is _ _ (moved_word c.args.octets.now c.args.count _ (search rules) c.requires.some c.requires.few c.requires.digits c.from_le_bytes-all.ensures)

pub returns-clause-bound : goal.returns-clause-bound
returns-clause-bound c = joined_small _ _ (moved_word c.args.octets.now c.args.count _ (search rules) c.requires.some c.requires.few c.requires.digits c.from_le_bytes-all.ensures)
