use Rattle.std.proofs.Common.{◌<◌, length, rules}
use Rattle.pasted.proofs.WordLaws.{behind_less, words_first}
use Rattle.pasted.proofs.line_words.split_word.Goals as goal

pub returns-clause-word : goal.returns-clause-word
returns-clause-word c =
    let some : 0 < length c.args.octets.now = search rules in
    rw (c.indent.ensures, c.first_word.ensures, c.behind_word.ensures) (words_first c.args.octets.now some)

pub returns-clause-shorter : goal.returns-clause-shorter
returns-clause-shorter c =
    let some : 0 < length c.args.octets.now = search rules in
    rw c.behind_word.ensures (behind_less c.args.octets.now some)
