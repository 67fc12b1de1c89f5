use Rattle.std.proofs.Common.{sym, ◌∙◌, rules}
use Rattle.text.proofs.FrontLaws.{first_word, space_first}
use Rattle.text.proofs.words.cursor.split_digit.Goals as goal

pub returns-in-32-clause-word : goal.returns-in-32-clause-word
returns-in-32-clause-word c =
    let rest = c.in_ok-digit.rest.now in
    let number = c.in_ok-digit.ensures.number in
    let space = space_first rest c.in-32.len_at_least (search rules) in
    (number.word, number.is_number, sym c.past_space.ensures.words ∙ first_word c.in_ok-digit.digit c.past_space.result.now rest number space.0 space.1)
