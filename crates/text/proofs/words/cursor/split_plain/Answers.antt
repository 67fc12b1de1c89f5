use Rattle.std.proofs.Common.{◌<◌, sym, ◌∙◌, rules}
use Rattle.text.proofs.PlainWord.{plain_first}
use Rattle.text.proofs.words.cursor.split_plain.Goals as goal

pub returns-clause-word : goal.returns-clause-word
returns-clause-word c =
    let rest = c.past_space-rest.result.now in
    let end = c.unblank_length-length.result in
    let some : 0 < end = search rules in
    let first = plain_first end rest some c.unblank_length-length.ensures.within c.unblank_length-length.ensures.unblank (search rules) (search rules) in
    let front = c.split_at.ensures.front in
    let back = c.split_at.ensures.back in
    let all = sym c.past_space-rest.ensures.words ∙ first in
    cc
