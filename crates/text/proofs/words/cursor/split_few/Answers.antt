use Rattle.std.proofs.Common.{subst}
use Rattle.text.specs.Numbers.{FirstIsNumber}
use Rattle.text.specs.Words.{words_of}
use Rattle.text.proofs.words.cursor.split_few.Goals as goal

pub returns-clause-first : goal.returns-clause-first
returns-clause-first c =
    let found = c.in_ok-number in
    subst (λ words. FirstIsNumber words found.number (words_of found.rest.now)) c.past_space.ensures.words found.ensures.first
