use Rattle.std.proofs.Common.{◌<◌, Some, sym, ap, ◌∙◌, rules}
use Rattle.text.specs.Numbers.{first_number, behind_first}
use Rattle.text.specs.Words.{words_of}
use Rattle.text.proofs.NumberWord.{digits_first, value_first}
use Rattle.text.proofs.words.cursor.split_short.Goals as goal

pub returns-clause-first : goal.returns-clause-first
returns-clause-first c =
    let rest = c.past_space-rest.result.now in
    let end = c.short_run-number.result.1 in
    let number = c.short_run-number.result.0 in
    let run = c.short_run-number.ensures in
    let some : 0 < end = search rules in
    let first = sym c.past_space-rest.ensures.words ∙ digits_first end number rest some run.within run.value (search rules) (search rules) in
    record {
      number = λ most. ap (first_number most) first ∙ ap Some (value_first most end number rest some run.within run.value);
      left = ap words_of c.split_at.ensures.back ∙ ap behind_first (sym first);
    }
