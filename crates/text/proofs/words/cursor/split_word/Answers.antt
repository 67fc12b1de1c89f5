use Rattle.std.proofs.Common.{◌≡◌, ◌∷◌, true, false, take, drop, ap, ◌∙◌, arith}
use Rattle.std.proofs.lemmas.List.{take_rest}
use Rattle.text.specs.Words.{starts_blank, word_length, words_of}
use Rattle.text.proofs.FirstWord.{word_length_blank, first_word}
use Rattle.text.proofs.words.cursor.split_word.Goals as goal

pub loop-end-preserved : goal.loop-end-preserved
loop-end-preserved c =
    let rest = c.loop-rest.rest.now in
    let end = c.loop-end.end in
    let word = c.word_on-end.ensures.word in
    record { within = c.word_on-end.ensures.within; word = omega arith }

pub returns-clause-word : goal.returns-clause-word
returns-clause-word c =
    let rest = c.loop-rest.rest.now in
    let end = c.loop-end.end in
    let part = take_rest rest end in
    let over : starts_blank (drop end rest) ≡ true = cc in
    let begins : starts_blank rest ≡ false = cc in
    let none = word_length_blank (drop end rest) over in
    let n : word_length rest ≡ end = omega arith in
    let front = c.split_at.ensures.front in
    let back = c.split_at.ensures.back in
    let all = c.loop-rest.invariant.words ∙ first_word rest begins ∙ ap (λ k. take k rest ∷ words_of (drop k rest)) n in
    cc
