use Rattle.port_text.specs.Words.{words_left, words_taken}
use Rattle.port_text.proofs.PlainLemmas.{mask_told}
use Rattle.port_text.proofs.tc_reader.values.take_plain_mask.Goals as goal

pub returns-clause-value : goal.returns-clause-value
returns-clause-value c =
    let pair = c.in_ok-front.ensures.word in
    let bound = c.in_ok-front.ensures.bound in
    mask_told (words_taken c.args.words.now) (words_left c.args.words.now) (words_left c.next_hex_pair.new.self) pair.0 c.in_ok-front.front c.in_ok-front.behind
    pair.1 pair.2 bound.0 bound.1
