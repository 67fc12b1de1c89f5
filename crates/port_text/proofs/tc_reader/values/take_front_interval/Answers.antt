use Rattle.std.proofs.Common.{arith}
use Rattle.port_text.specs.Words.{words_left, words_taken}
use Rattle.port_text.proofs.PlainLemmas.{behind_one, told_at_once}
use Rattle.port_text.proofs.tc_reader.values.take_front_interval.Goals as goal

pub returns : goal.returns
returns c =
    let small = c.in_ok-interval.ensures.bound in
    let old = words_left c.args.words.now in
    let new = words_left c.next_front.new.self in
    let interval = c.in_ok-interval.interval in
    let next = c.in_ok-interval.ensures.number in
    let one = behind_one old new interval next.first.number next.first.left in
    record {
      value = told_at_once (words_taken c.args.words.now) old new interval (omega (arith, small)) next.first.number next.first.left;
      place = next.taken;
      moves = (omega (arith, one, next.taken), omega (arith, next.taken));
    }
