use Rattle.std.proofs.Common.{◌≡◌, ◌+◌, drop, add-one, arith}
use Rattle.text.specs.Words.{word_length}
use Rattle.text.proofs.FirstWord.{within_word, word_length_more}
use Rattle.text.proofs.words.cursor.word_on.Goals as goal

pub loop-next-init : goal.loop-next-init
loop-next-init c =
    let octets = c.args.octets.now in
    let place = c.args.place in
    let more : word_length (drop place octets) ≡ 1 + word_length (drop (place + 1) octets) = rw (add-one place) (rw (word_length_more place octets c.requires) (omega arith)) in
    record { onward = omega arith; within = omega (arith, within_word place octets c.requires); word = omega arith }

pub loop-next-preserved : goal.loop-next-preserved
loop-next-preserved c =
    let octets = c.args.octets.now in
    let next = c.loop-next.next in
    let on = c.is_ordinary_at.ensures c.loop-next-test.true in
    let more : word_length (drop next octets) ≡ 1 + word_length (drop (next + 1) octets) = rw (add-one next) (rw (word_length_more next octets on) (omega arith)) in
    let onward = c.loop-next.invariant.onward in
    let word = c.loop-next.invariant.word in
    record { onward = omega arith; within = omega (arith, within_word next octets on); word = omega arith }
