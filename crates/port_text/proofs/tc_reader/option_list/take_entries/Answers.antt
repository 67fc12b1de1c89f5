use Rattle.std.proofs.Common.{◌≡◌, ◌-◌, length, ◌∙◌, arith}
use Rattle.port_text.specs.Words.{words_left, words_taken, total, view}
use Rattle.port_text.proofs.ReadsLemmas.{SoFar-took}
use Rattle.port_text.proofs.tc_reader.option_list.take_entries.Goals as goal

pub entries-smaller : goal.entries-smaller
entries-smaller c =
    let onward = c.take_entry_on.ensures.onward c.entries-test.true in
    omega (arith, onward, c.take_entry_on.ensures.moves.0, c.take_entry_on.ensures.moves.1)

pub entries-preserved : goal.entries-preserved
entries-preserved c =
    let l = c.entries in
    let took = rw c.entries-test.true at c.take_entry_on.ensures.next in
    let at : words_taken l.after ≡ total c.args.words.now - length (words_left l.after) = omega (arith, l.invariant.moves.0) in
    record {
      moves = (c.take_entry_on.ensures.moves.0 ∙ l.invariant.moves.0, omega (arith, l.invariant.moves.1, c.take_entry_on.ensures.moves.1));
      so_far = λ start was. SoFar-took (total c.args.words.now) start (words_left l.after) (words_left c.take_entry_on.new.words) (view l.given) (view c.take_entry_on.new.given) (words_taken l.after) took at (l.invariant.so_far start was);
    }
