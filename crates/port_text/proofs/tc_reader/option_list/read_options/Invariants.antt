use Rattle.std.proofs.Common.{◌≡◌, length}
use Rattle.port_text.specs.Words.{words_left, total, view, SoFar}
use Rattle.port_text.proofs.tc_reader.option_list.read_options.Given as goal

abbrev pub invariant-options : goal.invariant-options
invariant-options l = record {
  count : total l.rest ≡ total l.fn.words;
  so_far : SoFar (total l.fn.words) (words_left l.fn.words) (words_left l.rest) (view l.given);
}

abbrev pub decreases-options : goal.decreases-options
decreases-options l = length (words_left l.rest)
