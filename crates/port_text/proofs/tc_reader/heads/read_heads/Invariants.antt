use Rattle.std.proofs.Common.{length}
use Rattle.port_text.specs.Words.{words_left, Moves}
use Rattle.port_text.proofs.HeadsLemmas.{HeadsSoFar}
use Rattle.port_text.proofs.tc_reader.heads.read_heads.Given as goal

abbrev pub invariant-loop-word : goal.invariant-loop-word
invariant-loop-word l = record {
  moves : Moves l.fn.words l.words;
  so_far : HeadsSoFar (words_left l.fn.words) (words_left l.words) l.seen;
}

abbrev pub decreases-loop-word : goal.decreases-loop-word
decreases-loop-word l = length (words_left l.words)
