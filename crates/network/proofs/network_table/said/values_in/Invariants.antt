use Rattle.std.proofs.Common.{◌≡◌, length}
use Rattle.text.specs.WordsLeft.{words_left}
use Rattle.network.specs.Lines.{no_values, values_from}
use Rattle.network.proofs.network_table.said.values_in.Given as goal

abbrev pub invariant-values : goal.invariant-values
invariant-values l = values_from no_values (words_left l.fn.words) ≡ values_from l.values (words_left l.words)

abbrev pub decreases-values : goal.decreases-values
decreases-values l = length (words_left l.words)
