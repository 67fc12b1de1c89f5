use Rattle.std.proofs.Common.{◌≡◌, ◌≤◌, length}
use Rattle.text.specs.WordsLeft.{words_left}
use Rattle.network.specs.Network.{way_taken}
use Rattle.network.proofs.network_table.ways.take_way.Given as goal

abbrev pub invariant-hops : goal.invariant-hops
invariant-hops g l = record {
  taken : way_taken l.begin (l.fn.names.items, l.fn.ways.items) (words_left l.fn.words) ≡ way_taken l.begin (l.names.items, l.ways.items) (words_left l.words);
  begin : l.begin ≡ length l.fn.ways.items;
  within : l.begin ≤ length l.ways.items;
}

abbrev pub decreases-hops : goal.decreases-hops
decreases-hops g l = length (words_left l.words)
