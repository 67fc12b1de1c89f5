use Rattle.std.proofs.Common.{◌≡◌, length, sym, ◌∙◌}
use Rattle.std.proofs.lemmas.Bool.{eqb-true}
use Rattle.port_text.specs.Words.{words_left, some_at}
use Rattle.port_text.proofs.RunLemmas.{some_at-none}
use Rattle.port_text.proofs.tc_reader.lists.take_list.Goals as goal

pub returns-then-is_empty-clause-value : goal.returns-then-is_empty-clause-value
unfolding some_at
returns-then-is_empty-clause-value g c =
    let none : length c.in_ok-found.found.items ≡ 0 = eqb-true (length c.in_ok-found.found.items) 0 (sym c.is_empty.ensures ∙ c.if-is_empty.true) in
    rw c.option.ensures (some_at-none g.row.N g.T.ListValue.option _ c.in_ok-found.found.items (words_left c.take_run.new.words) c.requires none c.in_ok-found.ensures.value)
