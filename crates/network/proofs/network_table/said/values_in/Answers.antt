use Rattle.std.proofs.Common.{sym, ◌∙◌}
use Rattle.network.proofs.WordLaws.{value_missing, value_next, values_done}
use Rattle.network.proofs.network_table.said.values_in.Goals as goal

pub returns-in_default-next_word : goal.returns-in_default-next_word
returns-in_default-next_word c = sym (c.values.invariant ∙ value_missing c.values.values c.in-Some.word.now _ _ c.in-Some.ensures.word c.in_default-next_word.ensures.word.0)

pub returns-in-Err : goal.returns-in-Err
returns-in-Err c =
    let is = sym c.with_value.ensures ∙ c.in-Err.is in
    sym (c.values.invariant ∙ value_next c.values.values c.in-Some.word.now _ _ _ _ _ c.in-Some.ensures.word c.in-Some-next_word.ensures.word is)

pub values-preserved : goal.values-preserved
values-preserved c =
    let is = sym c.with_value.ensures ∙ c.in-Ok.is in
    c.values.invariant ∙ value_next c.values.values c.in-Some.word.now _ _ _ _ _ c.in-Some.ensures.word c.in-Some-next_word.ensures.word is

pub returns : goal.returns
returns c = sym (c.values.invariant ∙ values_done c.values.values _ c.in_default.ensures.word.0)
