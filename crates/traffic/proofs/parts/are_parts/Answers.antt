use Rattle.std.proofs.Common.{◌≡◌, true, false, refl, sym, ◌∙◌}
use Rattle.traffic.specs.Words.{is_part}
use Rattle.traffic.proofs.PartLaws.{all_parts, is_said, no_value, part_first}
use Rattle.traffic.proofs.parts.are_parts.Goals as goal

pub returns-in_default-next_word : goal.returns-in_default-next_word
returns-in_default-next_word c = sym (c.parts.invariant ∙ no_value c.in-Some.word.now _ _ c.in-Some.ensures.word c.in_default-next_word.ensures.word.0)

pub returns-then-not-is_part : goal.returns-then-not-is_part
returns-then-not-is_part c =
    let is : is_part c.in-Some.word.now ≡ false = sym c.is_part.ensures ∙ c.if-not-is_part.true in
    sym (c.parts.invariant ∙ part_first c.in-Some.word.now _ _ _ _ false _ c.in-Some.ensures.word c.in-Some-next_word.ensures.word is refl)

pub returns-then-is_some : goal.returns-then-is_some
returns-then-is_some c =
    let is : is_part c.in-Some.word.now ≡ true = sym c.is_part.ensures ∙ c.if-not-is_part.false in
    let again = is_said _ c.value_of.result _ true c.value_of.ensures (sym c.is_some.ensures ∙ c.if-is_some.true) in
    sym (c.parts.invariant ∙ part_first c.in-Some.word.now _ _ _ _ true false c.in-Some.ensures.word c.in-Some-next_word.ensures.word is again)

pub parts-preserved : goal.parts-preserved
parts-preserved c =
    let is : is_part c.in-Some.word.now ≡ true = sym c.is_part.ensures ∙ c.if-not-is_part.false in
    let once = is_said _ c.value_of.result _ false c.value_of.ensures (sym c.is_some.ensures ∙ c.if-is_some.false) in
    c.parts.invariant ∙ part_first c.in-Some.word.now _ _ _ _ true true c.in-Some.ensures.word c.in-Some-next_word.ensures.word is once

pub returns : goal.returns
returns c = sym (c.parts.invariant ∙ all_parts _ c.in_default.ensures.word.0)
