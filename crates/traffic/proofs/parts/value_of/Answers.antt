use Rattle.std.proofs.Common.{◌≡◌, true, false, ◌∙◌, rules}
use Rattle.std.specs.Str.{bytes_eq}
use Rattle.traffic.proofs.PartLaws.{none_behind, none_of, other_part, this_part}
use Rattle.traffic.proofs.parts.value_of.Goals as goal

pub returns-then-eq : goal.returns-then-eq
returns-then-eq c =
    let is : bytes_eq c.in-Some.word.now c.args.name.now ≡ true = search rules in
    c.parts.invariant ∙ this_part c.args.name.now c.in-Some.word.now _ _ _ _ c.in-Some.ensures.word c.in-Some-next_word.ensures.word is

pub parts-preserved : goal.parts-preserved
parts-preserved c =
    let is : bytes_eq c.in-Some.word.now c.args.name.now ≡ false = search rules in
    c.parts.invariant ∙ other_part c.args.name.now c.in-Some.word.now _ _ _ _ c.in-Some.ensures.word c.in-Some-next_word.ensures.word is

pub returns : goal.returns
returns c = c.parts.invariant ∙ none_of c.args.name.now _ c.in_default.ensures.word.0

pub returns-in_default-next_word : goal.returns-in_default-next_word
returns-in_default-next_word c = c.parts.invariant ∙ none_behind c.args.name.now c.in-Some.word.now _ _ c.in-Some.ensures.word c.in_default-next_word.ensures.word.0
