use Rattle.std.proofs.Common.{◌≤◌, cond, None, Some, ap, ◌∙◌, arith}
use Rattle.std.proofs.lemmas.Bool.{le-leb}
use Rattle.port_text.proofs.tc_reader.lists.U8ListValue.front_value.Goals as goal

pub returns-clause-value : goal.returns-clause-value
returns-clause-value c =
    let class = c.in_ok-class.class in
    let word = c.in_ok-class.ensures.word in
    let small : class ≤ 255 = omega (arith, c.in_ok-class.ensures.bound) in
    (word.0, word.2, word.1.digits, λ _. word.1.number 255 ∙ ap (λ b. cond b (Some class) None) (le-leb class 255 small))
