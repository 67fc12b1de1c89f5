use Rattle.std.proofs.Common.{arith, List, ℕ, ◌+◌, ◌∷◌, ap, sym, take, ◌∙◌}
use Rattle.std.proofs.lemmas.List.{take_rest}
use Rattle.compare.specs.Fields.{fields_in}
use Rattle.compare.proofs.FieldLaws.{first_field, one_field}
use Rattle.compare.proofs.fields.split_field.Goals as goal

pub returns-then-end-line-clause-fields : goal.returns-then-end-line-clause-fields
returns-then-end-line-clause-fields c =
    let line = c.args.line.now in
    let end = c.front_length-end.result in
    first_field line end c.front_length-end.ensures.place c.if-end-line.true
    ∙ ap (λ (rest : List ℕ). take end line ∷ fields_in rest) (sym (take_rest line (end + 1)))

pub returns-else-end-line-clause-fields : goal.returns-else-end-line-clause-fields
returns-else-end-line-clause-fields c =
    one_field c.args.line.now c.front_length-end.result c.front_length-end.ensures.place (omega (arith, c.front_length-end.ensures.within, c.if-end-line.false))
