use Rattle.std.proofs.Common.{sym, ap, ◌∙◌, rules}
use Rattle.std.specs.Int.{to_le_bytes, w64}
use Rattle.std.proofs.lemmas.Bool.{eqb-true}
use Rattle.std.proofs.lemmas.Nat.{le_bytes_8}
use Rattle.text.proofs.words.cursor.are_eight.Goals as goal

pub returns : goal.returns
returns c = λ same.
    let one = le_bytes_8 c.args.octets c.from_le_bytes.result (search rules) (search rules) (search rules) in
    let other = le_bytes_8 c.args.text c.from_le_bytes-2.result (search rules) (search rules) (search rules) in
    sym one ∙ (ap (to_le_bytes w64) (eqb-true c.from_le_bytes.result c.from_le_bytes-2.result same) ∙ other)
