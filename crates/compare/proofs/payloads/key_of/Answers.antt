use Rattle.std.proofs.Common.{List, ℕ, ◌++◌, ap, sym, ◌∙◌}
use Rattle.compare.proofs.PayloadLaws.{numbered_more}
use Rattle.compare.proofs.payloads.key_of.Goals as goal

pub returns : goal.returns
returns g c = λ seen are.
    numbered_more seen c.args.octets.now c.args.numbers.now c.insert.new.self c.extend_from_slice.new.self c.len-number.result c.in_ok-insert.field-0 are
    (sym c.get.ensures.value ∙ sym c.copied.ensures ∙ c.in-None.is) c.len-number.ensures.len
    (c.in_ok-extend_from_slice.ensures.items ∙ ap (λ (l : List ℕ). l ++ c.args.octets.now) c.new-copy.ensures.items) c.in_ok-insert.ensures.updates c.in_ok-insert.ensures.old c.in_ok-insert.ensures.len
