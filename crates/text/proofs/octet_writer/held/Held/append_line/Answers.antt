use Rattle.std.proofs.Common.{◌+◌, ◌++◌, take, ap, ◌∙◌, rules}
use Rattle.std.proofs.lemmas.List.{places, with_items_is}
use Rattle.text.proofs.octet_writer.held.Held.append_line.Goals as goal

pub returns-clause-held : goal.returns-clause-held
returns-clause-held g c = λ is.
    let held = c.args.self.now in
    ap (take (held.filled + c.line_at-length.result)) (with_items_is held.octets c.line_at-length.new.octets (search (rules, places)))
    ∙ c.line_at-length.ensures.line ∙ ap (λ l. take held.filled l ++ g.L.Line.text c.args.line.now) c.as_mut_slice.ensures.value
