use Rattle.std.proofs.Common.{◌+◌, ◌++◌, length, take, ap, ◌∙◌, rules}
use Rattle.std.proofs.lemmas.List.{places, with_items_is}
use Rattle.text.specs.declared.octet_writer.line_writer.TheConstants.{HEAD}
use Rattle.text.proofs.octet_writer.held.Held.append_headed.Goals as goal

pub returns-clause-held : goal.returns-clause-held
returns-clause-held g c = λ yes.
    let held = c.args.self.now in
    let rest = c.args.rest.now in
    ap (take (held.filled + HEAD + length rest)) (with_items_is held.octets c.headed_at.new.octets (search (rules, places)))
    ∙ c.headed_at.ensures ∙ ap (λ l. take held.filled l ++ (c.args.head.now ++ rest)) c.as_mut_slice.ensures.value
