use Rattle.std.proofs.Common.{◌++◌, ◌+◌, drop, sym, ap, ◌∙◌, append_assoc}
use Rattle.std.proofs.lemmas.List.{append-nil, at_drop_more, at_drop_all}
use Rattle.std.specs.List.{flat_map}
use Rattle.port_text.specs.Part.{text_of}
use Rattle.port_text.proofs.answer_text.text_writer.add_parts.Goals as goal

pub loop-part-preserved : goal.loop-part-preserved
loop-part-preserved c =
    let rest = flat_map text_of (drop (c.loop-part.part-index + 1) c.args.parts.now) in
    let more = at_drop_more (flat_map text_of) c.args.parts.now c.loop-part.part-index _ c.loop-part-test.true in
    ap (λ t. t ++ rest) (c.add_part.ensures c.if-not-add_part.false) ∙ append_assoc c.loop-part.line.items _ rest ∙ ap (λ t. c.loop-part.line.items ++ t) (sym more) ∙ c.loop-part.invariant

pub returns : goal.returns
returns c = λ is.
    let none = at_drop_all (flat_map text_of) c.args.parts.now c.loop-part.part-index c.loop-part-test.false in
    sym (append-nil c.loop-part.line.items) ∙ ap (λ t. c.loop-part.line.items ++ t) (sym none) ∙ c.loop-part.invariant
