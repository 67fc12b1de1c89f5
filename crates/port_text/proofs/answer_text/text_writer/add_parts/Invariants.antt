use Rattle.std.proofs.Common.{◌≡◌, ◌++◌, drop}
use Rattle.std.specs.List.{flat_map}
use Rattle.port_text.specs.Part.{text_of}
use Rattle.port_text.proofs.answer_text.text_writer.add_parts.Given as goal

-- what was appended and what is to come are the text
abbrev pub invariant-loop-part : goal.invariant-loop-part
invariant-loop-part l = l.line.items ++ flat_map text_of (drop l.part-index l.parts) ≡ l.fn.line.items ++ flat_map text_of l.parts
