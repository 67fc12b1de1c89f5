use Rattle.std.proofs.Common.{drop}
use Rattle.std.specs.List.{flat_map}
use Rattle.port_text.specs.Part.{text_of}
use Rattle.text.specs.Writes.{Sent}
use Rattle.port_text.proofs.answer_text.text_writer.put_each.Given as goal

abbrev pub invariant-loop-part : goal.invariant-loop-part
invariant-loop-part g l = Sent (g.W.Write.contents l.fn.writer) (g.W.Write.contents l.writer) (flat_map text_of l.parts) (flat_map text_of (drop l.part-index l.parts))
