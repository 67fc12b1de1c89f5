use Rattle.std.proofs.Common.{drop}
use Rattle.std.specs.List.{flat_map}
use Rattle.schedule_check.specs.Words.{class_word, Sent}
use Rattle.schedule_check.proofs.class_words.put_classes.Given as goal

abbrev pub invariant-loop-class : goal.invariant-loop-class
invariant-loop-class g l = Sent (g.W.Write.contents l.fn.writer) (g.W.Write.contents l.writer) (flat_map class_word l.classes) (flat_map class_word (drop l.class-index l.classes))
