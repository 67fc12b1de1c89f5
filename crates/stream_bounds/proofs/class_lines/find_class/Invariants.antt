use Rattle.std.proofs.Common.{◌≡◌, ◌-◌}
use Rattle.stream_bounds.specs.BoundLines.{class_finding_in, first_of}
use Rattle.stream_bounds.proofs.class_lines.find_class.Given as goal

-- the first finding so far, and then that among the classes that are to come
abbrev pub invariant-loop-class : goal.invariant-loop-class
invariant-loop-class l = first_of l.first (class_finding_in l.answers (8 - l.class) l.class) ≡ class_finding_in l.answers 8 0
