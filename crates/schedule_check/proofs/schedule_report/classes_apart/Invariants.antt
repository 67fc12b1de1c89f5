use Rattle.std.proofs.Common.{◌≡◌, ◌≤◌, ◌++◌, ◌-◌}
use Rattle.schedule_check.specs.Words.{array_vec_len, classes_apart}
use Rattle.schedule_check.proofs.schedule_report.classes_apart.Given as goal

-- what is found and what is to come
abbrev pub invariant-loop-class : goal.invariant-loop-class
invariant-loop-class l = record {
  found : l.classes.items ++ classes_apart (l.count - l.class) l.class l.schedule.entries ≡ classes_apart l.count 0 l.schedule.entries;
  few : array_vec_len l.classes ≤ l.class;
}
