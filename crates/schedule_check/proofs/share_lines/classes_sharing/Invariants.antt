use Rattle.std.proofs.Common.{◌≡◌, ◌≤◌, ◌++◌, ◌-◌}
use Rattle.schedule_check.specs.Words.{array_vec_len, classes_sharing}
use Rattle.schedule_check.proofs.share_lines.classes_sharing.Given as goal

-- what is found and what is to come
abbrev pub invariant-loop-other : goal.invariant-loop-other
invariant-loop-other l = record {
  found : l.others.items ++ classes_sharing l.schedule l.class (l.count - l.other) l.other ≡ classes_sharing l.schedule l.class l.count 0;
  few : array_vec_len l.others ≤ l.other;
}
