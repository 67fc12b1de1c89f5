use Rattle.std.proofs.Common.{◌-◌}
use Rattle.schedule_check.specs.Words.{Sent, open_lines, sharing_line}
use Rattle.schedule_check.proofs.share_lines.put_each.Given as goal

-- what is written and what is to come
abbrev pub invariant-loop-class : goal.invariant-loop-class
invariant-loop-class g l =
    let line = sharing_line l.schedule l.count in
    Sent (g.W.Write.contents l.fn.writer) (g.W.Write.contents l.writer) (open_lines line l.count 0) (open_lines line (l.count - l.class) l.class)
