use Rattle.std.proofs.Common.{◌-◌}
use Rattle.schedule_check.specs.Words.{Sent, Teller, IsTeller, class_line, open_lines, plan_asked}
use Rattle.schedule_check.proofs.window_lines.put_windows.Given as goal

-- what is written and what is to come
abbrev pub invariant-loop-class : goal.invariant-loop-class
invariant-loop-class g l = (tell : Teller) → IsTeller tell →
    let line = class_line l.settings l.change (tell l.settings.rate (plan_asked l.change)) in
    Sent (g.W.Write.contents l.fn.writer) (g.W.Write.contents l.writer) (open_lines line l.count 0) (open_lines line (l.count - l.class) l.class)
