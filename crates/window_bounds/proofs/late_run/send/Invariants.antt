use Rattle.std.proofs.Common.{◌≡◌, ◌<◌, ◌≤◌, ◌+◌, ◌^◌, All, List, None}
use Rattle.jumping.specs.Position.{StoodBy}
use Rattle.delay_bounds.specs.Walk.{may_by}
use Rattle.window_bounds.specs.Beats.{AreAtBy, IsBeat}
use Rattle.window_bounds.specs.Slots.{HasSent, IsFreeBehind}
use Rattle.window_bounds.specs.declared.beats.Beat.{Beat}
use Rattle.window_bounds.proofs.late_run.send.Given as goal

abbrev pub invariant-loop-i : goal.invariant-loop-i
invariant-loop-i l = record {
  sent : l.next.sent ≡ l.fn.run.sent + l._i;
  free : IsFreeBehind (may_by l.schedule l.class) l.need l.fn.run.free l._i l.next.free;
  soon : 0 < l._i → l.next.free ≤ 2 ^ 80;
  stood : StoodBy l.schedule 0 None l.next.free l.position;
  fine : All IsBeat l.aheads;
  come : (beats : List Beat) → All IsBeat beats → AreAtBy beats l.fn.run.free l.fn.aheads l.fn.run.come
      → AreAtBy beats l.next.free l.aheads l.next.come × HasSent (may_by l.schedule l.class) l.need l.fn.run.free l._i l.limit beats l.fn.run l.next;
  few : 0 < l._i → l.next.come ≤ l.limit;
  small : l.fn.run.most ≤ l.limit → l.next.most ≤ l.limit;
}
