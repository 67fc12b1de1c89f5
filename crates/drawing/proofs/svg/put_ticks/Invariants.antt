use Rattle.std.proofs.Common.{◌+◌, ◌-◌, ◌*◌}
use Rattle.text.specs.Writes.{Sent}
use Rattle.picture.specs.Ticks.{unit_of}
use Rattle.drawing.specs.Axis.{each, tick_at, ticks_text}
use Rattle.drawing.proofs.svg.put_ticks.Given as goal

abbrev pub invariant-loop-tick : goal.invariant-loop-tick
invariant-loop-tick g l =
    Sent (g.W.Write.contents l.fn.writer) (g.W.Write.contents l.writer) (ticks_text l.page l.step l.first l.last)
    (each (λ tick. tick_at l.page (unit_of l.step) (tick * l.step)) l.tick (l.last + 1 - l.tick))
