use Rattle.std.proofs.Common.{◌-◌}
use Rattle.text.specs.Writes.{Sent}
use Rattle.drawing.specs.Axis.{each}
use Rattle.drawing.specs.Picture.{lane_text}
use Rattle.drawing.proofs.svg.put_lanes.Given as goal

abbrev pub invariant-loop-lane : goal.invariant-loop-lane
invariant-loop-lane g l = Sent (g.W.Write.contents l.fn.writer) (g.W.Write.contents l.writer) (each (lane_text l.page l.shapes) 0 9) (each (lane_text l.page l.shapes) l.lane (9 - l.lane))
