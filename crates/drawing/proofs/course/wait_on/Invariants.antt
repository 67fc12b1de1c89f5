use Rattle.std.proofs.Common.{◌≡◌, drop}
use Rattle.drawing.specs.Words.{waiting_in, waits_on}
use Rattle.drawing.proofs.course.wait_on.Given as goal

-- The waits that are drawn, and then those to come, are all.
abbrev pub invariant-loop-place : goal.invariant-loop-place
invariant-loop-place g l =
    waits_on l.class l.upto (drop l.place (waiting_in l.arrivals l.class).moments) l.shapes ≡ waits_on l.class l.upto (waiting_in l.arrivals l.class).moments l.fn.shapes
