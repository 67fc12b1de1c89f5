use Rattle.std.proofs.Common.{sym, arith}
use Rattle.traffic.proofs.CountLaws.{none_left, one_left, taken, too_many}
use Rattle.traffic.proofs.room.count_lines.Goals as goal

pub loop-coming-preserved : goal.loop-coming-preserved
loop-coming-preserved c = record {
  tournament = c.in-Some.ensures.tournament;
  few = c.if-count-gt-MAX_LINES.false;
  counted =
      let next = one_left c.loop-coming.written _ _ _ c.in-Some.ensures.left in
      omega (arith, next, c.clock_count.ensures.count, c.loop-coming.invariant.counted);
}

pub returns-then-count-gt-MAX_LINES : goal.returns-then-count-gt-MAX_LINES
returns-then-count-gt-MAX_LINES c =
    let next = one_left c.loop-coming.written _ _ _ c.in-Some.ensures.left in
    sym (too_many _ (omega (arith, next, c.clock_count.ensures.count, c.loop-coming.invariant.counted, c.if-count-gt-MAX_LINES.true)))

pub returns : goal.returns
returns c =
    let none = none_left c.loop-coming.written _ c.in_default.ensures.left in
    sym (taken _ _ (omega (arith, none, c.loop-coming.invariant.counted)) c.loop-coming.invariant.few)
