use Rattle.std.proofs.Common.{◌<◌, ap, arith}
use Rattle.frame_table.specs.Words.{greatest_moment, judged_rows}
use Rattle.frame_table.proofs.AlertLaws.{told_nil}
use Rattle.frame_table.proofs.RowLaws.{goes_back, goes_too_far, no_row_back, no_row_too_far}
use Rattle.frame_table.proofs.table_run.take_clock.Goals as goal
use Rattle.frame_table.proofs.table_run.take_clock.Goals.{else-now-until-via-then-now-until+else-until-le-MAX_MOMENT, else-now-until-via-else-now-until}

pub returns-else-now-until-clause-after : goal.returns-else-now-until-clause-after
returns-else-now-until-clause-after g c =
    elim c.else-now-until.branch [
      | else-now-until-via-then-now-until+else-until-le-MAX_MOMENT w ↦
          let far : greatest_moment < c.args.until = let no = w.if-until-le-MAX_MOMENT.false in omega (arith, no) in
          goes_too_far c.args.until c.args.port.now.port c.args.arrivals.now far c.now.ensures.sound
      | else-now-until-via-else-now-until w ↦
          let less : c.args.until < c.args.port.now.port.now = let no = w.if-now-until.false in let now = c.now.ensures.now in omega (arith, no, now) in
          goes_back c.args.until c.args.port.now.port c.args.arrivals.now less c.now.ensures.sound
    ]

pub returns-else-now-until-clause-alerts : goal.returns-else-now-until-clause-alerts
returns-else-now-until-clause-alerts g c =
    elim c.else-now-until.branch [
      | else-now-until-via-then-now-until+else-until-le-MAX_MOMENT w ↦
          let far : greatest_moment < c.args.until = let no = w.if-until-le-MAX_MOMENT.false in omega (arith, no) in
          told_nil g.H.Watch.alerted g.met.H.Watch.nothing _ c.args.watch.now (ap (judged_rows c.args.streams.now) (no_row_too_far c.args.until c.args.port.now.port c.args.arrivals.now far))
      | else-now-until-via-else-now-until w ↦
          let less : c.args.until < c.args.port.now.port.now = let no = w.if-now-until.false in let now = c.now.ensures.now in omega (arith, no, now) in
          told_nil g.H.Watch.alerted g.met.H.Watch.nothing _ c.args.watch.now (ap (judged_rows c.args.streams.now) (no_row_back c.args.until c.args.port.now.port c.args.arrivals.now less))
    ]
