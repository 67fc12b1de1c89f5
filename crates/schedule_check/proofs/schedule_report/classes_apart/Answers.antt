use Rattle.schedule_check.proofs.ApartLaws.{found_more, found_all}
use Rattle.schedule_check.proofs.schedule_report.classes_apart.Goals as goal

pub loop-class-preserved : goal.loop-class-preserved
loop-class-preserved c = record {
  found = found_more c.args.count c.loop-class.class c.args.schedule.now.entries _ _ _ c.loop-class-test.true c.loop-class.invariant.found c.add_apart.ensures.items;
  few = c.add_apart.ensures.few;
}

pub returns : goal.returns
returns c = found_all c.args.count c.loop-class.class c.args.schedule.now.entries _ _ c.loop-class-test.false c.loop-class.invariant.found
