use Rattle.schedule_check.proofs.SharingLaws.{sharing_more, sharing_all}
use Rattle.schedule_check.proofs.share_lines.classes_sharing.Goals as goal

pub loop-other-preserved : goal.loop-other-preserved
loop-other-preserved c = record {
  found = sharing_more c.args.schedule.now c.args.class c.args.count c.loop-other.other _ _ _ c.loop-other-test.true c.loop-other.invariant.found c.add_sharing.ensures.items;
  few = c.add_sharing.ensures.few;
}

pub returns : goal.returns
returns c = sharing_all c.args.schedule.now c.args.class c.args.count c.loop-other.other _ _ c.loop-other-test.false c.loop-other.invariant.found
