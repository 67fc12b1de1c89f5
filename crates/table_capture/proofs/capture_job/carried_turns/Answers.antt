use Rattle.std.proofs.Common.{ap, subst, sym}
use Rattle.traffic.specs.Frames.{by_moment}
use Rattle.table_capture.specs.Words.{AreCarried}
use Rattle.table_capture.proofs.CarriedLaws.{all_judged, kept_carried}
use Rattle.table_capture.proofs.capture_job.carried_turns.Goals as goal

pub turns_of-requires-clause-kept : goal.turns_of-requires-clause-kept
turns_of-requires-clause-kept g c = all_judged c.args.plan.now c.args.streams.now c.requires.kept

pub returns-in-Ok-clause-left : goal.returns-in-Ok-clause-left
returns-in-Ok-clause-left g c = ap by_moment c.in-Ok.ensures

pub returns-in-Ok-clause-carried : goal.returns-in-Ok-clause-carried
returns-in-Ok-clause-carried g c = subst AreCarried (sym (ap by_moment c.in-Ok.ensures)) (kept_carried c.args.plan.now c.args.streams.now c.requires.kept)
