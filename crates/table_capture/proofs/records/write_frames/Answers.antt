use Rattle.std.proofs.Common.{subst}
use Rattle.std.proofs.lemmas.Result.{err_from_is_err_and}
use Rattle.text.proofs.Fronts.{sent_all, sent_exit, sent_more, sent_none}
use Rattle.table_capture.specs.Words.{AreCarried}
use Rattle.table_capture.proofs.RecordLaws.{next_record, no_records}
use Rattle.table_capture.proofs.records.write_frames.Goals as goal

pub loop-coming-init : goal.loop-coming-init
loop-coming-init g c = record { room = c.requires.room; tournament = c.requires.tournament; carried = c.requires.carried; sent = sent_none _ _ }

pub put_frame-requires-clause-carried : goal.put_frame-requires-clause-carried
put_frame-requires-clause-carried g c = (subst AreCarried c.in-Some.ensures.left c.loop-coming.invariant.carried).0

pub loop-coming-preserved : goal.loop-coming-preserved
loop-coming-preserved g c = record {
  room = c.in_ok-put_frame.ensures.room;
  tournament = c.in-Some.ensures.tournament;
  carried = (subst AreCarried c.in-Some.ensures.left c.loop-coming.invariant.carried).1;
  sent = sent_more _ _ _ c.loop-coming.invariant.sent (next_record _ _ _ c.in-Some.ensures.left) c.in_ok-put_frame.ensures.record;
}

pub returns-in_err-put_frame : goal.returns-in_err-put_frame
returns-in_err-put_frame g c =
    let p = err_from_is_err_and c.from_residual.result c.from_residual.ensures.1 in
    sent_exit _ _ _ p.1 c.loop-coming.invariant.sent (next_record _ _ _ c.in-Some.ensures.left) c.in_err-put_frame.ensures.record

pub returns : goal.returns
returns g c = sent_all c.loop-coming.invariant.sent (no_records _ c.in_default.ensures.left)
