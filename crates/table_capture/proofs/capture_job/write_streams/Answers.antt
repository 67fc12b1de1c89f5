use Rattle.std.proofs.Common.{Err, List, ap, ◌∙◌, subst}
use Rattle.std.proofs.lemmas.Result.{err_from_is_err_and}
use Rattle.table_capture.specs.Words.{AreCarried, Runs, left_of_all, whole_capture}
use Rattle.traffic.specs.declared.course.Coming.{Coming}
use Rattle.table_capture.proofs.OutcomeLaws.{starved}
use Rattle.table_capture.proofs.RoomLaws.{fresh_room}
use Rattle.table_capture.proofs.capture_job.write_streams.Goals as goal

pub returns-in_err-turns : goal.returns-in_err-turns
returns-in_err-turns g c =
    let p = err_from_is_err_and c.from_residual.result c.from_residual.ensures.1 in
    starved {T = Unit {0}} _ _ (p.1 ∙ ap Err p.2)

pub returns-in_err-nodes : goal.returns-in_err-nodes
returns-in_err-nodes g c =
    let p = err_from_is_err_and c.from_residual-in_err-nodes.result c.from_residual-in_err-nodes.ensures.1 in
    starved {T = Unit {0}} _ _ (p.1 ∙ ap Err p.2)

pub returns-in_err-room : goal.returns-in_err-room
returns-in_err-room g c =
    let p = err_from_is_err_and c.from_residual-in_err-room.result c.from_residual-in_err-room.ensures.1 in
    starved {T = Unit {0}} _ _ (p.1 ∙ ap Err p.2)

pub write_turns-requires-clause-room : goal.write_turns-requires-clause-room
write_turns-requires-clause-room g c = fresh_room _ (c.as_mut_slice.ensures.value ∙ c.in_ok-room.ensures)

pub write_turns-requires-clause-carried : goal.write_turns-requires-clause-carried
write_turns-requires-clause-carried g c = rw c.as_mut_slice-turns.ensures.value c.in_ok-turns.ensures.carried

pub returns : goal.returns
returns g c =
    let P : List Coming → Type 0 = λ frames. Runs c.write_turns.result (g.W.Write.contents c.args.writer.now) (g.W.Write.contents c.write_turns.new.writer) (whole_capture frames) in
    subst P (ap left_of_all c.as_mut_slice-turns.ensures.value ∙ c.in_ok-turns.ensures.left) c.write_turns.ensures
