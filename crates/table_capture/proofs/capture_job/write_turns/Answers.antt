use Rattle.std.proofs.Common.{refl}
use Rattle.table_capture.proofs.capture_job.write_turns.Goals as goal

pub returns-in-Ok : goal.returns-in-Ok
returns-in-Ok g c = (refl, c.in-Ok.ensures)

pub returns-in-Err : goal.returns-in-Err
returns-in-Err g c = c.in-Err.ensures
