use Rattle.plan.proofs.EndLaws.{front_written}
use Rattle.plan.proofs.plan_job.put_note.Goals as goal

pub returns : goal.returns
returns g c = (_, front_written c.put_parts.result _ _ _ c.put_parts.ensures)
