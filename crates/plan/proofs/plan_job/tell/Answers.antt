use Rattle.plan.proofs.plan_job.tell.Goals as goal

pub returns-in-Plan : goal.returns-in-Plan
returns-in-Plan g c = rw c.if-not-explain.false c.put_note.ensures
