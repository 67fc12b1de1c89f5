use Rattle.plan.proofs.reasons.put_reason.Goals as goal

pub returns-in-Deadline : goal.returns-in-Deadline
returns-in-Deadline g c = rw c.in-Deadline.is (rw c.from-in-Deadline.ensures at c.put_number-in-Deadline.ensures)

pub returns-in-Lost : goal.returns-in-Lost
returns-in-Lost g c = rw c.in-Lost.is (rw c.from-in-Lost.ensures at c.put_number-in-Lost.ensures)

pub returns-in-Cycle : goal.returns-in-Cycle
returns-in-Cycle g c = rw c.in-Cycle.is c.put_parts-in-Cycle.ensures
