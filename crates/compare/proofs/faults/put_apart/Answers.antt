use Rattle.compare.proofs.faults.put_apart.Goals as goal

pub returns : goal.returns
returns g c = rw c.from-2.ensures at (rw c.from.ensures at c.put_parts.ensures)
