use Rattle.network.proofs.network_table.faults.put_twice.Goals as goal

pub returns : goal.returns
returns g c = rw (c.from.ensures, c.as_slice.ensures) at c.put_parts.ensures
