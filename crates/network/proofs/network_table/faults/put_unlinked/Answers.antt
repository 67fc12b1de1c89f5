use Rattle.network.proofs.network_table.faults.put_unlinked.Goals as goal

pub returns : goal.returns
returns g c = rw (c.from.ensures, c.as_slice.ensures, c.as_slice-2.ensures) at c.put_parts.ensures
