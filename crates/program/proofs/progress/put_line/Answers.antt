use Rattle.program.proofs.progress.put_line.Goals as goal

pub returns : goal.returns
returns g c = rw (c.from.ensures, c.rate_of.ensures) at c.put_out.ensures
