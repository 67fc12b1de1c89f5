use Rattle.summary.proofs.tally.Summary.put_class.Goals as goal

pub returns : goal.returns
returns g c = rw (← c.self.view_is) (rw (c.most.ensures, c.waits.ensures, c.class_in-seen.ensures) at c.put_class_text.ensures)
