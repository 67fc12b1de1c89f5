use Rattle.drawing.proofs.draw_run.end_bands.Goals as goal

pub returns : goal.returns
returns g c = (c.follow_to.new.bands, (c.follow_to.ensures, record { whole = c.end.ensures.classes; mixed = c.end.ensures.mixed }))
