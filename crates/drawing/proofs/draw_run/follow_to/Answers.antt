use Rattle.drawing.proofs.draw_run.follow_to.Goals as goal

pub returns : goal.returns
returns g c = record { mid = c.begin_shown.new.bands; begun = c.begin_shown.ensures; gone = c.go_on.ensures }
