use Rattle.picture.proofs.BandLaws.{step_open, step_closed, step_none}
use Rattle.picture.proofs.class_bands.ClassBands.step.Goals as goal

pub returns-then-is_open : goal.returns-then-is_open
returns-then-is_open g c = rw (← c.self.view_is, c.if-is_open.true) (step_open (record { since = c.self.inside.since; lane = c.self.inside.lane }) c.args.moment c.unwrap_or.result c.unwrap_or.ensures)

pub returns-in-Some : goal.returns-in-Some
returns-in-Some g c = rw (← c.self.view_is, c.if-is_open.false) (step_closed c.self.inside.since c.self.inside.lane c.push_band.new.self c.in-Some.from c.args.moment c.in-Some.is c.push_band.ensures)

pub returns-in-None : goal.returns-in-None
returns-in-None g c = rw (← c.self.view_is, c.if-is_open.false) (step_none c.self.inside.since c.self.inside.lane c.args.moment c.in-None.is)
