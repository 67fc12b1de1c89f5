use Rattle.std.proofs.Common.{◌&&◌, ◌-◌, ◌∙◌, ap}
use Rattle.schedule_check.specs.Words.{opens}
use Rattle.gates.proofs.TableLaws.{opens_both}
use Rattle.schedule_check.proofs.TurnLaws.{turned_opens}
use Rattle.schedule_check.proofs.windows.newly_open.Goals as goal

pub returns : goal.returns
returns c = λ class low.
    opens_both c.args.mask (255 - c.args.before) class ∙ ap (λ b. opens c.args.mask class && b) (turned_opens c.args.before class c.ranges.before.fits low)
