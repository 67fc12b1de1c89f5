use Rattle.std.proofs.Common.{sym}
use Rattle.gates.proofs.gate_list.schedule.Schedule.stays_open.Goals as goal

pub returns-in-Always : goal.returns-in-Always
returns-in-Always c = λ start k. sym (c.in-Always.ensures.open start k c.args.past c.args.for_ps c.requires.within c.requires.shown c.requires.some)

pub returns-in-Lasts : goal.returns-in-Lasts
returns-in-Lasts c = λ start k.
    rw (c.from.ensures, c.from-in-Lasts.ensures)
    (sym (c.in-Lasts.ensures.open start k c.args.past c.args.for_ps c.requires.within c.requires.shown c.requires.some))
