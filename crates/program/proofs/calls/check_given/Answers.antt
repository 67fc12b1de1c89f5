use Rattle.program.proofs.calls.check_given.Goals as goal

pub returns-clause-ending : goal.returns-clause-ending
returns-clause-ending g c = λ tell tells.
    rw (c.checks_of.ensures.shares, c.checks_of.ensures.windows, c.checks_of.ensures.script, c.checks_of.ensures.rate, c.checks_of.ensures.mtu, c.checks_of.ensures.map, c.checks_of.ensures.frame) at (c.answer_check.ensures.ending tell tells)

pub returns-clause-unread : goal.returns-clause-unread
returns-clause-unread g c =
    rw (c.checks_of.ensures.shares, c.checks_of.ensures.windows, c.checks_of.ensures.script, c.checks_of.ensures.rate, c.checks_of.ensures.mtu, c.checks_of.ensures.map, c.checks_of.ensures.frame) at c.answer_check.ensures.unread

pub returns-clause-watched : goal.returns-clause-watched
returns-clause-watched g c =
    rw (c.checks_of.ensures.shares, c.checks_of.ensures.windows, c.checks_of.ensures.script, c.checks_of.ensures.rate, c.checks_of.ensures.mtu, c.checks_of.ensures.map, c.checks_of.ensures.frame) at c.answer_check.ensures.watched
