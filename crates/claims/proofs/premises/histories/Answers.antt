use Rattle.claims.proofs.premises.histories.Goals as goal

pub returns-clause-stretches : goal.returns-clause-stretches
returns-clause-stretches g c =
    let current = g.met.G.Gates.is_current c.args.held.now c.requires in
    c.stretch_law.ensures 0 (g.G.Gates.moment c.args.held.now) (g.G.Gates.history c.args.held.now) current.rising current.past
