use Rattle.std.proofs.Common.{◌∷◌, [], ◌-◌, arith}
use Rattle.gates.specs.Current.{accepted_at}
use Rattle.gates.specs.History.{IsSound}
use Rattle.claims.proofs.premises.commands.Goals as goal

pub returns-clause-further : goal.returns-clause-further
returns-clause-further g c class n d ends =
    let sound : IsSound (accepted_at c.args.lead c.args.schedule) = record {
      timely = rw (← c.change_moment.ensures.change) c.change_moment.ensures.timely;
      planned = c.len.ensures.sound.plan_is.cycle;
    } in
    let ahead = c.requires.ahead in
    c.further_law.ensures (c.args.lead - 1) (g.G.Gates.history c.args.held.now) (accepted_at c.args.lead c.args.schedule ∷ []) class n d (omega arith, sound, tt) (omega arith)
