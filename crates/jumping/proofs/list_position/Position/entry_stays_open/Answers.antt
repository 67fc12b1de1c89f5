use Rattle.std.proofs.Common.{◌+◌, ◌-◌, ap, sym, subst, ◌∙◌}
use Rattle.gates.specs.Stay.{TellsOpenTime, stay_lasts}
use Rattle.jumping.proofs.PositionLaws.{entry_open}
use Rattle.jumping.proofs.list_position.Position.entry_stays_open.Goals as goal

pub returns : goal.returns
returns c = λ start held placed unheld.
    let plan = c.args.schedule.now in
    let need = c.args.need in
    let told = c.stay-stay.result in
    let tells = subst (λ i. TellsOpenTime plan i need.class told) c.index.ensures c.stay-stay.ensures.open in
    c.stay_lasts.ensures
    ∙ (ap (λ s. stay_lasts told (need.from - s + need.length)) c.entry_start.ensures
    ∙ sym (entry_open plan c.requires.sound start held need.from c.args.self.now placed unheld need.class need.length told c.requires.some tells))
