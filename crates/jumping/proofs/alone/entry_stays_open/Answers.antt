use Rattle.std.proofs.Common.{◌+◌, ◌-◌, None, refl, sym, ap, ◌∙◌, subst}
use Rattle.gates.specs.declared.gate_list.Stay.TheVariants.{Lasts, Always}
use Rattle.gates.specs.Stay.{TellsOpenTime, stay_lasts}
use Rattle.jumping.proofs.PositionLaws.{entry_open}
use Rattle.jumping.proofs.alone.entry_stays_open.Goals as goal

pub returns-in-Always : goal.returns-in-Always
returns-in-Always c =
    let list = c.args.list.now in
    let shown = c.requires.shown in
    let tells = subst (λ i. TellsOpenTime list.schedule i c.args.class Always) (sym shown.index_is) c.in-Always.ensures.open in
    sym (entry_open list.schedule c.requires.schedule list.change None c.args.shown.now.at shown.position shown.stands refl c.args.class c.args.length Always c.requires.some tells)

pub returns-in-Lasts : goal.returns-in-Lasts
returns-in-Lasts c =
    let list = c.args.list.now in
    let shown = c.requires.shown in
    let told = Lasts c.in-Lasts.t in
    let tells = subst (λ i. TellsOpenTime list.schedule i c.args.class told) (sym shown.index_is) c.in-Lasts.ensures.open in
    ap (λ s. stay_lasts told (c.args.shown.now.at - s + c.args.length)) (sym shown.start_is)
    ∙ sym (entry_open list.schedule c.requires.schedule list.change None c.args.shown.now.at shown.position shown.stands refl c.args.class c.args.length told c.requires.some tells)
