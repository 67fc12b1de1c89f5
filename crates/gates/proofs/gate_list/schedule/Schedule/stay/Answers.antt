use Rattle.std.proofs.Common.{◌∙◌, subst}
use Rattle.gates.specs.Gate.{Plan}
use Rattle.gates.specs.Table.{IsTabled}
use Rattle.gates.proofs.RowLaws.{stay_soon, stay_late, tell_open}
use Rattle.gates.proofs.gate_list.schedule.Schedule.stay.Goals as goal

pub returns-clause-stay : goal.returns-clause-stay
returns-clause-stay c = λ soon.
    let tabled = subst (λ (p : Plan). IsTabled p c.self.inside.stays) c.self.view_is c.self.invariant in
    c.stay_at.ensures ∙ stay_soon c.args.self.now c.self.inside.stays c.args.i c.args.class tabled c.requires.class c.requires.listed soon

pub returns-clause-open : goal.returns-clause-open
returns-clause-open c =
    let tabled = subst (λ (p : Plan). IsTabled p c.self.inside.stays) c.self.view_is c.self.invariant in
    tell_open c.args.self.now tabled.sound.plan_is c.args.i c.args.class c.stay_at.result c.requires.listed (returns-clause-stay c)

pub returns-clause-unseen : goal.returns-clause-unseen
returns-clause-unseen c = λ late.
    let tabled = subst (λ (p : Plan). IsTabled p c.self.inside.stays) c.self.view_is c.self.invariant in
    c.stay_at.ensures ∙ stay_late c.args.self.now c.self.inside.stays c.args.i c.args.class tabled c.requires.class late
