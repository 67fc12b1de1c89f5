use Rattle.std.proofs.Common.{subst}
use Rattle.gates.specs.Gate.{Plan}
use Rattle.gates.specs.Table.{IsTabled}
use Rattle.gates.proofs.RowLaws.{row_stays, row_closed, row_tells}
use Rattle.gates.proofs.gate_list.schedule.Schedule.row.Goals as goal

pub returns-clause-stays : goal.returns-clause-stays
returns-clause-stays c =
    let tabled = subst (λ (p : Plan). IsTabled p c.self.inside.stays) c.self.view_is c.self.invariant in
    row_stays c.args.self.now c.self.inside.stays c.args.i c.stays_at.result tabled c.requires c.stays_at.ensures

pub returns-clause-open : goal.returns-clause-open
returns-clause-open c =
    let tabled = subst (λ (p : Plan). IsTabled p c.self.inside.stays) c.self.view_is c.self.invariant in
    row_tells c.args.self.now tabled.sound.plan_is c.args.i c.stays_at.result c.requires (returns-clause-stays c)

pub returns-clause-unseen : goal.returns-clause-unseen
returns-clause-unseen c =
    let tabled = subst (λ (p : Plan). IsTabled p c.self.inside.stays) c.self.view_is c.self.invariant in
    row_closed c.args.self.now c.self.inside.stays c.args.i c.stays_at.result tabled c.requires c.stays_at.ensures
