use Rattle.std.proofs.Common.{Option, ap, refl}
use Rattle.schedule_check.specs.Words.{Plan, PlanFault, ok_unless, plan_fault, plan_with}
use Rattle.schedule_check.proofs.TurnLaws.{other_made, other_turned}
use Rattle.schedule_check.proofs.windows.turned_schedule.Goals as goal

pub unreachable-requires : goal.unreachable-requires
unreachable-requires c =
    let plan : Plan = plan_with c.args.list.now c.args.base_ns c.args.cycle_ns c.args.extension_ns in
    absurd (other_made c.args.rate c.args.list.now c.args.base_ns c.args.cycle_ns c.args.extension_ns plan (ok_unless (plan_fault c.args.rate plan) plan) refl
    (ap (λ (o : Option PlanFault). ok_unless o plan) c.requires) _ c.turned_list.ensures _ c.new.ensures _ c.in-Err.is)

pub returns : goal.returns
returns c =
    let plan : Plan = plan_with c.args.list.now c.args.base_ns c.args.cycle_ns c.args.extension_ns in
    other_turned c.args.rate c.args.list.now c.args.base_ns c.args.cycle_ns c.args.extension_ns plan (ok_unless (plan_fault c.args.rate plan) plan) refl
    (ap (λ (o : Option PlanFault). ok_unless o plan) c.requires) _ c.turned_list.ensures _ c.new.ensures _ c.in-Ok.is
